-- What is written for an event that was read.
use Rattle.std.specs.Prelude.{◌≡◌, ◌<◌, ◌^◌, ◌++◌, ℕ, List, [], Option, Some, IfSome}
use Rattle.wire_buf.specs.Encoding.{AreBytes}
use Rattle.events_frames.specs.Footers.{ChecksumSettings}
use Rattle.events_frames.specs.EventParts.{Parts, IsEvent}
use Rattle.events_frames.specs.CoveredBytes.{covered}
use Rattle.events_owned.specs.Files.{File, ReturnsEvent}
use Rattle.events_owned.specs.WrittenEvents.{bytes_before_checksum, IsWritten}

-- the checksum of an event, if it has one, is the function's result for the event's bytes
abbrev pub HasOwnSum : (List ℕ → ℕ → Type 0) → Parts → Type 0
HasOwnSum is_sum p = (prefix : List ℕ) (stored sum : ℕ) → bytes_before_checksum p ≡ Some prefix → p.checksum ≡ Some stored → is_sum (covered prefix) sum → stored ≡ sum

-- An event that was read, and whose checksum is the function's, is written as the same bytes.
abbrev pub IsWrittenBack : (List ℕ → ℕ → Type 0) → Type 0
IsWrittenBack is_sum =
    (in_force : ChecksumSettings) (p : Parts) (event bytes : List ℕ) → AreBytes event → IsEvent in_force p event → HasOwnSum is_sum p → IsWritten is_sum p bytes → bytes ≡ event

-- the bytes are an event with these parts, except that its checksum, if it has one, is the function's result
pub record IsWithSum (is_sum : List ℕ → ℕ → Type 0) (in_force : ChecksumSettings) (p : Parts) (bytes : List ℕ) : Type 0 where
  pub checksum : Option ℕ
  pub is : IsEvent in_force (record p { checksum = checksum }) bytes
  pub own : IfSome checksum (λ sum. (prefix : List ℕ) × (bytes_before_checksum p ≡ Some prefix) × is_sum (covered prefix) sum)

-- What is written for an event that was read is read again with the same parts, except that its checksum is the function's, in 32 bits.
abbrev pub IsReadWithSum : (List ℕ → ℕ → Type 0) → Type 0
IsReadWithSum is_sum =
    (in_force : ChecksumSettings) (p : Parts) (event bytes : List ℕ) → AreBytes event → IsEvent in_force p event → ((prefix : List ℕ) (sum : ℕ) → is_sum prefix sum → sum < 2 ^ 32)
    → IsWritten is_sum p bytes → IsWithSum is_sum in_force p bytes

-- the bytes that are written for the events that a file returned, in order; the checksum of each is the function's
pub data WritesAll (is_sum : List ℕ → ℕ → Type 0) (first : File) : List ℕ → File → Type 0 where
  NoEvent : WritesAll is_sum first [] first
  OneMore : (older bytes : List ℕ) (old new : File) (p : Parts) → WritesAll is_sum first older old → ReturnsEvent old new p → HasOwnSum is_sum p → IsWritten is_sum p bytes → WritesAll is_sum first (older ++ bytes) new

-- The events that a file returned, each written, are the bytes that were read of it.
abbrev pub IsFileWrittenBack : (List ℕ → ℕ → Type 0) → Type 0
IsFileWrittenBack is_sum =
    (first last : File) (bytes remaining written : List ℕ) → AreBytes bytes → first.remaining ≡ Some bytes → last.remaining ≡ Some remaining → WritesAll is_sum first written last → bytes ≡ written ++ remaining
