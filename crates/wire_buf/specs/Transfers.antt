-- The bytes moved from a reader and to a writer whose bytes may be known, in full and before an error.
use Rattle.std.specs.Prelude.{◌≡◌, ◌++◌, ◌≤◌, ◌<◌, ◌⊎◌, ℕ, List, length, take, Option}
use Rattle.std.specs.Io.KnownBytes.{Consumes, Appends, IsAtEnd}
use Rattle.wire_buf.specs.declared.fault.WireFault.{WireFault}
use Rattle.wire_buf.specs.declared.fault.WireFault.TheVariants.{Eof, Memory, Read}

-- why no more bytes were taken: the reader ended after `count` bytes, fewer than n, or it failed
abbrev pub IsEndOrFailure : WireFault → ℕ → ℕ → Option (List ℕ) → Type 0
IsEndOrFailure fault count n new = ((fault ≡ Eof) × IsAtEnd new × (count < n)) ⊎ (fault ≡ Read)

-- at most n bytes were taken: the reader ended before n, or it failed
pub record FallsShort (fault : WireFault) (n : ℕ) (old new : Option (List ℕ)) : Type 0 where
  pub taken : List ℕ
  pub consumed : Consumes old new taken
  pub within : length taken ≤ n
  pub cause : IsEndOrFailure fault (length taken) n new

-- at most n bytes were taken and appended: the reader ended before n, it failed, or memory ran out
pub record GathersPrefix (fault : WireFault) (n : ℕ) (old new : Option (List ℕ)) (before after : List ℕ) : Type 0 where
  pub taken : List ℕ
  pub consumed : Consumes old new taken
  pub within : length taken ≤ n
  pub appended : after ≡ before ++ taken
  pub cause : IsEndOrFailure fault (length taken) n new ⊎ (fault ≡ Memory)

-- the next n bytes were taken and appended
pub record Gathers (n : ℕ) (old new : Option (List ℕ)) (before after : List ℕ) : Type 0 where
  pub taken : List ℕ
  pub consumed : Consumes old new taken
  pub size : length taken ≡ n
  pub appended : after ≡ before ++ taken

-- a buffer was filled with the bytes that were taken, from offset `at` up to offset `filled`, and is unchanged before `at`
pub record Fills (at filled : ℕ) (old new : Option (List ℕ)) (before after : List ℕ) : Type 0 where
  pub taken : List ℕ
  pub consumed : Consumes old new taken
  pub begun : at ≤ filled
  pub within : filled ≤ length after
  pub joined : take filled after ≡ take at before ++ taken

-- a prefix of the bytes was written: none, some or all of them
pub record WritesPrefix (bytes : List ℕ) (old new : Option (List ℕ)) : Type 0 where
  pub count : ℕ
  pub appended : Appends old new (take count bytes)
