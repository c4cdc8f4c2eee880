-- Bytes that wait to be written, and the result of writing some.
use Rattle.std.specs.Prelude.{◌≡◌, ◌++◌, ℕ, List, take, Option}
use Rattle.std.specs.Io.KnownBytes.{Appends}
use Rattle.feed_transactions.specs.declared.waiting.WaitingBytes.{WaitingBytes}

-- the bytes that wait
unfoldable pub bytes_of : WaitingBytes → List ℕ
bytes_of w = take w.len w.buffer.items

-- of the bytes that waited and the next ones a prefix was written, and the others wait
pub record WritesSome (old new : Option (List ℕ)) (before next after : List ℕ) : Type 0 where
  pub bytes : List ℕ
  pub written : Appends old new bytes
  pub joined : before ++ next ≡ bytes ++ after
