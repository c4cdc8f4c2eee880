-- A reader of a log that bytes may be put back into, and the first and the last bytes that it keeps of those that it read.
use Rattle.std.specs.Prelude.{◌≡◌, ◌-◌, ◌++◌, ◌==◌, ℕ, List, [], length, take, drop, Option, option_map, if◌then◌else◌}
use Rattle.changes_commands.specs.declared.log_reader.KeptBytes.{KeptBytes}
use Rattle.changes_commands.specs.declared.log_reader.LogReader.{LogReader}

-- the bytes that were put back and not read again
abbrev pub left_back : {R : Type 0} → LogReader R → List ℕ
left_back r = drop r.given r.back.items

-- the bytes that are left in it: those that were put back, and those of its own reader
abbrev pub left_in : {R : Type 0} → (R → Option (List ℕ)) → LogReader R → Option (List ℕ)
left_in remaining r = option_map (λ (b : List ℕ). left_back r ++ b) (remaining r.reader)

-- the last 1,024 of some bytes, or all if there are fewer
abbrev pub last_bytes : List ℕ → List ℕ
last_bytes b = drop (length b - 1024) b

-- the first bytes and the last ones that are kept
abbrev pub first_kept : KeptBytes → List ℕ
first_kept k = take k.first_len k.first

abbrev pub last_kept : KeptBytes → List ℕ
last_kept k = take k.last_len k.last

abbrev pub first_of : {R : Type 0} → LogReader R → List ℕ
first_of r = first_kept r.kept

abbrev pub last_of : {R : Type 0} → LogReader R → List ℕ
last_of r = last_kept r.kept

-- those of the log that a read gave; bytes that were put back were read before
abbrev pub fresh : {R : Type 0} → LogReader R → List ℕ → List ℕ
fresh r bytes = if length (left_back r) == 0 then bytes else []

-- the first 1,024 bytes that were read so far are kept, and the last 1,024 of them, with those of this read
pub record KeepsRead {R : Type 0} (old new : LogReader R) (bytes : List ℕ) : Type 0 where
  pub first : first_of new ≡ take 1024 (first_of old ++ fresh old bytes)
  pub last : last_of new ≡ last_bytes (last_of old ++ fresh old bytes)

-- the bytes that are kept are unchanged
pub record KeepsNone {R : Type 0} (old new : LogReader R) : Type 0 where
  pub first : first_of new ≡ first_of old
  pub last : last_of new ≡ last_of old
