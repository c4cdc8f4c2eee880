-- How much of a log's magic number has arrived: the bytes fe 62 69 6e, with which a binary log file begins.
use Rattle.std.specs.Prelude.{◌≡◌, ◌+◌, ℕ, Bool, true, false, List, length, take, drop, min, nat_eq}
use Rattle.std.specs.Cmp.Lexicographic.{pointwise}
use Rattle.feed_checks.specs.LogFormat.{magic_number}
use Rattle.library_log.specs.declared.magic_number.MagicNumber.{MagicNumber}

abbrev pub arrived : MagicNumber → List ℕ
arrived m = take m.taken magic_number

-- how many bytes of a piece belong to the number, if any do
abbrev pub part_len : MagicNumber → List ℕ → ℕ
part_len m piece = min (length (drop m.taken magic_number)) (length piece)

-- whether these bytes are the next of the number
abbrev pub is_next_part : MagicNumber → List ℕ → Bool
is_next_part m piece = pointwise nat_eq (take (part_len m piece) piece) (take (part_len m piece) (drop m.taken magic_number))

-- the first bytes of a piece were the next of the number, and these follow them
pub record TakesPart (old new : MagicNumber) (piece rest : List ℕ) : Type 0 where
  pub taken : new.taken ≡ old.taken + part_len old piece
  pub part : is_next_part old piece ≡ true
  pub rest_is : rest ≡ drop (part_len old piece) piece

-- the first bytes of a piece aren't the next of the number
abbrev pub IsOther : MagicNumber → List ℕ → Type 0
IsOther old piece = is_next_part old piece ≡ false
