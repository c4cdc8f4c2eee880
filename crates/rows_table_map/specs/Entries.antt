-- The entries of lists in the optional metadata of a table map: length-encoded integers, strings, and pairs of integers (MySQL Internals: Table_map_event).
use Rattle.std.specs.Prelude.{ℕ, List, length, take, drop, Option, Some, None, nat_le, if◌then◌else◌}
use Rattle.std.specs.declared.result.Result.TheVariants.{Ok, Err}
use Rattle.wire_buf.specs.Encoding.{Encoding, Alone, Both}
use Rattle.wire_buf.specs.Numbers.{IsLenenc, IsLenencString}
use Rattle.wire_buf.specs.LenencSplit.{split_lenenc}
use Rattle.wire_fields.specs.IntFaults.{lenenc_fault}
use Rattle.rows_errors.specs.ConvertedFaults.{rows_error}
use Rattle.rows_errors.specs.declared.fault.RowsError.{RowsError}
use Rattle.rows_errors.specs.declared.fault.RowsError.TheVariants.{EndOfBody}
use Rattle.rows_errors.specs.Readings.{Reading, ◌>>=◌}

-- the encodings of entries: a length-encoded integer, a length-encoded string, two length-encoded integers
abbrev pub NumberEncoding : Encoding ℕ
NumberEncoding = Alone IsLenenc

abbrev pub StringEncoding : Encoding (List ℕ)
StringEncoding = Alone IsLenencString

abbrev pub PairEncoding : Encoding (ℕ × ℕ)
PairEncoding = Both NumberEncoding NumberEncoding

-- The rest of this file computes the entry that bytes begin with, as the law `entries_are_read` says.

-- a value, or this error if there is none
abbrev pub found : {A : Type 0} → RowsError → Option A → Reading A
found e None = Err e
found e (Some x) = Ok x

-- the first n bytes, and the bytes after them
abbrev pub split_at : ℕ → List ℕ → Reading (List ℕ × List ℕ)
split_at n bytes = if nat_le n (length bytes) then Ok (take n bytes, drop n bytes) else Err EndOfBody

-- a length-encoded integer and the bytes after it: `UnknownNumber` if the first byte is 251 or 255, which begin no such integer, `EndOfBody` if bytes are missing
abbrev pub lenenc_at : List ℕ → Reading (ℕ × List ℕ)
lenenc_at bytes = found (rows_error (lenenc_fault bytes)) (split_lenenc bytes)

-- a length-encoded string
abbrev pub string_at : List ℕ → Reading (List ℕ × List ℕ)
string_at bytes = lenenc_at bytes >>= λ size. split_at size.0 size.1

-- two length-encoded integers
abbrev pub pair_at : List ℕ → Reading ((ℕ × ℕ) × List ℕ)
pair_at bytes = do
  first ← lenenc_at bytes
  second ← lenenc_at first.1
  Ok ((first.0, second.0), second.1)
