-- Splitting fields off the start of bytes, or the error.
use Rattle.std.specs.Prelude.{ℕ, List, length, take, drop, nat_le, if◌then◌else◌}
use Rattle.std.specs.declared.result.Result.TheVariants.{Ok, Err}
use Rattle.byteorder.specs.Endian.{little_number}
use Rattle.rows_errors.specs.declared.fault.RowsError.TheVariants.{EndOfBody}
use Rattle.rows_errors.specs.Readings.{Reading, ◌>>=◌}

-- the first n bytes, and the bytes after them
abbrev pub at_width : ℕ → List ℕ → Reading (List ℕ × List ℕ)
at_width n bytes = if nat_le n (length bytes) then Ok (take n bytes, drop n bytes) else Err EndOfBody

-- a length of w bytes, that many bytes, and the bytes after them
abbrev pub counted_at : ℕ → List ℕ → Reading (List ℕ × List ℕ)
counted_at w bytes = at_width w bytes >>= λ size. at_width (little_number w size.0) size.1
