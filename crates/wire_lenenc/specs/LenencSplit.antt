-- Length-encoded integers as a function that computes the number at the start of bytes and the bytes after it (MySQL Internals: Protocol::LengthEncodedInteger). The readers of `wire_buf` are proved against it, whose `Numbers` defines the encodings.
use Rattle.std.specs.Prelude.{ℕ, List, [], ◌∷◌, length, drop, Option, Some, None, nat_le, ◌==◌, if◌then◌else◌}
use Rattle.byteorder.specs.Endian.{little_number}

-- the number in the first n bytes, and the bytes after them
unfoldable pub split_number : ℕ → List ℕ → Option (ℕ × List ℕ)
split_number n x = if nat_le n (length x) then Some (little_number n x, drop n x) else None

-- the length-encoded integer at the start, and the bytes after it
unfoldable pub split_lenenc : List ℕ → Option (ℕ × List ℕ)
split_lenenc [] = None
split_lenenc (b ∷ r) =
    if nat_le b 250 then Some (b, r)
    else if b == 252 then split_number 2 r
    else if b == 253 then split_number 3 r
    else if b == 254 then split_number 8 r
    else None
