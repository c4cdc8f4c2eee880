-- The bytes written for a string after its length.
use Rattle.std.specs.Prelude.{◌++◌, ◌^◌, ℕ, List, length, Option, Some, None, nat_lt, if◌then◌else◌}
use Rattle.byteorder.specs.Endian.{little_bytes}
use Rattle.wire_buf.specs.Numbers.{lenenc_encoded}

-- the shortest encoding of a length-encoded string
abbrev pub lenenc_string_encoded : List ℕ → List ℕ
lenenc_string_encoded s = lenenc_encoded (length s) ++ s

-- the length in n little-endian bytes, then the string
abbrev pub counted_bytes : ℕ → List ℕ → List ℕ
counted_bytes n s = little_bytes n (length s) ++ s

-- the same, if the length fits
abbrev pub counted_encoded : ℕ → List ℕ → Option (List ℕ)
counted_encoded n s = if nat_lt (length s) (256 ^ n) then Some (counted_bytes n s) else None
