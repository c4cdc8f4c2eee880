-- Integers and strings as bytes: little-endian, big-endian, two's complement, and MySQL's Protocol::LengthEncodedInteger and Protocol::LengthEncodedString.
use Rattle.std.specs.Prelude.{◌≡◌, ◌≤◌, ◌++◌, ℕ, ℤ, List, [], ◌∷◌, length, nat_lt, if◌then◌else◌}
use Rattle.byteorder.specs.Endian.{little_number, big_number, little_bytes, twos_complement}
use Rattle.wire_buf.specs.Encoding.{IsFixed}

-- the signed number in the first n bytes, little-endian two's complement
abbrev pub little_signed : ℕ → List ℕ → ℤ
little_signed n xs = twos_complement n (little_number n xs)

-- the signed number in the first n bytes, big-endian two's complement
abbrev pub big_signed : ℕ → List ℕ → ℤ
big_signed n xs = twos_complement n (big_number n xs)

-- v in n little-endian bytes: byte i counts 256 ^ i
abbrev pub IsLittle : ℕ → ℕ → List ℕ → Type 0
IsLittle n = IsFixed (little_number n) n

-- v in n big-endian bytes: byte i counts 256 ^ (n - 1 - i)
abbrev pub IsBig : ℕ → ℕ → List ℕ → Type 0
IsBig n = IsFixed (big_number n) n

-- a signed v in n little-endian bytes
abbrev pub IsSignedLittle : ℕ → ℤ → List ℕ → Type 0
IsSignedLittle n = IsFixed (little_signed n) n

-- a signed v in n big-endian bytes
abbrev pub IsSignedBig : ℕ → ℤ → List ℕ → Type 0
IsSignedBig n = IsFixed (big_signed n) n

-- A length-encoded integer: one byte up to 250, or 252, 253 or 254 and two, three or eight little-endian bytes. No integer begins with 251 or 255. An encoding longer than needed is one too.
pub data IsLenenc : ℕ → List ℕ → Type 0 where
  one : {v : ℕ} → v ≤ 250 → IsLenenc v (v ∷ [])
  two : {v : ℕ} {bytes : List ℕ} → IsLittle 2 v bytes → IsLenenc v (252 ∷ bytes)
  three : {v : ℕ} {bytes : List ℕ} → IsLittle 3 v bytes → IsLenenc v (253 ∷ bytes)
  eight : {v : ℕ} {bytes : List ℕ} → IsLittle 8 v bytes → IsLenenc v (254 ∷ bytes)

-- a string after its length: an encoded count of its bytes, then the bytes
pub record IsCounted (count : ℕ → List ℕ → Type 0) (content bytes : List ℕ) : Type 0 where
  pub prefix : List ℕ
  pub prefix_is : count (length content) prefix
  pub joined : bytes ≡ prefix ++ content

-- a length-encoded string
abbrev pub IsLenencString : List ℕ → List ℕ → Type 0
IsLenencString = IsCounted IsLenenc

-- a string after its length in one byte, in four bytes
abbrev pub IsShortString : List ℕ → List ℕ → Type 0
IsShortString = IsCounted (IsLittle 1)

abbrev pub IsLongString : List ℕ → List ℕ → Type 0
IsLongString = IsCounted (IsLittle 4)

-- the shortest encoding of a length-encoded integer
unfoldable pub lenenc_encoded : ℕ → List ℕ
lenenc_encoded v =
    if nat_lt v 251 then v ∷ []
    else if nat_lt v 65536 then 252 ∷ little_bytes 2 v
    else if nat_lt v 16777216 then 253 ∷ little_bytes 3 v
    else 254 ∷ little_bytes 8 v
