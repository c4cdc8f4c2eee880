-- Characters and texts in MySQL's character sets: MySQL Reference Manual, "Supported Character Sets and Collations"; for the sets of
-- Unicode its encoding forms and schemes (The Unicode Standard, 3.9 and 3.10). A character is a Unicode scalar value.
use Rattle.std.specs.Prelude.{◌≡◌, ◌<◌, ℕ, ◌/◌, ◌%◌, Bool, true, false, List, [], ◌∷◌, ◌++◌, slice_index, encode_utf8, encode_utf8_all}
use Rattle.std.specs.Char.{IsScalar}
use Rattle.std.specs.List.{flat_map}
use Rattle.std.specs.Char.Escape.{encode_utf16}
use Rattle.changes_character_sets.specs.declared.character_set.CharacterSet.{CharacterSet}
use Rattle.changes_character_sets.specs.declared.character_set.CharacterSet.TheVariants.{Utf8, Ascii, Ucs2, Utf16, Utf16Le, Utf32, SingleByte}

-- a number below 65536 as two bytes, the high one first
abbrev pub high_first : ℕ → List ℕ
high_first n = n / 256 ∷ n % 256 ∷ []

-- and the low one first
abbrev pub low_first : ℕ → List ℕ
low_first n = n % 256 ∷ n / 256 ∷ []

-- the bytes encode the character; in a character set with one byte a character, 0 in its table is a character at byte 0 only
abbrev pub IsEncodingOf : CharacterSet → ℕ → List ℕ → Type 0
IsEncodingOf Utf8 c e = e ≡ encode_utf8 c
IsEncodingOf Ascii c e = (c < 128) × (e ≡ c ∷ [])
IsEncodingOf Ucs2 c e = (c < 65536) × (e ≡ high_first c)
IsEncodingOf Utf16 c e = e ≡ flat_map high_first (encode_utf16 c)
IsEncodingOf Utf16Le c e = e ≡ flat_map low_first (encode_utf16 c)
IsEncodingOf Utf32 c e = e ≡ high_first (c / 65536) ++ high_first (c % 65536)
IsEncodingOf (SingleByte table) c e = (b : ℕ) × (e ≡ b ∷ []) × (c ≡ slice_index table.now b) × (c ≡ 0 → b ≡ 0)

-- the bytes are the encoding of this character, and these bytes after it
pub record BeginsWith (set : CharacterSet) (bytes : List ℕ) (character : ℕ) (rest : List ℕ) : Type 0 where
  pub scalar : IsScalar character
  pub encoding : List ℕ
  pub encoded : IsEncodingOf set character encoding
  pub split : bytes ≡ encoding ++ rest

-- no character is at the start of the bytes
abbrev pub BeginsWithNone : CharacterSet → List ℕ → Type 0
BeginsWithNone set bytes = (character : ℕ) (rest : List ℕ) → ¬ (BeginsWith set bytes character rest)

-- the bytes are the encodings of these characters, one after another
abbrev pub AreEncodingsOf : CharacterSet → List ℕ → List ℕ → Type 0
AreEncodingsOf set [] bytes = bytes ≡ []
AreEncodingsOf set (c ∷ characters) bytes = (rest : List ℕ) × BeginsWith set bytes c rest × AreEncodingsOf set characters rest

-- the bytes are text in this character set, and this is the same text in UTF-8
unfoldable pub IsTextOf : CharacterSet → List ℕ → List ℕ → Type 0
IsTextOf set bytes text = (characters : List ℕ) × AreEncodingsOf set characters bytes × (text ≡ encode_utf8_all characters)

-- the character set's encoding is that of UTF-8
abbrev pub is_utf8_already : CharacterSet → Bool
is_utf8_already Utf8 = true
is_utf8_already Ascii = true
is_utf8_already Ucs2 = false
is_utf8_already Utf16 = false
is_utf8_already Utf16Le = false
is_utf8_already Utf32 = false
is_utf8_already (SingleByte table) = false

-- the text of the bytes was appended
pub record AppendsText (set : CharacterSet) (bytes old new : List ℕ) : Type 0 where
  pub text : List ℕ
  pub is_text : IsTextOf set bytes text
  pub appended : new ≡ old ++ text
