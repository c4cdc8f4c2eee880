-- Bytes as text in Base64 (RFC 4648, section 4), with padding; its encoding is that of the crate `base64`.
use Rattle.std.specs.Prelude.{ℕ, ◌+◌, ◌*◌, ◌/◌, List, [], ◌∷◌, ◌++◌, codes}
use Rattle.base64.specs.Engines.{standard}
use Rattle.base64.specs.GeneralPurpose.{encode_of}
use Rattle.changes_writers.specs.JsonStrings.{json_string}

-- the length of the encoding of n bytes: four characters for each three bytes, the last of which may be fewer
abbrev pub base64_len : ℕ → ℕ
base64_len n = (n + 2) / 3 * 4

-- bytes as a string
unfoldable pub base64_string : List ℕ → List ℕ
base64_string bytes = json_string (encode_of standard bytes)

-- bytes as an object: `{"base64":".."}`
unfoldable pub base64_object : List ℕ → List ℕ
base64_object bytes = 123 ∷ json_string (codes "base64") ++ 58 ∷ base64_string bytes ++ 125 ∷ []
