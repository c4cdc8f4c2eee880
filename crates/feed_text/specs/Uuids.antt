-- The text of a UUID: RFC 9562, "UUID Format", in lower case.
use Rattle.std.specs.Prelude.{ℕ, List, ◌∷◌, ◌++◌, take, drop}
use Rattle.hex.specs.Hex.{encode_lower}

-- the byte of a hyphen
abbrev pub hyphen : ℕ
hyphen = 45

-- a UUID in hexadecimal digits, 8-4-4-4-12
abbrev pub uuid_text : List ℕ → List ℕ
uuid_text u =
    encode_lower (take 4 u)
    ++ hyphen ∷ encode_lower (take 2 (drop 4 u))
    ++ hyphen ∷ encode_lower (take 2 (drop 6 u))
    ++ hyphen ∷ encode_lower (take 2 (drop 8 u))
    ++ hyphen ∷ encode_lower (drop 10 u)
