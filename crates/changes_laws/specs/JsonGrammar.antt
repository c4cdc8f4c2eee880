-- JSON texts in UTF-8 (RFC 8259): values (section 3), objects (4), arrays (5), numbers (6), strings (7), and whitespace around tokens (2).
use Rattle.std.specs.Prelude.{◌≡◌, ◌≢◌, ◌⊎◌, ⊤, ℕ, ◌≤◌, ◌==◌, ◌||◌, Bool, List, [], ◌∷◌, ◌++◌, length, slice_index, codes, encode_utf8, encode_utf8_all, Option, Some, None, IsTrue, if◌then◌else◌}
use Rattle.std.specs.Char.{IsScalar}
use Rattle.std.specs.Char.Utf16.{surrogate_pair_char}
use Rattle.std.specs.Str.Parse.{AllDigits, IsNumeral, digits_value}

mutual
  -- a value: a number is its text, a string its characters in UTF-8
  pub data Json : Type 0 where
    null : Json
    boolean : Bool → Json
    number : List ℕ → Json
    string : List ℕ → Json
    array : Elements → Json
    object : Members → Json

  -- the values of an array
  pub data Elements : Type 0 where
    no_elements : Elements
    element : Json → Elements → Elements

  -- the names and values of an object
  pub data Members : Type 0 where
    no_members : Members
    member : List ℕ → Json → Members → Members

-- ---- section 2

-- ws
abbrev pub IsWhitespace : List ℕ → Type 0
IsWhitespace [] = ⊤
IsWhitespace (b ∷ bs) = IsTrue (b == 32 || b == 9 || b == 10 || b == 13) × IsWhitespace bs

-- a structural character, with whitespace before and after it
pub record IsStructural (b : ℕ) (text : List ℕ) : Type 0 where
  pub before : List ℕ
  pub after : List ℕ
  pub before_is : IsWhitespace before
  pub after_is : IsWhitespace after
  pub is : text ≡ before ++ b ∷ after

-- ---- section 6

-- int: 0 alone, or digits of which the first isn't 0
pub record IsInt (text : List ℕ) : Type 0 where
  pub digits : IsNumeral 10 text
  pub no_leading_zero : slice_index text 0 ≡ 48 → length text ≡ 1

-- [ frac ]
pub data IsFrac : List ℕ → Type 0 where
  no_frac : IsFrac []
  frac : {digits : List ℕ} → IsNumeral 10 digits → IsFrac (46 ∷ digits)

-- [ minus / plus ]
pub data IsSign : List ℕ → Type 0 where
  no_sign : IsSign []
  plus : IsSign (43 ∷ [])
  minus : IsSign (45 ∷ [])

-- [ exp ]
pub data IsExp : List ℕ → Type 0 where
  no_exp : IsExp []
  exp : (e : ℕ) (sign digits : List ℕ) → (e ≡ 101) ⊎ (e ≡ 69) → IsSign sign → IsNumeral 10 digits → IsExp (e ∷ sign ++ digits)

-- number
pub record IsNumber (text : List ℕ) : Type 0 where
  pub is_negative : Bool
  pub int : List ℕ
  pub frac : List ℕ
  pub exp : List ℕ
  pub int_is : IsInt int
  pub frac_is : IsFrac frac
  pub exp_is : IsExp exp
  pub is : text ≡ (if is_negative then 45 ∷ [] else []) ++ (int ++ (frac ++ exp))

-- ---- section 7

-- the character of a backslash and this byte
abbrev pub escaped_character : ℕ → Option ℕ
escaped_character b =
    if b == 34 || b == 92 || b == 47 then Some b
    else if b == 98 then Some 8
    else if b == 102 then Some 12
    else if b == 110 then Some 10
    else if b == 114 then Some 13
    else if b == 116 then Some 9
    else None

-- 4HEXDIG
pub record IsUnit (unit : ℕ) (text : List ℕ) : Type 0 where
  pub four : length text ≡ 4
  pub digits : AllDigits 16 text
  pub value : digits_value 16 text ≡ unit

-- char, in UTF-8: a character; half a surrogate pair, which the grammar admits and section 8.2 warns of, is none
pub data IsChar : ℕ → List ℕ → Type 0 where
  unescaped : {c : ℕ} → IsScalar c → 32 ≤ c → c ≢ 34 → c ≢ 92 → IsChar c (encode_utf8 c)
  escaped : {c b : ℕ} → escaped_character b ≡ Some c → IsChar c (92 ∷ b ∷ [])
  code : {c : ℕ} {digits : List ℕ} → IsScalar c → IsUnit c digits → IsChar c (92 ∷ 117 ∷ digits)
  pair : (high low : ℕ) (first second : List ℕ) → IsScalar (surrogate_pair_char high low) → (55296 ≤ high) × (high ≤ 56319) → (56320 ≤ low) × (low ≤ 57343)
      → IsUnit high first → IsUnit low second → IsChar (surrogate_pair_char high low) (92 ∷ 117 ∷ first ++ 92 ∷ 117 ∷ second)

-- *char
abbrev pub AreChars : List ℕ → List ℕ → Type 0
AreChars [] text = text ≡ []
AreChars (c ∷ cs) text = (own : List ℕ) × (more : List ℕ) × IsChar c own × AreChars cs more × (text ≡ own ++ more)

-- string: its characters in UTF-8
pub record IsString (value text : List ℕ) : Type 0 where
  pub characters : List ℕ
  pub content : List ℕ
  pub are : AreChars characters content
  pub is : text ≡ 34 ∷ content ++ 34 ∷ []
  pub value_is : value ≡ encode_utf8_all characters

-- ---- sections 3, 4 and 5

-- something in brackets
pub record IsBracketed (opening closing : ℕ) (IsContent : List ℕ → Type 0) (text : List ℕ) : Type 0 where
  pub first : List ℕ
  pub content : List ℕ
  pub last : List ℕ
  pub first_is : IsStructural opening first
  pub content_is : IsContent content
  pub last_is : IsStructural closing last
  pub is : text ≡ first ++ (content ++ last)

-- member: a name, a colon and a value
pub record IsMember (name : List ℕ) (IsItsValue : List ℕ → Type 0) (text : List ℕ) : Type 0 where
  pub string : List ℕ
  pub colon : List ℕ
  pub value : List ℕ
  pub string_is : IsString name string
  pub colon_is : IsStructural 58 colon
  pub value_is : IsItsValue value
  pub is : text ≡ string ++ (colon ++ value)

-- the first of some, and the others
pub record IsFirst (IsOne AreOthers : List ℕ → Type 0) (text : List ℕ) : Type 0 where
  pub one : List ℕ
  pub others : List ℕ
  pub one_is : IsOne one
  pub others_are : AreOthers others
  pub is : text ≡ one ++ others

-- a comma, the next of some, and the others
pub record IsNext (IsOne AreOthers : List ℕ → Type 0) (text : List ℕ) : Type 0 where
  pub comma : List ℕ
  pub first : List ℕ
  pub comma_is : IsStructural 44 comma
  pub first_is : IsFirst IsOne AreOthers first
  pub is : text ≡ comma ++ first

unfoldable mutual
  -- value: object, array, number, string, false, null or true
  pub IsValue : Json → List ℕ → Type 0
  IsValue null text = text ≡ codes "null"
  IsValue (boolean b) text = text ≡ (if b then codes "true" else codes "false")
  IsValue (number n) text = (text ≡ n) × IsNumber n
  IsValue (string s) text = IsString s text
  IsValue (array vs) text = IsBracketed 91 93 (λ t. AreElements vs t) text
  IsValue (object ms) text = IsBracketed 123 125 (λ t. AreMembers ms t) text

  -- [ value *( value-separator value ) ]
  pub AreElements : Elements → List ℕ → Type 0
  AreElements no_elements text = text ≡ []
  AreElements (element v vs) text = IsFirst (λ t. IsValue v t) (λ t. AreMoreElements vs t) text

  -- *( value-separator value )
  pub AreMoreElements : Elements → List ℕ → Type 0
  AreMoreElements no_elements text = text ≡ []
  AreMoreElements (element v vs) text = IsNext (λ t. IsValue v t) (λ t. AreMoreElements vs t) text

  -- [ member *( value-separator member ) ]
  pub AreMembers : Members → List ℕ → Type 0
  AreMembers no_members text = text ≡ []
  AreMembers (member k v ms) text = IsFirst (λ t. IsMember k (λ u. IsValue v u) t) (λ t. AreMoreMembers ms t) text

  -- *( value-separator member )
  pub AreMoreMembers : Members → List ℕ → Type 0
  AreMoreMembers no_members text = text ≡ []
  AreMoreMembers (member k v ms) text = IsNext (λ t. IsMember k (λ u. IsValue v u) t) (λ t. AreMoreMembers ms t) text

-- JSON-text: a value between whitespace
pub record IsJsonText (v : Json) (text : List ℕ) : Type 0 where
  pub before : List ℕ
  pub own : List ℕ
  pub after : List ℕ
  pub before_is : IsWhitespace before
  pub own_is : IsValue v own
  pub after_is : IsWhitespace after
  pub is : text ≡ before ++ (own ++ after)

-- nothing, or what may follow a value within others: a comma or a closing bracket
abbrev pub IsAfterValue : List ℕ → Type 0
IsAfterValue [] = ⊤
IsAfterValue (b ∷ bs) = IsTrue (b == 44 || b == 93 || b == 125)
