-- What it means that bytes encode a value, and that a value is read from the start of bytes. Every field of MySQL's packets and events is specified in these terms.
use Rattle.std.specs.Prelude.{◌≡◌, ◌++◌, ◌≤◌, ◌<◌, ℕ, zero, suc, List, [], ◌∷◌, length, drop, slice_index, Option, Some, None}

-- A piece says which bytes encode it, followed by which rest. A `Encoding` has a piece for each value: the bytes that encode it. Most encodings don't look at the rest.
abbrev pub Encoding : Type 0 → Type 1
Encoding A = A → List ℕ → List ℕ → Type 0

-- `before` begins with the piece, and `after` is what follows it
pub record Begins (piece : List ℕ → List ℕ → Type 0) (before after : List ℕ) : Type 0 where
  pub bytes : List ℕ
  pub joined : before ≡ bytes ++ after
  pub is : piece bytes after

-- the bytes begin with the encoding of some value
pub record BeginsWith {A : Type 0} (encodes : A → List ℕ → List ℕ → Type 0) (before : List ℕ) : Type 0 where
  pub value : A
  pub after : List ℕ
  pub begins : Begins (encodes value) before after

-- the bytes begin with the encoding of no value
abbrev pub Lacks : {A : Type 0} → Encoding A → List ℕ → Type 0
Lacks {A} encodes before = (v : A) (after : List ℕ) → Begins (encodes v) before after → ⊥

-- v is the one value whose encoding the bytes begin with, and `after` is what follows it
pub record Reads {A : Type 0} (encodes : A → List ℕ → List ℕ → Type 0) (v : A) (before after : List ℕ) : Type 0 where
  pub begins : Begins (encodes v) before after
  pub only : (w : A) (rest : List ℕ) → Begins (encodes w) before rest → (rest ≡ after) × (v ≡ w)

-- an encoding that doesn't look at the rest
abbrev pub Alone : {A : Type 0} → (A → List ℕ → Type 0) → Encoding A
Alone encodes v bytes rest = encodes v bytes

-- n bytes that have the value v
pub record IsFixed {A : Type 0} (value : List ℕ → A) (n : ℕ) (v : A) (bytes : List ℕ) : Type 0 where
  pub size : length bytes ≡ n
  pub value_is : v ≡ value bytes

-- A piece followed by another; the bodies of events are built this way.
pub record ◌⨾◌ (first second : List ℕ → List ℕ → Type 0) (bytes rest : List ℕ) : Type 0 where
  pub prefix : List ℕ
  pub suffix : List ℕ
  pub joined : bytes ≡ prefix ++ suffix
  pub first_is : first prefix (suffix ++ rest)
  pub second_is : second suffix rest

infixr 20 ◌⨾◌
-- the encoding of a pair: the first part, then the second
abbrev pub Both : {A B : Type 0} → Encoding A → Encoding B → Encoding (A × B)
Both first second p = first p.0 ⨾ second p.1

-- the encoding of a pair whose second part is read in the context that the first gives, such as a length or a count
abbrev pub Then : {A B : Type 0} → Encoding A → (A → Encoding B) → Encoding (A × B)
Then first second p = first p.0 ⨾ second p.0 p.1

-- the views of a pair's parts
abbrev pub both : {A B C D : Type 0} → (A → C) → (B → D) → A × B → C × D
both f g p = (f p.0, g p.1)

-- the first values, then the last one
pub record Ends {A : Type 0} (first : List A → List ℕ → List ℕ → Type 0) (second : A → List ℕ → List ℕ → Type 0) (vs : List A) (bytes rest : List ℕ) : Type 0 where
  pub prefix : List A
  pub last : A
  pub items : vs ≡ prefix ++ (last ∷ [])
  pub encoding_is : (first prefix ⨾ second last) bytes rest

-- the encoding of n values in sequence
abbrev pub IsSequence : {A : Type 0} → ℕ → Encoding A → Encoding (List A)
IsSequence zero encodes vs bytes rest = (vs ≡ []) × (bytes ≡ [])
IsSequence (suc n) encodes vs bytes rest = Ends (IsSequence n encodes) encodes vs bytes rest

-- if an encoding has one size, its bytes have that length
abbrev pub HasSize : Option ℕ → ℕ → Type 0
HasSize None n = Unit {0}
HasSize (Some m) n = n ≡ m

-- if an encoding has one size, at least so many bytes are there
abbrev pub HasRoom : Option ℕ → ℕ → Type 0
HasRoom None n = Unit {0}
HasRoom (Some m) n = m ≤ n

-- if an encoding has one size and fewer bytes are there, the fact holds
abbrev pub IfShort : Option ℕ → ℕ → Type 0 → Type 0
IfShort None n fact = Unit {0}
IfShort (Some m) n fact = n < m → fact

-- an encoding of one size is taken whole, or not at all if fewer bytes are there
abbrev pub EatsSize : Option ℕ → List ℕ → List ℕ → Type 0
EatsSize None before after = Unit {0}
EatsSize (Some n) before after = (n ≤ length before → after ≡ drop n before) × (length before < n → after ≡ before)

-- numbers below 256
abbrev pub AreBytes : List ℕ → Type 0
AreBytes xs = (k : ℕ) → slice_index xs k < 256

-- the bytes encode v, and no encoding of v is shorter
pub record IsShortest {A : Type 0} (encodes : A → List ℕ → Type 0) (v : A) (bytes : List ℕ) : Type 0 where
  pub is : encodes v bytes
  pub least : (other : List ℕ) → encodes v other → AreBytes other → length bytes ≤ length other

-- n bytes that are v itself
pub record IsBytes (n : ℕ) (v bytes : List ℕ) : Type 0 where
  pub size : length bytes ≡ n
  pub bytes_are : v ≡ bytes
