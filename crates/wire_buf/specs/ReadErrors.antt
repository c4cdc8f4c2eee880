-- Which error a reader of bytes returns, and when.
use Rattle.std.specs.Prelude.{◌≡◌, ◌⊎◌, ◌<◌, ℕ, List, length, Option, Some, None}
use Rattle.wire_buf.specs.declared.fault.WireFault.{WireFault}
use Rattle.wire_buf.specs.declared.fault.WireFault.TheVariants.{Eof}
use Rattle.wire_buf.specs.Encoding.{Begins}

-- fewer than n bytes are there, and the fault is `Eof`
abbrev pub EndsBefore : ℕ → List ℕ → WireFault → Type 0
EndsBefore n x fault = (length x < n) × (fault ≡ Eof)

-- the encoding has one size, and fewer bytes are there
abbrev pub IsTooShort : Option ℕ → List ℕ → Type 0
IsTooShort None x = ⊥
IsTooShort (Some n) x = length x < n

-- the error of a reader that checks the encoding's size first: too few bytes, with the fault that corresponds to `Eof`, or the error of the encoding itself
abbrev pub ParseFails : {E : Type 0} → Option ℕ → (List ℕ → E → Type 0) → (E → Type 0) → List ℕ → E → Type 0
ParseFails size fails_with is_eof x fault = fails_with x fault ⊎ (IsTooShort size x × is_eof fault)

-- a value is encoded at the start, and the fact holds of it and of the bytes after it
pub record BeginsThen {A : Type 0} (encodes : A → List ℕ → List ℕ → Type 0) (fact : A → List ℕ → Type 0) (before : List ℕ) : Type 0 where
  pub value : A
  pub after : List ℕ
  pub begins : Begins (encodes value) before after
  pub holds : fact value after

-- the error of a pair: that of its first part, or the first part is there and the error is that of the second part on the bytes after it
abbrev pub PairFails : {A E : Type 0} → (A → List ℕ → List ℕ → Type 0) → (List ℕ → E → Type 0) → (List ℕ → E → Type 0) → List ℕ → E → Type 0
PairFails encodes first second x fault = first x fault ⊎ BeginsThen encodes (λ v rest. second rest fault) x
