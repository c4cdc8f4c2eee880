-- The steps of reading and comparing packed decimals. Decimals defines the whole format.
use Rattle.std.specs.Prelude.{◌≡◌, ℕ, List, [], ◌∷◌, ◌++◌, ◌≤◌, ◌+◌, length, Option, Some, None}
use Rattle.rows_values.specs.Digits.{AreDigits, group_bytes, before_bytes, after_bytes}

-- the digits of one side, packed in these bytes, are appended
pub record AppendsDigits (pack : List ℕ → List ℕ) (count : ℕ) (bytes old new : List ℕ) : Type 0 where
  pub digits : List ℕ
  pub size : length digits ≡ count
  pub are : AreDigits digits
  pub bytes_are : pack digits ≡ bytes
  pub appended : new ≡ old ++ digits

-- no digits have these bytes
abbrev pub NoDigits : (List ℕ → List ℕ) → ℕ → List ℕ → Type 0
NoDigits pack count bytes = (ds : List ℕ) → length ds ≡ count → AreDigits ds → pack ds ≡ bytes → ⊥

-- the bytes of the groups on both sides of the point
abbrev pub sides_bytes : List ℕ → List ℕ → List ℕ
sides_bytes before after = before_bytes before ++ after_bytes after

-- the first group of these digits (none if there is no group), and the digits after it
pub record SplitsGroup (before after group before_rest after_rest : List ℕ) : Type 0 where
  pub few : length group ≤ 9
  pub whole : length group + (length before_rest + length after_rest) ≡ length before + length after
  pub group_are : AreDigits group
  pub before_are : AreDigits before_rest
  pub after_are : AreDigits after_rest
  pub bytes_are : sides_bytes before after ≡ group_bytes group ++ sides_bytes before_rest after_rest
  pub none : length group ≡ 0 → sides_bytes before after ≡ []

-- the next byte was returned; or none is left
abbrev pub GivesByte : Option ℕ → List ℕ → List ℕ → Type 0
GivesByte None old new = (old ≡ []) × (new ≡ [])
GivesByte (Some b) old new = old ≡ b ∷ new
