-- The names of members within an object are different (RFC 8259, section 4: "The names within an object SHOULD be unique").
use Rattle.std.specs.Prelude.{◌≢◌, ⊤, List, [], ◌∷◌, ℕ}
use Rattle.changes_laws.specs.JsonGrammar.{Json, array, object, Elements, no_elements, element, Members, no_members, member}

abbrev pub names_of : Members → List (List ℕ)
names_of no_members = []
names_of (member k v ms) = k ∷ names_of ms

-- no other name is this one
abbrev pub IsOther : List ℕ → List (List ℕ) → Type 0
IsOther name [] = ⊤
IsOther name (n ∷ ns) = (n ≢ name) × IsOther name ns

-- all are different
abbrev pub AreDistinct : List (List ℕ) → Type 0
AreDistinct [] = ⊤
AreDistinct (n ∷ ns) = IsOther n ns × AreDistinct ns

unfoldable mutual
  -- in a value, and in all that it contains, no object has a name twice
  pub HasDistinctNames : Json → Type 0
  HasDistinctNames (array vs) = HaveDistinctNames vs
  HasDistinctNames (object ms) = AreDistinct (names_of ms) × ValuesHaveDistinctNames ms
  HasDistinctNames _ = ⊤

  -- in these values
  pub HaveDistinctNames : Elements → Type 0
  HaveDistinctNames no_elements = ⊤
  HaveDistinctNames (element v vs) = HasDistinctNames v × HaveDistinctNames vs

  -- in the values of these members
  pub ValuesHaveDistinctNames : Members → Type 0
  ValuesHaveDistinctNames no_members = ⊤
  ValuesHaveDistinctNames (member k v ms) = HasDistinctNames v × ValuesHaveDistinctNames ms
