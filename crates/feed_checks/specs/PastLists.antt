-- Functions on lists. A list named `past` has the newest element first.
use Rattle.std.specs.Prelude.{ℕ, Bool, true, false, List, [], ◌∷◌, Option, Some, None, ◌==◌}
use Rattle.std.specs.List.{list_any}
pub use Rattle.feed_resume.specs.Conditions.{when, onto}

-- f x for the newest element x for which f x isn't None
abbrev pub newest : {A B : Type 0} → (A → Option B) → List A → Option B
newest f [] = None
newest f (x ∷ past) = elim (f x) [ Some y ↦ Some y | None ↦ newest f past ]

-- the elements newer than the newest that passes the test; all, if none passes
abbrev pub since : {A : Type 0} → (A → Bool) → List A → List A
since p [] = []
since p (x ∷ past) = elim (p x) [ true ↦ [] | false ↦ x ∷ since p past ]

-- the elements older than the newest that passes the test; none, if none passes
abbrev pub before_newest : {A : Type 0} → (A → Bool) → List A → List A
before_newest p [] = []
before_newest p (x ∷ past) = elim (p x) [ true ↦ past | false ↦ before_newest p past ]

-- the first value in a list of optional values
abbrev pub first : {B : Type 0} → List (Option B) → Option B
first [] = None
first (o ∷ os) = elim o [ Some y ↦ Some y | None ↦ first os ]

-- whether a number is one of these
abbrev pub is_among : List ℕ → ℕ → Bool
is_among ns n = list_any (λ m. n == m) ns
