-- Functions on lists.
use Rattle.std.specs.Prelude.{Bool, true, false, List, [], ◌∷◌}

-- the longest prefix whose elements pass the test
abbrev pub prefix_while : {A : Type 0} → (A → Bool) → List A → List A
prefix_while p [] = []
prefix_while p (x ∷ xs) = elim (p x) [ true ↦ x ∷ prefix_while p xs | false ↦ [] ]

-- the elements after that prefix
abbrev pub from_first_failing : {A : Type 0} → (A → Bool) → List A → List A
from_first_failing p [] = []
from_first_failing p (x ∷ xs) = elim (p x) [ true ↦ from_first_failing p xs | false ↦ x ∷ xs ]
