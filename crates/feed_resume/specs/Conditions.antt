-- Functions on lists and conditions.
use Rattle.std.specs.Prelude.{Bool, true, false, List, [], ◌∷◌, Option, Some, None}

-- the value if the condition holds, else None
abbrev pub when : {B : Type 0} → Bool → B → Option B
when b x = elim b [ true ↦ Some x | false ↦ None ]

-- the list `past`, newest first, after these elements were added one by one
abbrev pub onto : {A : Type 0} → List A → List A → List A
onto past [] = past
onto past (x ∷ l) = onto (x ∷ past) l
