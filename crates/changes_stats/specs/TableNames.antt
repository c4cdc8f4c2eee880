-- The names of tables as one text.
use Rattle.std.specs.Prelude.{ℕ, List, [], ◌∷◌, ◌++◌}

-- names with a comma and a space before each
abbrev pub names_after : List (List ℕ) → List ℕ
names_after [] = []
names_after (n ∷ l) = 44 ∷ 32 ∷ (n ++ names_after l)

-- names with a comma and a space between them
abbrev pub names_text : List (List ℕ) → List ℕ
names_text [] = []
names_text (n ∷ l) = n ++ names_after l
