-- Three bytes as four numbers of six bits.
use Rattle.std.specs.Prelude.{ℕ, ◌+◌, ◌*◌, ◌/◌, ◌%◌, List, [], ◌∷◌}

-- the highest bits first; bytes after the last three are left out
abbrev pub six_bits : List ℕ → List ℕ
six_bits [] = []
six_bits (a ∷ []) = []
six_bits (a ∷ b ∷ []) = []
six_bits (a ∷ b ∷ c ∷ rest) = (a / 4) ∷ (a % 4 * 16 + b / 16) ∷ (b % 16 * 4 + c / 64) ∷ (c % 64) ∷ six_bits rest
