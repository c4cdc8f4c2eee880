-- A text that was put after nothing, partly at once and partly from the bytes that waited.
use Rattle.std.proofs.Common.{◌≡◌, ℕ, List, [], ◌++◌, sym, ap, ◌∙◌}

pub is_whole : (start mid end before next after bytes : List ℕ) → start ≡ [] → before ≡ [] → mid ≡ start ++ bytes → before ++ next ≡ bytes ++ after → end ≡ mid ++ after → end ≡ next
is_whole start mid end before next after bytes empty none wrote joins rest = rest ∙ ap (λ (l : List ℕ). l ++ after) (wrote ∙ ap (λ (l : List ℕ). l ++ bytes) empty) ∙ sym joins ∙ ap (λ (l : List ℕ). l ++ next) none
