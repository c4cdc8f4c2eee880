-- Values that are made one by one.
use Rattle.std.proofs.Common.{◌≡◌, ℕ, ◌+◌, List, [], ◌∷◌, map, ap, sym, ◌∙◌, arith}
use Rattle.std.specs.Prelude.{◌++◌}
use Rattle.std.specs.List.{range_with_len}
use Rattle.std.proofs.lemmas.List.FromFn.{map-range_with_len_more}

-- one more value, of the next number
pub mapped_more : (f : ℕ → ℕ) (xs ys : List ℕ) (i x : ℕ) → xs ≡ map f (range_with_len 0 i) → x ≡ f i → ys ≡ xs ++ x ∷ [] → ys ≡ map f (range_with_len 0 (i + 1))
mapped_more f xs ys i x so_far is more =
    more
    ∙ ap (λ (l : List ℕ). l ++ x ∷ []) so_far
    ∙ ap (λ (n : ℕ). map f (range_with_len 0 i) ++ n ∷ []) is
    ∙ sym (map-range_with_len_more f 0 i i (omega arith))
