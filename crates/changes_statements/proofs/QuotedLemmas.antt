-- Quoted bytes are read back, and show where they end.
use Rattle.std.proofs.Common.{◌≡◌, ℕ, suc, Bool, true, false, eqb, eqb→eq, T, List, [], ◌∷◌, ◌++◌, refl, sym, ap, ◌∙◌, subst, append_assoc, arith}
use Rattle.std.specs.Prelude.{◌==◌, if◌then◌else◌}
use Rattle.std.specs.List.{flat_map}
use Rattle.std.proofs.lemmas.Bool.{false≢true}
use Rattle.changes_statements.specs.SqlTexts.{doubled, between, begins_with}

abbrev first : List ℕ → ℕ
first [] = 0
first (x ∷ xs) = x

abbrev others : List ℕ → List ℕ
others [] = []
others (x ∷ xs) = xs

same : (k : ℕ) → (k == k) ≡ true
same k = grind arith

-- a text that begins with another byte isn't one that begins with the quote
apart : (q x : ℕ) → (x == q) ≡ false → q ≡ x → ⊥
apart q x h e = false≢true (sym h ∙ ap (λ (y : ℕ). y == q) (sym e) ∙ same q)

-- the rest after the quote begins with it, which it doesn't
again : (q : ℕ) (s rest : List ℕ) → begins_with q s ≡ false → s ≡ q ∷ rest → ⊥
again q s rest h e = false≢true (sym h ∙ ap (begins_with q) e ∙ same q)

content_end : (q : ℕ) (a b s t : List ℕ) → begins_with q s ≡ false → begins_with q t ≡ false → flat_map (doubled q) a ++ q ∷ s ≡ flat_map (doubled q) b ++ q ∷ t → (a ≡ b) × (s ≡ t)
content_end q [] [] s t hs ht e = (refl, ap others e)
content_end q [] (y ∷ b) s t hs ht e = go (y == q) refl e
  where
    go : (z : Bool) → (y == q) ≡ z → q ∷ s ≡ ((if z then q ∷ q ∷ [] else y ∷ []) ++ flat_map (doubled q) b) ++ q ∷ t → ([] ≡ y ∷ b) × (s ≡ t)
    go true is f = absurd (again q s (flat_map (doubled q) b ++ q ∷ t) hs (ap others f))
    go false is f = absurd (apart q y is (ap first f))
content_end q (x ∷ a) [] s t hs ht e = go (x == q) refl e
  where
    go : (z : Bool) → (x == q) ≡ z → ((if z then q ∷ q ∷ [] else x ∷ []) ++ flat_map (doubled q) a) ++ q ∷ s ≡ q ∷ t → (x ∷ a ≡ []) × (s ≡ t)
    go true is f = absurd (again q t (flat_map (doubled q) a ++ q ∷ s) ht (sym (ap others f)))
    go false is f = absurd (apart q x is (sym (ap first f)))
content_end q (x ∷ a) (y ∷ b) s t hs ht e = go (content_end q a b s t hs ht) (x == q) (y == q) refl refl e
  where
    joined : (x ≡ y) → (a ≡ b) × (s ≡ t) → (x ∷ a ≡ y ∷ b) × (s ≡ t)
    joined p h = ((λ i. p i ∷ h.0 i), h.1)

    is_quote : (z : ℕ) → (z == q) ≡ true → z ≡ q
    is_quote z h = grind arith

    go : (flat_map (doubled q) a ++ q ∷ s ≡ flat_map (doubled q) b ++ q ∷ t → (a ≡ b) × (s ≡ t)) → (w z : Bool) → (x == q) ≡ w → (y == q) ≡ z
        → ((if w then q ∷ q ∷ [] else x ∷ []) ++ flat_map (doubled q) a) ++ q ∷ s ≡ ((if z then q ∷ q ∷ [] else y ∷ []) ++ flat_map (doubled q) b) ++ q ∷ t
        → (x ∷ a ≡ y ∷ b) × (s ≡ t)
    go more true true wx zy f = joined (is_quote x wx ∙ sym (is_quote y zy)) (more (ap (λ l. others (others l)) f))
    go more true false wx zy f = absurd (apart q y zy (ap first f))
    go more false true wx zy f = absurd (apart q x wx (sym (ap first f)))
    go more false false wx zy f = joined (ap first f) (more (ap others f))

pub quoted_end : (q : ℕ) (a b s t : List ℕ) → begins_with q s ≡ false → begins_with q t ≡ false → between q a ++ s ≡ between q b ++ t → (a ≡ b) × (s ≡ t)
quoted_end q a b s t hs ht e = content_end q a b s t hs ht (sym (append_assoc (flat_map (doubled q) a) (q ∷ []) s) ∙ ap others e ∙ append_assoc (flat_map (doubled q) b) (q ∷ []) t)
