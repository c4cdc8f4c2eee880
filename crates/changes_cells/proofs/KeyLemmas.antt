-- Keys of documents, with a `$` before those that could be mistaken for ours.
use Rattle.std.proofs.Common.{◌≡◌, ℕ, Bool, true, false, List, [], ◌∷◌, refl, sym, subst, ◌∙◌}
use Rattle.changes_cells.specs.JsonDocuments.{is_reserved, escaped_key}

escaped_if : (k : List ℕ) → is_reserved k ≡ true → escaped_key k ≡ 36 ∷ k
escaped_if k h = rw h refl

escaped_else : (k : List ℕ) → is_reserved k ≡ false → escaped_key k ≡ k
escaped_else k h = rw h refl

-- a key after a `$` is reserved
dollar_reserved : (a b : List ℕ) → 36 ∷ a ≡ b → is_reserved b ≡ true
dollar_reserved a b h = subst (λ (k : List ℕ). is_reserved k ≡ true) h refl

tails : (a b : List ℕ) → 36 ∷ a ≡ 36 ∷ b → a ≡ b
tails a b h = cc

not_both : (b : Bool) → b ≡ true → b ≡ false → ⊥
not_both b t f = absurd cc

pub same_keys : (a b : List ℕ) → escaped_key a ≡ escaped_key b → a ≡ b
same_keys a b h = either (is_reserved a) refl (is_reserved b) refl
  where
    either : (x : Bool) → is_reserved a ≡ x → (y : Bool) → is_reserved b ≡ y → a ≡ b
    either true p true q = tails a b (sym (escaped_if a p) ∙ h ∙ escaped_if b q)
    either true p false q = absurd (not_both (is_reserved b) (dollar_reserved a b (sym (escaped_if a p) ∙ h ∙ escaped_else b q)) q)
    either false p true q = absurd (not_both (is_reserved a) (dollar_reserved b a (sym (escaped_if b q) ∙ sym h ∙ escaped_else a p)) p)
    either false p false q = sym (escaped_else a p) ∙ h ∙ escaped_else b q
