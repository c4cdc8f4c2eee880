-- The items of a list, step by step.
use Rattle.std.proofs.Common.{◌≡◌, ◌≤◌, ℕ, zero, suc, true, false, true≢false, List, [], ◌∷◌, length, Ok, Err, refl, sym, ap, ◌∙◌, arith, inl, inr}
use Rattle.std.proofs.lemmas.Bool.Decides.{eqb_tells}
use Rattle.std.specs.Prelude.{◌==◌}
use Rattle.rows_errors.specs.declared.fault.RowsError.{RowsError}
use Rattle.rows_errors.specs.Readings.{Reading}
use Rattle.rows_table_map.specs.Lists.{prepend_read, items_in, items_of, TakesBytes}

-- there is a byte
pub some_bytes : (b : ℕ) (s : List ℕ) → (length (b ∷ s) == 0) ≡ false
some_bytes b s = elim (eqb_tells (length (b ∷ s)) 0) [ inl e ↦ let z = e.1 in absurd (omega (arith, z)) | inr e ↦ e.0 ]

module _ {A : Type 0} (read : List ℕ → Reading (A × List ℕ)) (takes : TakesBytes read) where
  same_after : (n m : ℕ) (o : Reading (A × List ℕ)) → ((x : A × List ℕ) → o ≡ Ok x → items_in read n x.1 ≡ items_in read m x.1) → prepend_read (items_in read n) o ≡ prepend_read (items_in read m) o
  same_after n m (Ok x) h = ap (λ (t : List (Reading A)). Ok x.0 ∷ t) (h x refl)
  same_after n m (Err e) h = refl

  -- as many steps as bytes are enough
  enough : (n m : ℕ) (s : List ℕ) → length s ≤ n → length s ≤ m → items_in read n s ≡ items_in read m s
  unfolding items_in
  enough zero zero s h k = refl
  enough zero (suc m) [] h k = refl
  enough zero (suc m) (b ∷ s) h k = absurd (omega (arith, h))
  enough (suc n) zero [] h k = refl
  enough (suc n) zero (b ∷ s) h k = absurd (omega (arith, k))
  enough (suc n) (suc m) [] h k = refl
  enough (suc n) (suc m) (b ∷ s) h k =
      same_after n m (read (b ∷ s)) (λ x e. let less = takes (b ∷ s) x e in enough n m x.1 (omega (arith, less, h)) (omega (arith, less, k)))

  pub empty-items : items_of read [] ≡ []
  unfolding items_of items_in
  empty-items = refl

  first_item : (b : ℕ) (s : List ℕ) → items_of read (b ∷ s) ≡ prepend_read (items_in read (length s)) (read (b ∷ s))
  unfolding items_of items_in
  first_item b s = refl

  pub items-none : (s : List ℕ) → true ≡ (length s == 0) → (items_of read s ≡ []) × (items_of read s ≡ [])
  items-none [] h = (empty-items, empty-items)
  items-none (b ∷ s) h = absurd (true≢false (h ∙ some_bytes b s))

  pub items-ok : (s : List ℕ) (x : A × List ℕ) → read s ≡ Ok x → items_of read s ≡ Ok x.0 ∷ items_of read x.1
  unfolding items_of
  items-ok [] x h = absurd (omega (arith, takes [] x h))
  items-ok (b ∷ s) x h =
      let less = takes (b ∷ s) x h in
      first_item b s ∙ ap (prepend_read (items_in read (length s))) h ∙ ap (λ (t : List (Reading A)). Ok x.0 ∷ t) (enough (length s) (length x.1) x.1 (omega (arith, less)) (omega arith))

  pub items-err : (s : List ℕ) (e : RowsError) → false ≡ (length s == 0) → read s ≡ Err e → items_of read s ≡ Err e ∷ items_of read []
  items-err [] e some h = absurd (true≢false (sym some))
  items-err (b ∷ s) e some h = first_item b s ∙ ap (prepend_read (items_in read (length s))) h ∙ ap (λ (t : List (Reading A)). Err e ∷ t) (sym empty-items)
