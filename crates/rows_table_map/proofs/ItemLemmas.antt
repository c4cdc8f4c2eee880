-- The items of a list are its entries in order.
use Rattle.std.proofs.Common.{◌≡◌, ◌↔◌, ◌≤◌, ℕ, zero, suc, false, List, [], ◌∷◌, length, Ok, Err, refl, sym, ap, subst, ◌∙◌, arith}
use Rattle.std.specs.Prelude.{◌==◌, ◌≢◌}
use Rattle.wire_buf.specs.Encoding.{Encoding, Begins, Lacks}
use Rattle.rows_errors.specs.declared.fault.RowsError.{RowsError}
use Rattle.rows_errors.specs.Readings.{Reading}
use Rattle.rows_table_map.specs.Lists.{AreListItems, items_of, TakesBytes}
use Rattle.rows_table_map.proofs.ListLemmas.{items-ok, items-err, empty-items, some_bytes}

not_empty : (s : List ℕ) → s ≢ [] → false ≡ (length s == 0)
not_empty [] h = absurd (h refl)
not_empty (b ∷ s) h = sym (some_bytes b s)

cons_some : (b : ℕ) (s : List ℕ) → (b ∷ s) ≢ []
cons_some b s h = let e : length (b ∷ s) ≡ 0 = ap length h in absurd (omega (arith, e))

module _ {A : Type 0} (read : List ℕ → Reading (A × List ℕ)) (encodes : Encoding A) (fails : List ℕ → RowsError → Type 0)
    (takes : TakesBytes read)
    (law : (v : A) (bytes rest : List ℕ) → (read bytes ≡ Ok (v, rest)) ↔ Begins (encodes v) bytes rest)
    (failed : (bytes : List ℕ) (e : RowsError) → read bytes ≡ Err e → fails bytes e)
    (why : (bytes : List ℕ) (e : RowsError) → Lacks encodes bytes → fails bytes e → read bytes ≡ Err e) where
  items-sound : (items : List (Reading A)) (bytes : List ℕ) → AreListItems encodes fails bytes items → items_of read bytes ≡ items
  items-sound [] bytes h = rw h (empty-items read takes)
  items-sound (Ok v ∷ items) bytes h =
      items-ok read takes bytes (v, h.0) ((law v bytes h.0).1 h.1) ∙ ap (λ (t : List (Reading A)). Ok v ∷ t) (items-sound items h.0 h.2)
  items-sound (Err e ∷ []) bytes h =
      items-err read takes bytes e (not_empty bytes h.0) (why bytes e h.1 h.2) ∙ ap (λ (t : List (Reading A)). Err e ∷ t) (empty-items read takes)
  items-sound (Err e ∷ (i ∷ items)) bytes h = absurd h

  lacks : (bytes : List ℕ) (e : RowsError) → read bytes ≡ Err e → Lacks encodes bytes
  lacks bytes e h v rest b = let r : read bytes ≡ Ok (v, rest) = (law v bytes rest).1 b in absurd cc

  first_item : (b : ℕ) (s : List ℕ) (o : Reading (A × List ℕ)) → read (b ∷ s) ≡ o
      → ((x : A × List ℕ) → read (b ∷ s) ≡ Ok x → AreListItems encodes fails x.1 (items_of read x.1)) → AreListItems encodes fails (b ∷ s) (items_of read (b ∷ s))
  first_item b s (Ok x) e more =
      subst (AreListItems encodes fails (b ∷ s)) (sym (items-ok read takes (b ∷ s) x e)) (x.1, (law x.0 (b ∷ s) x.1).0 e, more x e)
  first_item b s (Err f) e more =
      subst (AreListItems encodes fails (b ∷ s)) (sym (items-err read takes (b ∷ s) f (sym (some_bytes b s)) e ∙ ap (λ (t : List (Reading A)). Err f ∷ t) (empty-items read takes))) (cons_some b s, lacks (b ∷ s) f e, failed (b ∷ s) f e)

  items-complete : (n : ℕ) (bytes : List ℕ) → length bytes ≤ n → AreListItems encodes fails bytes (items_of read bytes)
  items-complete n [] h = subst (AreListItems encodes fails []) (sym (empty-items read takes)) refl
  items-complete zero (b ∷ s) h = absurd (omega (arith, h))
  items-complete (suc n) (b ∷ s) h =
      first_item b s (read (b ∷ s)) refl (λ x e. let less = takes (b ∷ s) x e in items-complete n x.1 (omega (arith, less, h)))

  pub items-law : (bytes : List ℕ) (items : List (Reading A)) → (items_of read bytes ≡ items) ↔ AreListItems encodes fails bytes items
  items-law bytes items = (λ e. subst (AreListItems encodes fails bytes) e (items-complete (length bytes) bytes (omega arith)), λ h. items-sound items bytes h)
