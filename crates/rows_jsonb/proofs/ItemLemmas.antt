-- Items that a walk finds are what the bytes encode, and the other way round.
use Rattle.std.proofs.Common.{◌≡◌, ◌≤◌, ◌<◌, ◌++◌, ◌⊎◌, ℕ, zero, suc, List, [], ◌∷◌, length, Bool, true, false, eqb, append_assoc, Option, Some, None, refl, sym, ap, subst, ◌∙◌, arith, inl, inr, Ok, Err}
use Rattle.std.proofs.lemmas.Bool.{eqb-true}
use Rattle.std.proofs.lemmas.Bool.Decides.{nat_tests}
use Rattle.std.proofs.lemmas.List.{length-append, append-nil}
use Rattle.wire_buf.specs.Encoding.{Encoding, Begins}
use Rattle.rows_errors.specs.declared.fault.RowsError.{RowsError}
use Rattle.rows_errors.specs.Readings.{Reading}
use Rattle.rows_jsonb.specs.Items.{AreItemsEncoded, Walked, WalkEndsAt, Finds, prepend_item, after_item, found_by, walk, items_at}

not_zero : (n : ℕ) → 0 < n → eqb n 0 ≡ false
not_zero n h = grind (arith, nat_tests)

-- bytes are empty or not
empty_or : (s : List ℕ) → ((s ≡ []) × (eqb (length s) 0 ≡ true)) ⊎ ((0 < length s) × (eqb (length s) 0 ≡ false))
empty_or [] = inl (refl, refl)
empty_or (b ∷ s) = inr (omega arith, not_zero (length (b ∷ s)) (omega arith))

-- one step of a walk over bytes that aren't empty
pub walk_on : {A : Type 0} (item_at : List ℕ → Reading (A × List ℕ)) (n : ℕ) (s : List ℕ) (o : Reading (A × List ℕ)) → 0 < length s → length s ≤ suc n → item_at s ≡ o → walk item_at (suc n) s ≡ found_by o (λ rest. walk item_at n rest)
unfolding walk
walk_on item_at n s o some le e = elim (empty_or s) [
  | inl t ↦ absurd (omega (arith, some, ap length t.0))
  | inr t ↦ rw (t.1, e) refl
]

-- more steps than bytes change nothing
pub walk_done : {A : Type 0} (item_at : List ℕ → Reading (A × List ℕ)) (n : ℕ) → walk item_at n [] ≡ record { items = []; fault = None }
unfolding walk
walk_done item_at zero = refl
walk_done item_at (suc n) = refl

walked-parts : {A : Type 0} (v : A) (w : Walked A) (vs : List A) (f : Option RowsError) → prepend_item v w ≡ record { items = vs; fault = f } → (v ∷ w.items ≡ vs) × (w.fault ≡ f)
walked-parts v w vs f h = (ap (λ x. x.items) h, ap (λ x. x.fault) h)

-- if each item is found and takes at least one byte, a walk finds all items, up to the first that can't be read
module _ {A : Type 0} (encodes : Encoding A) (item_at : List ℕ → Reading (A × List ℕ))
    (complete : (v : A) (own rest r : List ℕ) → encodes v own rest → item_at (own ++ r) ≡ Ok (v, r))
    (sound : (x : List ℕ) (v : A) (r : List ℕ) → item_at x ≡ Ok (v, r) → Begins (encodes v) x r)
    (shrinks : (x : List ℕ) (v : A) (r : List ℕ) → item_at x ≡ Ok (v, r) → length r < length x) where
  walk-finds : (n : ℕ) (s : List ℕ) → length s ≤ n → Finds encodes item_at (walk item_at n s) s
  walk-finds zero s le = let none : s ≡ [] = no_bytes s le in rw (none, walk_done item_at 0) (record { own = []; rest = []; parts = refl; items_are = refl; stops = refl })
    where
      no_bytes : (s : List ℕ) → length s ≤ 0 → s ≡ []
      no_bytes [] le = refl
      no_bytes (b ∷ s) le = absurd (omega (arith, le))
  walk-finds (suc n) s le = elim (empty_or s) [
    | inl t ↦ rw (t.0, walk_done item_at (suc n)) (record { own = []; rest = []; parts = refl; items_are = refl; stops = refl })
    | inr t ↦ rest_of (item_at s) refl t.0 (λ x shorter. walk-finds n x shorter)
  ]
    where
      rest_of : (o : Reading (A × List ℕ)) → item_at s ≡ o → 0 < length s → ((x : List ℕ) → length x ≤ n → Finds encodes item_at (walk item_at n x) x) → Finds encodes item_at (walk item_at (suc n) s) s
      rest_of (Err e) h some again = rw (walk_on item_at n s (Err e) some le h) (record { own = []; rest = s; parts = refl; items_are = refl; stops = (some, h) })
      rest_of (Ok x) h some again =
          let less = shrinks s x.0 x.1 h in
          let first = sound s x.0 x.1 h in
          let more = again x.1 (omega (arith, less, le)) in
          rw (walk_on item_at n s (Ok x) some le h) (record {
            own = first.bytes ++ more.own;
            rest = more.rest;
            parts = first.joined ∙ ap (λ (t : List ℕ). first.bytes ++ t) more.parts ∙ sym (append_assoc first.bytes more.own more.rest);
            items_are = (first.bytes, more.own, refl, subst (λ (t : List ℕ). encodes x.0 first.bytes t) more.parts first.is, more.items_are);
            stops = more.stops;
          })

  walk-found : (vs : List A) (f : Option RowsError) (own rest : List ℕ) (n : ℕ) → AreItemsEncoded encodes vs own rest → WalkEndsAt item_at f rest → length (own ++ rest) ≤ n
      → walk item_at n (own ++ rest) ≡ record { items = vs; fault = f }
  walk-found [] None own rest n h stops le = rw (h, stops) (walk_done item_at n)
  walk-found [] (Some e) own rest zero h stops le = absurd (omega (arith, stops.0, le, length-append own rest))
  walk-found [] (Some e) own rest (suc n) h stops le = rw h (walk_on item_at n rest (Err e) stops.0 (omega (arith, le, length-append own rest)) stops.1)
  walk-found (v ∷ vs) f own rest n h stops le =
      let whole : own ++ rest ≡ h.0 ++ (h.1 ++ rest) = rw (h.2, append_assoc h.0 h.1 rest) refl in
      let found : item_at (own ++ rest) ≡ Ok (v, h.1 ++ rest) = rw whole (complete v h.0 (h.1 ++ rest) (h.1 ++ rest) h.3) in
      let less = shrinks (own ++ rest) v (h.1 ++ rest) found in
      on n le found less (λ m shorter. walk-found vs f h.1 rest m h.4 stops shorter)
    where
      on : (n : ℕ) → length (own ++ rest) ≤ n → item_at (own ++ rest) ≡ Ok (v, h.1 ++ rest) → length (h.1 ++ rest) < length (own ++ rest)
          → ((m : ℕ) → length (h.1 ++ rest) ≤ m → walk item_at m (h.1 ++ rest) ≡ record { items = vs; fault = f }) → walk item_at n (own ++ rest) ≡ record { items = v ∷ vs; fault = f }
      on zero le found less again = absurd (omega (arith, le, less))
      on (suc n) le found less again =
          walk_on item_at n (own ++ rest) (Ok (v, h.1 ++ rest)) (omega (arith, less)) le found
          ∙ ap (prepend_item v) (again n (omega (arith, le, less)))

  pub items-found : (s : List ℕ) → Finds encodes item_at (items_at item_at s) s
  items-found s = walk-finds (length s) s (omega arith)

  pub items-only : (found : Walked A) (s : List ℕ) → Finds encodes item_at found s → items_at item_at s ≡ found
  items-only found s h = rw h.parts (walk-found found.items found.fault h.own h.rest (length (h.own ++ h.rest)) h.items_are h.stops (omega arith))

-- ---- a walk, one item at a time

-- items that were found, before those of a walk
abbrev pub prepend_found : {A : Type 0} → List A → Walked A → Walked A
prepend_found split_diff w = record { items = split_diff ++ w.items; fault = w.fault }

pub one_more : {A : Type 0} (item_at : List ℕ → Reading (A × List ℕ)) (split_diff : List A) (n : ℕ) (s : List ℕ) (x : A × List ℕ) → 0 < length s → length s ≤ n → item_at s ≡ Ok x → length x.1 < length s
    → (m : ℕ) × (length x.1 ≤ m) × (prepend_found split_diff (walk item_at n s) ≡ prepend_found (split_diff ++ x.0 ∷ []) (walk item_at m x.1))
one_more item_at split_diff zero s x some le e less = absurd (omega (arith, some, le))
one_more item_at split_diff (suc n) s x some le e less =
    (n, omega (arith, le, less), rw (walk_on item_at n s (Ok x) some le e) (ap (λ (vs : List _). record { items = vs; fault = (walk item_at n x.1).fault }) (sym (append_assoc split_diff (x.0 ∷ []) (walk item_at n x.1).items))))

pub one_bad : {A : Type 0} (item_at : List ℕ → Reading (A × List ℕ)) (split_diff : List A) (n : ℕ) (s : List ℕ) (e : RowsError) → 0 < length s → length s ≤ n → item_at s ≡ Err e
    → prepend_found split_diff (walk item_at n s) ≡ record { items = split_diff; fault = Some e }
one_bad item_at split_diff zero s e some le h = absurd (omega (arith, some, le))
one_bad item_at split_diff (suc n) s e some le h = rw (walk_on item_at n s (Err e) some le h) (ap (λ (vs : List _). record { items = vs; fault = Some e }) (append-nil split_diff))

pub none_left : {A : Type 0} (item_at : List ℕ → Reading (A × List ℕ)) (split_diff : List A) (n : ℕ) (s : List ℕ) → length s ≡ 0 → prepend_found split_diff (walk item_at n s) ≡ record { items = split_diff; fault = None }
none_left item_at split_diff n [] h = rw (walk_done item_at n) (ap (λ (vs : List _). record { items = vs; fault = None }) (append-nil split_diff))
none_left item_at split_diff n (b ∷ s) h = absurd (omega (arith, h))

-- the error of a walk is that of its rest
pub fault_more : {A : Type 0} (item_at : List ℕ → Reading (A × List ℕ)) (n : ℕ) (s : List ℕ) (x : A × List ℕ) → 0 < length s → length s ≤ n → item_at s ≡ Ok x → length x.1 < length s
    → (m : ℕ) × (length x.1 ≤ m) × ((walk item_at n s).fault ≡ (walk item_at m x.1).fault)
fault_more item_at n s x some le e less = let m = one_more item_at [] n s x some le e less in (m.0, m.1, ap (λ w. w.fault) m.2)

-- the meaning of a test for emptiness
pub some_left : (s : List ℕ) (b : Bool) → b ≡ eqb (length s) 0 → b ≡ false → 0 < length s
some_left [] b e f = absurd cc
some_left (x ∷ s) b e f = omega arith

pub no_byte_left : (s : List ℕ) (b : Bool) → b ≡ eqb (length s) 0 → b ≡ true → length s ≡ 0
no_byte_left [] b e f = refl
no_byte_left (x ∷ s) b e f = let n = eqb-true (length (x ∷ s)) 0 (sym e ∙ f) in absurd (omega (arith, n))

-- the bytes after an item follow an item that was read
pub item_after : {A : Type 0} (o : Reading (A × List ℕ)) (r : List ℕ) → (let found : Reading (List ℕ) = Ok r in found ≡ after_item o) → (v : A) × (o ≡ Ok (v, r))
item_after (Ok x) r h = let e : r ≡ x.1 = cc in (x.0, ap (λ (t : List ℕ). Ok (x.0, t)) (sym e))
item_after (Err e) r h = absurd cc

pub no_item_after : {A : Type 0} (o : Reading (A × List ℕ)) (e : RowsError) → (let failed : Reading (List ℕ) = Err e in failed ≡ after_item o) → o ≡ Err e
no_item_after (Ok x) e h = absurd cc
no_item_after (Err f) e h = let g : e ≡ f = cc in ap (λ (t : RowsError). Err t) (sym g)
