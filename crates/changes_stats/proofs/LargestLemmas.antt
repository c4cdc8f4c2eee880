-- The largest transactions with one more.
use Rattle.std.proofs.Common.{◌≡◌, ℕ, zero, suc, ◌+◌, ◌<◌, ◌≤◌, List, [], ◌∷◌, ◌++◌, Bool, true, false, cond, ltb, length, get_or, take, drop, map, filter, refl, ap, sym, ◌∙◌, arith, add-one, append-nil, inl, inr, ◌⊎◌}
use Rattle.std.proofs.lemmas.Bool.{cases_Bool, lt-ltb, le-ltb}
use Rattle.std.proofs.lemmas.List.{drop_more, map-append}
use Rattle.std.proofs.lemmas.List.Sums.{fold_push}
use Rattle.std.proofs.lemmas.List.Elements.{filter-append}
use Rattle.std.specs.List.{insert}
use Rattle.changes_stats.specs.Largest.{Large, has_rows, index_of, large_of, placed, ranked}
use Rattle.changes_stats.specs.declared.largest.LargeTransaction.{LargeTransaction}

take-take : (n : ℕ) (l : List Large) → take n (take (suc n) l) ≡ take n l
take-take zero l = refl
take-take (suc n) [] = refl
take-take (suc n) (x ∷ l) = ap (λ r. x ∷ r) (take-take n l)

take-again : (n : ℕ) (y : Large) (l : List Large) → take n (y ∷ take n l) ≡ take n (y ∷ l)
take-again zero y l = refl
take-again (suc n) y l = ap (λ r. y ∷ r) (take-take n l)

-- of the first of some, and one more, the first are those of all and one more
placed-take : (n : ℕ) (t : Large) (l : List Large) → take n (placed t (take n l)) ≡ take n (placed t l)
placed-take zero t l = refl
placed-take (suc n) t [] = refl
placed-take (suc n) t (u ∷ l) = by (ltb u.rows t.rows) (placed-take n t l)
  where
    by : (b : Bool) → take n (placed t (take n l)) ≡ take n (placed t l) → take (suc n) (cond b (t ∷ u ∷ take n l) (u ∷ placed t (take n l))) ≡ take (suc n) (cond b (t ∷ u ∷ l) (u ∷ placed t l))
    by true e = ap (λ r. t ∷ r) (take-again n u l)
    by false e = ap (λ r. u ∷ r) e

-- it is put at its index
insert-index_of : (t : Large) (l : List Large) → insert l (index_of t.rows l) t ≡ placed t l
insert-index_of t [] = refl
insert-index_of t (u ∷ l) = by (ltb u.rows t.rows) (insert-index_of t l)
  where
    by : (b : Bool) → insert l (index_of t.rows l) t ≡ placed t l → insert (u ∷ l) (cond b 0 (index_of t.rows l + 1)) t ≡ cond b (t ∷ u ∷ l) (u ∷ placed t l)
    by true e = refl
    by false e = rw add-one (ap (λ r. u ∷ r) e)

ranked-push : (l : List Large) (t : Large) → ranked (l ++ t ∷ []) ≡ placed t (ranked l)
unfolding ranked
ranked-push l t = fold_push (λ r t. placed t r) [] l t

with_rows : (l : List Large) (t : Large) → has_rows t ≡ true → ranked (filter has_rows (l ++ t ∷ [])) ≡ placed t (ranked (filter has_rows l))
with_rows l t e = rw (filter-append has_rows l (t ∷ []), e, ranked-push (filter has_rows l) t) refl

-- one more with rows, at its index
largest_with : (count : ℕ) (kept l : List Large) (t : Large) → has_rows t ≡ true → kept ≡ take count (ranked (filter has_rows l)) → take count (insert kept (index_of t.rows kept) t) ≡ take count (ranked (filter has_rows (l ++ t ∷ [])))
largest_with count kept l t e is = rw (with_rows l t e, insert-index_of t kept, is) (placed-take count t (ranked (filter has_rows l)))

-- one without rows
largest_without : (l : List Large) (t : Large) → has_rows t ≡ false → ranked (filter has_rows (l ++ t ∷ [])) ≡ ranked (filter has_rows l)
largest_without l t e = rw (filter-append has_rows l (t ∷ []), e) (simp append-nil)

placed-out : (n : ℕ) (t : Large) (l : List Large) → n ≤ index_of t.rows l → take n (placed t l) ≡ take n l
placed-out zero t l le = refl
placed-out (suc n) t [] le = absurd (omega arith)
placed-out (suc n) t (u ∷ l) le = by (ltb u.rows t.rows) (λ h. placed-out n t l h) le
  where
    by : (b : Bool) → (n ≤ index_of t.rows l → take n (placed t l) ≡ take n l) → suc n ≤ cond b 0 (index_of t.rows l + 1) → take (suc n) (cond b (t ∷ u ∷ l) (u ∷ placed t l)) ≡ u ∷ take n l
    by true e h = absurd (omega arith)
    by false e h = ap (λ r. u ∷ r) (e (omega arith))

take-same : (n : ℕ) (l : List Large) → take n (take n l) ≡ take n l
take-same zero l = refl
take-same (suc n) [] = refl
take-same (suc n) (u ∷ l) = ap (λ r. u ∷ r) (take-same n l)

-- one more that isn't one of the largest
largest_but : (count : ℕ) (kept l : List Large) (t : Large) → has_rows t ≡ true → count ≤ index_of t.rows kept → kept ≡ take count (ranked (filter has_rows l)) → kept ≡ take count (ranked (filter has_rows (l ++ t ∷ [])))
largest_but count kept l t e le is =
    let all = ranked (filter has_rows l) in
    let out = placed-out count t kept le in
    rw (with_rows l t e, ← placed-take count t all, ← is, out, is) (sym (take-same count all))

-- at a transaction with fewer rows, and at another
pub index_of-here : (rows : ℕ) (xs : List LargeTransaction) (i : ℕ) (x : LargeTransaction) → i < length xs → x ≡ get_or xs i x → x.rows < rows → index_of rows (map large_of (drop i xs)) ≡ 0
index_of-here rows xs i x lt is less =
    let e : ltb (get_or xs i x).rows rows ≡ true = rw (sym is) (lt-ltb _ _ less) in
    rw (drop_more xs i x lt, e) refl

pub index_of-more : (rows : ℕ) (xs : List LargeTransaction) (i : ℕ) (x : LargeTransaction) → i < length xs → x ≡ get_or xs i x → rows ≤ x.rows → index_of rows (map large_of (drop i xs)) ≡ index_of rows (map large_of (drop (i + 1) xs)) + 1
index_of-more rows xs i x lt is le =
    let e : ltb (get_or xs i x).rows rows ≡ false = rw (sym is) (le-ltb _ _ le) in
    rw (drop_more xs i x lt, e) refl

-- one more, at its index if it has rows and that is below the count
largest_added : (count : ℕ) (kept l : List Large) (t : Large) → 0 < t.rows → kept ≡ take count (ranked (filter has_rows l)) → take count (insert kept (index_of t.rows kept) t) ≡ take count (ranked (filter has_rows (l ++ t ∷ [])))
largest_added count kept l t some is = largest_with count kept l t (lt-ltb _ _ some) is

pub largest_left : (count : ℕ) (kept l : List Large) (t : Large) → (t.rows ≡ 0) ⊎ (count ≤ index_of t.rows kept) → kept ≡ take count (ranked (filter has_rows l)) → kept ≡ take count (ranked (filter has_rows (l ++ t ∷ [])))
largest_left count kept l t (inl none) is = is ∙ ap (take count) (sym (largest_without l t (le-ltb 0 t.rows (omega arith))))
largest_left count kept l t (inr le) is = by (cases_Bool (has_rows t))
  where
    by : ((has_rows t ≡ true) ⊎ (has_rows t ≡ false)) → kept ≡ take count (ranked (filter has_rows (l ++ t ∷ [])))
    by (inl some) = largest_but count kept l t some le is
    by (inr none) = is ∙ ap (take count) (sym (largest_without l t none))

take-none : (n : ℕ) → take n (let none : List Large = [] in none) ≡ []
take-none zero = refl
take-none (suc n) = refl

-- none
pub largest_none : (count : ℕ) → [] ≡ take count (ranked [])
unfolding ranked
largest_none count = sym (take-none count)

map-take : (n : ℕ) (l : List LargeTransaction) → map large_of (take n l) ≡ take n (map large_of l)
map-take zero l = refl
map-take (suc n) [] = refl
map-take (suc n) (t ∷ l) = ap (λ r. large_of t ∷ r) (map-take n l)

map-drop : (n : ℕ) (l : List LargeTransaction) → map large_of (drop n l) ≡ drop n (map large_of l)
map-drop zero l = refl
map-drop (suc n) [] = refl
map-drop (suc n) (t ∷ l) = map-drop n l

-- the same in the list of the code
pub put_largest : (count : ℕ) (items new : List LargeTransaction) (i : ℕ) (x : LargeTransaction) (l : List Large) (t : Large) → 0 < t.rows → new ≡ take count (insert items i x) → i ≡ index_of t.rows (map large_of items) → large_of x ≡ t
    → map large_of items ≡ take count (ranked (filter has_rows l)) → map large_of new ≡ take count (ranked (filter has_rows (l ++ t ∷ [])))
put_largest count items new i x l t some is at view was =
    let put : map large_of (insert items i x) ≡ insert (map large_of items) i t = map-append large_of (take i items) (x ∷ drop i items) ∙ rw (map-take, map-drop, view) refl in
    ap (map large_of) is ∙ (map-take count (insert items i x) ∙ (ap (take count) (put ∙ ap (λ n. insert (map large_of items) n t) at) ∙ largest_added count (map large_of items) l t some was))
