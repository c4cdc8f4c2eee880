-- Sums of one more.
use Rattle.std.proofs.Common.{◌≡◌, ℕ, ◌+◌, List, [], ◌∷◌, ◌++◌, Option, Some, None, cond, Bool, true, false, length, refl, ap, ◌∙◌, arith, append-nil, sum_by, filter, map}
use Rattle.std.proofs.lemmas.List.{length_push}
use Rattle.std.proofs.lemmas.List.Sums.{sum_by_push}
use Rattle.std.specs.Str.{bytes_eq}
use Rattle.changes_stats.specs.RowSums.{capped, plus, sum_of_counts}
use Rattle.changes_stats.specs.TableSums.{NamedCounts, Sums, of_table, sums_of}
use Rattle.changes_stats.specs.declared.counts.RowCounts.{RowCounts}

pub capped-more : (a b n : ℕ) → n ≡ a + b → capped n ≡ capped (capped a + b)
capped-more a b n e = omega (arith, e)

pub sum_of_counts-push : (l : List RowCounts) (c : RowCounts) → sum_of_counts (l ++ c ∷ []) ≡ plus (sum_of_counts l) c
unfolding sum_of_counts
sum_of_counts-push l c =
    let inserted = capped-more (sum_by (λ c. c.inserted) l) c.inserted _ (sum_by_push (λ (c : RowCounts). c.inserted) l c) in
    let deleted = capped-more (sum_by (λ c. c.deleted) l) c.deleted _ (sum_by_push (λ (c : RowCounts). c.deleted) l c) in
    let updated = capped-more (sum_by (λ c. c.updated) l) c.updated _ (sum_by_push (λ (c : RowCounts). c.updated) l c) in
    let bytes = capped-more (sum_by (λ c. c.bytes) l) c.bytes _ (sum_by_push (λ (c : RowCounts). c.bytes) l c) in
    cc

pub sum_of_counts-none : sum_of_counts [] ≡ record { inserted = 0; deleted = 0; updated = 0; bytes = 0 }
unfolding sum_of_counts
sum_of_counts-none = refl

-- those of a table with one more
pub of_table-push : (name : List ℕ) (l : List NamedCounts) (t : NamedCounts) → of_table name (l ++ t ∷ []) ≡ of_table name l ++ cond (bytes_eq name t.name) (t.counts ∷ []) []
of_table-push name [] t = by (bytes_eq name t.name)
  where
    by : (b : Bool) → map (λ (t : NamedCounts). t.counts) (cond b (t ∷ []) []) ≡ cond b (t.counts ∷ []) []
    by true = refl
    by false = refl
of_table-push name (x ∷ l) t = by (bytes_eq name x.name) (of_table-push name l t)
  where
    by : (b : Bool) → of_table name (l ++ t ∷ []) ≡ of_table name l ++ cond (bytes_eq name t.name) (t.counts ∷ []) []
        → map (λ (t : NamedCounts). t.counts) (cond b (x ∷ filter (λ (t : NamedCounts). bytes_eq name t.name) (l ++ t ∷ [])) (filter (λ (t : NamedCounts). bytes_eq name t.name) (l ++ t ∷ [])))
        ≡ map (λ (t : NamedCounts). t.counts) (cond b (x ∷ filter (λ (t : NamedCounts). bytes_eq name t.name) l) (filter (λ (t : NamedCounts). bytes_eq name t.name) l)) ++ cond (bytes_eq name t.name) (t.counts ∷ []) []
    by true e = ap (λ r. x.counts ∷ r) e
    by false e = e

pub of_table-same : (name : List ℕ) (l : List NamedCounts) (t : NamedCounts) → bytes_eq name t.name ≡ true → of_table name (l ++ t ∷ []) ≡ of_table name l ++ t.counts ∷ []
of_table-same name l t e = of_table-push name l t ∙ ap (λ b. of_table name l ++ cond b (t.counts ∷ []) []) e

pub of_table-other : (name : List ℕ) (l : List NamedCounts) (t : NamedCounts) → bytes_eq name t.name ≡ false → of_table name (l ++ t ∷ []) ≡ of_table name l
of_table-other name l t e = of_table-push name l t ∙ (ap (λ b. of_table name l ++ cond b (t.counts ∷ []) []) e ∙ append-nil (of_table name l))

-- the sums of a table with one more
abbrev pub with_sums : Option Sums → RowCounts → Sums
with_sums None c = record { counts = plus (record { inserted = 0; deleted = 0; updated = 0; bytes = 0 }) c; transactions = 1 }
with_sums (Some s) c = record { counts = plus s.counts c; transactions = capped (s.transactions + 1) }

sums_of-push : (l : List RowCounts) (c : RowCounts) → sums_of (l ++ c ∷ []) ≡ Some (with_sums (sums_of l) c)
sums_of-push [] c =
    let e = sum_of_counts-push [] c in
    let none = sum_of_counts-none in
    rw (e, none) refl
sums_of-push (x ∷ l) c =
    let counts : sum_of_counts (x ∷ l ++ c ∷ []) ≡ plus (sum_of_counts (x ∷ l)) c = sum_of_counts-push (x ∷ l) c in
    let len : capped (length (x ∷ l ++ c ∷ [])) ≡ capped (capped (length (x ∷ l)) + 1) = let e = length_push (x ∷ l) c in capped-more (length (x ∷ l)) 1 _ e in
    cc

pub sums_of-same : (name : List ℕ) (l : List NamedCounts) (t : NamedCounts) → bytes_eq name t.name ≡ true → sums_of (of_table name (l ++ t ∷ [])) ≡ Some (with_sums (sums_of (of_table name l)) t.counts)
sums_of-same name l t e = rw (of_table-push name l t, e) (sums_of-push (of_table name l) t.counts)

pub sums_of-other : (name : List ℕ) (l : List NamedCounts) (t : NamedCounts) → bytes_eq name t.name ≡ false → sums_of (of_table name (l ++ t ∷ [])) ≡ sums_of (of_table name l)
sums_of-other name l t e = rw (of_table-push name l t, e) (simp append-nil)
