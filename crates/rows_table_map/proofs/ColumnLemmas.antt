-- The column at an index, after those before it.
use Rattle.std.proofs.Common.{◌≡◌, ◌≤◌, ◌+◌, ℕ, zero, suc, List, [], ◌∷◌, drop, Option, Some, None, refl, ap, sym, ◌∙◌, arith}
use Rattle.std.specs.Prelude.{slice_get}
use Rattle.std.specs.Option.{option_map}
use Rattle.rows_table_map.specs.declared.columns.ColumnMeta.{ColumnMeta as CodeColumn}
use Rattle.rows_table_map.specs.declared.columns.IterColumns.{IterColumns}
use Rattle.rows_table_map.specs.ColumnMetadata.{ColumnMeta}
use Rattle.rows_table_map.specs.ColumnViews.{column_meta_view, remaining_columns, ReturnsColumn}

-- the rest begins with the element at the index
pub at_prefix : {A : Type 0} (xs : List A) (i : ℕ) (x : A) (rest : List A) → drop i xs ≡ x ∷ rest → slice_get xs i ≡ Some x
at_prefix [] zero x rest h = absurd cc
at_prefix [] (suc i) x rest h = absurd cc
at_prefix (y ∷ xs) zero x rest h = let e : y ≡ x = cc in ap Some e
at_prefix (y ∷ xs) (suc i) x rest h = at_prefix xs i x rest h

-- nothing remains, so there is no element at the index or past it
pub past_end : {A : Type 0} (xs : List A) (k i : ℕ) → drop k xs ≡ [] → k ≤ i → slice_get xs i ≡ None
past_end [] k i h le = refl
past_end (y ∷ xs) zero i h le = absurd cc
past_end (y ∷ xs) (suc k) zero h le = absurd (omega (arith, le))
past_end (y ∷ xs) (suc k) (suc i) h le = past_end xs k i h (omega (arith, le))

-- one more element is returned
after_first : {A : Type 0} (xs : List A) (i : ℕ) (x : A) (rest : List A) → drop i xs ≡ x ∷ rest → drop (suc i) xs ≡ rest
after_first [] zero x rest h = absurd cc
after_first [] (suc i) x rest h = absurd cc
after_first (y ∷ xs) zero x rest h = let e : xs ≡ rest = cc in e
after_first (y ∷ xs) (suc i) x rest h = after_first xs i x rest h

pub one_dropped : {A : Type 0} (xs : List A) (i : ℕ) (x : A) (rest : List A) → drop i xs ≡ x ∷ rest → drop (i + 1) xs ≡ rest
one_dropped xs i x rest h = let e : i + 1 ≡ suc i = omega arith in ap (λ (k : ℕ). drop k xs) e ∙ after_first xs i x rest h

-- the column that is returned when those from the index on remain
pub column_taken : (all : List ColumnMeta) (i j : ℕ) (old : IterColumns) (r : Option CodeColumn) (new : IterColumns) → i ≡ j → drop i all ≡ remaining_columns old → ReturnsColumn old r new → option_map column_meta_view r ≡ slice_get all j
column_taken all i j old (Some c) new e h t = sym (at_prefix all j (column_meta_view c) (remaining_columns new) (ap (λ (k : ℕ). drop k all) (sym e) ∙ h ∙ t))
column_taken all i j old None new e h t = sym (past_end all i j (h ∙ t.0) (omega (arith, e)))
