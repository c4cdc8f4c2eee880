-- The columns of a plan, in order.
use Rattle.std.proofs.Common.{◌≡◌, ◌≤◌, ◌<◌, ℕ, zero, suc, ◌+◌, List, [], ◌∷◌, ◌++◌, length, take, Ok, Err, refl, sym, ap, ◌∙◌, arith, inl, inr, if◌then◌else◌}
use Rattle.std.specs.Prelude.{nat_le}
use Rattle.std.proofs.lemmas.Bool.Decides.{leb_tells}
use Rattle.std.proofs.lemmas.List.{take-append-le}
use Rattle.std.proofs.Math.Seq.{take-length}
use Rattle.rows_errors.specs.declared.fault.RowsError.{RowsError}
use Rattle.rows_errors.specs.Readings.{Reading, ◌>>=◌}
use Rattle.wire_fields.specs.RawTexts.{raw_string}
use Rattle.rows_table_map.specs.ColumnMetadata.{ColumnMeta}
use Rattle.rows_table_map.specs.ColumnViews.{table_map_columns}
use Rattle.rows_table_map.specs.declared.table_map.TableMapEvent.{TableMapEvent}
use Rattle.rows_table_map.specs.Lists.{strings}
use Rattle.rows_table_map.specs.MetadataFields.{fields}
use Rattle.rows_table_map.specs.Extracted.{Extracted, extracted}
use Rattle.rows_table_map.specs.Served.{bytes_or_none}
use Rattle.rows_event_body.specs.declared.column.PlannedColumn.{PlannedColumn as CodeColumn}
use Rattle.rows_event_body.specs.Plans.{Table, table_columns_of, PlannedColumn, column_at, first_columns}
use Rattle.rows_event_body.specs.PlanViews.{column_view, columns_from, own_name, plan_of}
use Rattle.rows_event_body.specs.Walks.{AreColumns}

same : {A : Type 0} (a b : A) → (let found : Reading A = Ok a in found ≡ Ok b) → a ≡ b
same a b h = cc

pub none_taken : (t : Table) → first_columns t 0 ≡ Ok []
unfolding first_columns
none_taken t = refl

pub one_longer : {A : Type 0} (xs : List A) (x : A) → length (xs ++ x ∷ []) ≡ suc (length xs)
one_longer [] x = refl
one_longer (y ∷ xs) x = ap suc (one_longer xs x)

from_zero : (k : ℕ) → 0 + k ≡ k
from_zero k = omega arith

-- one more column, as seen by the specification
one_seen : (names : List (Reading (List ℕ))) (cs : List CodeColumn) (c : CodeColumn) (i : ℕ) → columns_from names i (cs ++ c ∷ []) ≡ columns_from names i cs ++ column_view (own_name names (i + length cs)) c ∷ []
one_seen names [] c i = let z : i + 0 ≡ i = omega arith in ap (λ (k : ℕ). column_view (own_name names k) c ∷ []) (sym z)
one_seen names (d ∷ cs) c i =
    let z : (i + 1) + length cs ≡ i + suc (length cs) = omega arith in
    ap (λ l. column_view (own_name names i) d ∷ l) (one_seen names cs c (i + 1) ∙ ap (λ (k : ℕ). columns_from names (i + 1) cs ++ column_view (own_name names k) c ∷ []) z)

-- one more column
pub one_taken : (t : Table) (cs : List CodeColumn) (c : CodeColumn) → first_columns t (length cs) ≡ Ok (columns_from t.names 0 cs) → column_at t (length cs) ≡ Ok (column_view (own_name t.names (length cs)) c)
    → first_columns t (length (cs ++ c ∷ [])) ≡ Ok (columns_from t.names 0 (cs ++ c ∷ []))
unfolding first_columns
one_taken t cs c h k = ap (first_columns t) (one_longer cs c) ∙ more ∙ ap Ok (sym (one_seen t.names cs c 0 ∙ ap (λ (k : ℕ). columns_from t.names 0 cs ++ column_view (own_name t.names k) c ∷ []) (from_zero (length cs))))
  where
    more : first_columns t (suc (length cs)) ≡ Ok (columns_from t.names 0 cs ++ column_view (own_name t.names (length cs)) c ∷ [])
    more = rw (h, k) refl

-- the columns before the last
apart : (o : Reading (List PlannedColumn)) (q : Reading PlannedColumn) (l : List PlannedColumn) → (o >>= λ columns. q >>= λ column. Ok (columns ++ column ∷ [])) ≡ Ok l
    → (prefix : List PlannedColumn) × (c : PlannedColumn) × (o ≡ Ok prefix) × (l ≡ prefix ++ c ∷ [])
apart (Ok prefix) (Ok c) l h = (prefix, c, refl, sym (same (prefix ++ c ∷ []) l h))
apart (Ok prefix) (Err e) l h = absurd cc
apart (Err e) q l h = absurd cc

before : (t : Table) (m : ℕ) (l : List PlannedColumn) → first_columns t (suc m) ≡ Ok l → (prefix : List PlannedColumn) × (c : PlannedColumn) × (first_columns t m ≡ Ok prefix) × (l ≡ prefix ++ c ∷ [])
unfolding first_columns
before t m l h = apart (first_columns t m) (column_at t m) l h

so_many : (t : Table) (m : ℕ) (l : List PlannedColumn) → first_columns t m ≡ Ok l → length l ≡ m
so_many t zero l h = ap length (sym (same [] l (sym (none_taken t) ∙ h)))
so_many t (suc m) l h = let b = before t m l h in ap length b.3 ∙ one_longer b.0 b.1 ∙ ap suc (so_many t m b.0 b.2)

-- fewer columns are a prefix of more
pub fewer : (t : Table) (m n : ℕ) (l : List PlannedColumn) → first_columns t m ≡ Ok l → n ≤ m → first_columns t n ≡ Ok (take n l)
fewer t zero zero l h le = none_taken t
fewer t zero (suc n) l h le = absurd (omega (arith, le))
fewer t (suc m) n l h le = elim (leb_tells n m) [
  | inl e ↦ let b = before t m l h in fewer t m n b.0 b.2 e.1 ∙ ap Ok (sym (take-append-le n b.0 (b.1 ∷ []) (omega (arith, e, so_many t m b.0 b.2))) ∙ ap (take n) (sym b.3))
  | inr e ↦ let z : n ≡ suc m = omega (arith, e, le) in ap (first_columns t) z ∙ h ∙ ap Ok (sym (take-length l) ∙ ap (λ (k : ℕ). take k l) (so_many t (suc m) l h ∙ sym z))
]

stopped : (t : Table) (m : ℕ) (l : List PlannedColumn) (stop : RowsError) → first_columns t m ≡ Ok l → column_at t m ≡ Err stop → first_columns t (suc m) ≡ Err stop
unfolding first_columns
stopped t m l stop h k = rw (h, k) refl

still_stopped : (t : Table) (n : ℕ) (stop : RowsError) → first_columns t n ≡ Err stop → first_columns t (suc n) ≡ Err stop
unfolding first_columns
still_stopped t n stop h = rw h refl

-- if a column has an error, there is no plan that includes it
pub past_stop : (t : Table) (m : ℕ) (l : List PlannedColumn) (stop : RowsError) (n : ℕ) → first_columns t m ≡ Ok l → column_at t m ≡ Err stop → m < n → first_columns t n ≡ Err stop
past_stop t m l stop zero h k lt = absurd (omega (arith, lt))
past_stop t m l stop (suc n) h k lt = elim (leb_tells (suc m) n) [
  | inl e ↦ still_stopped t n stop (past_stop t m l stop n h k e.1)
  | inr e ↦ let z : n ≡ m = omega (arith, e, lt) in ap (λ (i : ℕ). first_columns t (suc i)) z ∙ stopped t m l stop h k
]

-- the plan for n columns, by the columns and their error
pub plan_known : (t : Table) (cs : List CodeColumn) (stop : RowsError) (n : ℕ) → AreColumns t cs stop
    → (if nat_le n (length cs) then Ok (take n (columns_from t.names 0 cs)) else Err stop) ≡ first_columns t n
plan_known t cs stop n h = elim (leb_tells n (length cs)) [
  | inl e ↦ rw e.0 (sym (fewer t (length cs) n (columns_from t.names 0 cs) h.columns_are e.1))
  | inr e ↦ rw e.0 (sym (past_stop t (length cs) (columns_from t.names 0 cs) stop n h.columns_are h.stop_is e.1))
]

-- the plan of a table, by what was read from it
pub plan_made : (m : TableMapEvent) (e : Extracted) (walked : List ColumnMeta) (names : List ℕ) (cs : List CodeColumn) (stop : RowsError)
    → Ok e ≡ extracted (fields (raw_string m.column_types) (raw_string m.optional_metadata)) → walked ≡ table_map_columns m → names ≡ bytes_or_none e.names → AreColumns (table_columns_of walked e) cs stop
    → (n : ℕ) → (if nat_le n (length cs) then Ok (take n (columns_from (strings names) 0 cs)) else Err stop) ≡ plan_of m n
plan_made m e walked names cs stop read at named are n = rw (named, sym read, sym at) (plan_known (table_columns_of walked e) cs stop n are)

-- the first columns are a prefix of all
pub taken_from : (names : List (Reading (List ℕ))) (n i : ℕ) (cs : List CodeColumn) → columns_from names i (take n cs) ≡ take n (columns_from names i cs)
taken_from names zero i cs = refl
taken_from names (suc n) i [] = refl
taken_from names (suc n) i (c ∷ cs) = ap (λ l. column_view (own_name names i) c ∷ l) (taken_from names n (i + 1) cs)
