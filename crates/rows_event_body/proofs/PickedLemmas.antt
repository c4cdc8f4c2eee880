-- The definitions of the columns of an image, in order.
use Rattle.std.proofs.Common.{◌≡◌, ◌<◌, ◌≤◌, length, get_or, ℕ, zero, suc, ◌+◌, Bool, true, false, cond, List, [], ◌∷◌, ◌++◌, map, drop, Option, Some, None, refl, sym, ap, ◌∙◌, arith, append_assoc}
use Rattle.std.specs.Prelude.{slice_get}
use Rattle.std.specs.Option.{option_map}
use Rattle.std.proofs.Math.Seq.{drop-cons}
use Rattle.std.proofs.lemmas.List.{append-nil, map-append, drop_all}
use Rattle.std.specs.Iterator.{YieldsFirstBy}
use Rattle.std.specs.declared.result.Result.{Result}
use Rattle.rows_errors.specs.declared.fault.RowsError.{RowsError}
use Rattle.rows_errors.specs.Readings.{Reading, map_reading}
use Rattle.rows_table_map.specs.MetadataViews.{name_view, remaining_names}
use Rattle.rows_table_map.specs.declared.names.ColumnName.{ColumnName}
use Rattle.rows_table_map.specs.declared.names.IterNames.{IterNames}
use Rattle.rows_event_body.specs.declared.column.PlannedColumn.{PlannedColumn as CodeColumn}
use Rattle.rows_event_body.specs.Plans.{PlannedColumn, name_or_index}
use Rattle.rows_event_body.specs.PlanViews.{column_view, own_name, columns_from, name_or_empty}
use Rattle.rows_event_body.specs.PickedColumns.{is_picked, picked}
use Rattle.rows_event_body.proofs.WalkLemmas.{at_prefix, after_prefix, none_left}

one_further : {A : Type 0} (xs : List A) (i : ℕ) → drop (suc i) xs ≡ drop (i + 1) xs
one_further xs i = let e : suc i ≡ i + 1 = omega arith in ap (λ (k : ℕ). drop k xs) e

none_after : {A : Type 0} (xs : List A) (i : ℕ) → drop i xs ≡ [] → drop (suc i) xs ≡ []
none_after [] i h = refl
none_after (y ∷ xs) zero h = absurd cc
none_after (y ∷ xs) (suc i) h = none_after xs i h

-- the name that was returned is the one at the index
pub next_named : (all : List (Reading (List ℕ))) (i : ℕ) (old new : IterNames) (r : Option (Result ColumnName RowsError)) → remaining_names old ≡ drop i all → YieldsFirstBy (map_reading name_view) remaining_names old r new
    → (option_map (map_reading name_view) r ≡ slice_get all i) × (remaining_names new ≡ drop (i + 1) all)
next_named all i old new None h y = (sym (none_left all i (sym h ∙ y.0)), y.1 ∙ sym (none_after all i (sym h ∙ y.0)) ∙ one_further all i)
next_named all i old new (Some x) h y =
    (sym (at_prefix all i (map_reading name_view x) (remaining_names new) (sym h ∙ y)), after_prefix all i (map_reading name_view x) (remaining_names new) (sym h ∙ y) ∙ one_further all i)

picked_both : (bit : ℕ → Option Bool) (c : PlannedColumn) (cs : List PlannedColumn) → picked bit (c ∷ cs) ≡ picked bit (c ∷ []) ++ picked bit cs
picked_both bit c cs = by_test (is_picked bit c)
  where
    by_test : (b : Bool) → cond b (c ∷ picked bit cs) (picked bit cs) ≡ cond b (c ∷ []) [] ++ picked bit cs
    by_test true = refl
    by_test false = refl

-- one more column is defined
pub one_defined : {A : Type 0} (f : PlannedColumn → A) (bit : ℕ → Option Bool) (done more all : List A) (c : PlannedColumn) (cs : List PlannedColumn)
    → done ++ map f (picked bit (c ∷ cs)) ≡ all → more ≡ done ++ map f (picked bit (c ∷ [])) → more ++ map f (picked bit cs) ≡ all
one_defined f bit done more all c cs h e =
    ap (λ l. l ++ map f (picked bit cs)) e ∙ append_assoc done (map f (picked bit (c ∷ []))) (map f (picked bit cs))
    ∙ ap (λ l. done ++ l) (sym (map-append f (picked bit (c ∷ [])) (picked bit cs)) ∙ ap (map f) (sym (picked_both bit c cs))) ∙ h

-- the same, for the column at an index
pub next_defined : {A : Type 0} (f : PlannedColumn → A) (bit : ℕ → Option Bool) (names : List (Reading (List ℕ))) (cs : List CodeColumn) (i : ℕ) (d : CodeColumn) (name : Option (Reading (List ℕ))) (done more all : List A)
    → i < length cs → name ≡ slice_get names i → done ++ map f (picked bit (columns_from names i (drop i cs))) ≡ all
    → more ≡ done ++ map f (picked bit (column_view (name_or_empty (name_or_index i name)) (get_or cs i d) ∷ []))
    → more ++ map f (picked bit (columns_from names (i + 1) (drop (i + 1) cs))) ≡ all
next_defined f bit names cs i d name done more all lt named h e =
    let c = column_view (own_name names i) (get_or cs i d) in
    let after = columns_from names (i + 1) (drop (i + 1) cs) in
    let seen : columns_from names i (drop i cs) ≡ c ∷ after
    = ap (columns_from names i) (drop-cons cs i d lt ∙ ap (λ l. get_or cs i d ∷ l) (one_further cs i)) in
    one_defined f bit done more all c after (ap (λ l. done ++ map f (picked bit l)) (sym seen) ∙ h)
    (e ∙ ap (λ (o : Option (Reading (List ℕ))). done ++ map f (picked bit (column_view (name_or_empty (name_or_index i o)) (get_or cs i d) ∷ []))) named)

-- all columns were seen
pub all_defined : {A : Type 0} (f : PlannedColumn → A) (bit : ℕ → Option Bool) (names : List (Reading (List ℕ))) (cs : List CodeColumn) (i : ℕ) (done all : List A)
    → length cs ≤ i → done ++ map f (picked bit (columns_from names i (drop i cs))) ≡ all → all ≡ done
all_defined f bit names cs i done all past h =
    sym h ∙ ap (λ (l : List CodeColumn). done ++ map f (picked bit (columns_from names i l))) (drop_all i cs past) ∙ append-nil done
