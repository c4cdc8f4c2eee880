-- The rows of tables in a transaction, with some more of one table.
use Rattle.std.proofs.Common.{◌≡◌, ℕ, List, [], ◌∷◌, ◌++◌, Bool, true, false, Some, None, map, refl, ap, sym, subst, ◌∙◌, ⊎_elim}
use Rattle.std.specs.Global.{Vec}
use Rattle.std.specs.Ordering.{is_eq, nat_cmp}
use Rattle.std.specs.declared.cmp.Ordering.{Ordering}
use Rattle.std.specs.declared.cmp.Ordering.TheVariants.{Less, Equal, Greater}
use Rattle.std.specs.Cmp.Lexicographic.{slice_cmp, bytes_decides, nat_list_eq_equiv}
use Rattle.std.specs.Map.{lookup, set_value}
use Rattle.std.specs.BTreeMap.{BTreeMap, insert_entry}
use Rattle.std.specs.Str.{bytes_eq}
use Rattle.std.proofs.lemmas.Bool.{cases_Bool}
use Rattle.std.proofs.lemmas.Map.Text.{is_eq-slice_cmp}
use Rattle.changes_stats.specs.RowSums.{plus, sum_of_counts}
use Rattle.changes_stats.specs.TableSums.{AddsRows, NamedCounts, named_counts, of_table, summed, tables_in}
use Rattle.changes_stats.specs.declared.counts.RowCounts.{RowCounts}
use Rattle.changes_stats.proofs.NamedLemmas.{apart}
use Rattle.changes_stats.proofs.SumLemmas.{of_table-same, of_table-other, sum_of_counts-none, sum_of_counts-push}

-- an entry's key is a name
abbrev is_at : List ℕ → Vec ℕ → Bool
is_at name k = is_eq (slice_cmp nat_cmp name k.items)

-- the order of keys
abbrev key_cmp : Vec ℕ → Vec ℕ → Ordering
key_cmp x y = slice_cmp nat_cmp x.items y.items

-- the rows of a table among entries
abbrev of_entries : List ℕ → List (Vec ℕ × RowCounts) → List RowCounts
of_entries name es = of_table name (map named_counts es)

entry-same : (name : List ℕ) (e : Vec ℕ × RowCounts) (es : List (Vec ℕ × RowCounts)) → bytes_eq name e.0.items ≡ true → of_entries name (e ∷ es) ≡ e.1 ∷ of_entries name es
entry-same name e es y = rw y refl

entry-other : (name : List ℕ) (e : Vec ℕ × RowCounts) (es : List (Vec ℕ × RowCounts)) → bytes_eq name e.0.items ≡ false → of_entries name (e ∷ es) ≡ of_entries name es
entry-other name e es n = rw n refl

-- a name that isn't a key has no rows
none_at : (name : List ℕ) (es : List (Vec ℕ × RowCounts)) → lookup (is_at name) es ≡ None → of_entries name es ≡ []
none_at name [] e = refl
none_at name (x ∷ es) e = by (bytes_eq name x.0.items) refl (none_at name es)
  where
    by : (b : Bool) → bytes_eq name x.0.items ≡ b → (lookup (is_at name) es ≡ None → of_entries name es ≡ []) → of_entries name (x ∷ es) ≡ []
    by true y rest = let bad : Some x.1 ≡ None = (rw (is_eq-slice_cmp name x.0.items, y) at e) in absurd (cc)
    by false n rest = entry-other name x es n ∙ rest (rw (is_eq-slice_cmp name x.0.items, n) at e)

-- more rows at a key that has the sum of some
changed_same : (name : List ℕ) (es : List (Vec ℕ × RowCounts)) (v w : RowCounts) (r : List RowCounts) → lookup (is_at name) es ≡ Some v → of_entries name es ≡ summed r → (v ≡ sum_of_counts r) × (of_entries name (set_value (is_at name) es w) ≡ w ∷ [])
changed_same name [] v w r e sums = absurd (cc)
changed_same name (x ∷ es) v w r e sums = by (bytes_eq name x.0.items) refl (changed_same name es v w r)
  where
    alone : (r : List RowCounts) → x.1 ∷ of_entries name es ≡ summed r → (x.1 ≡ sum_of_counts r) × (of_entries name es ≡ [])
    alone [] e = absurd (cc)
    alone (c ∷ r) e = (cc, cc)

    by : (b : Bool) → bytes_eq name x.0.items ≡ b → (lookup (is_at name) es ≡ Some v → of_entries name es ≡ summed r → (v ≡ sum_of_counts r) × (of_entries name (set_value (is_at name) es w) ≡ w ∷ [])) → (v ≡ sum_of_counts r) × (of_entries name (set_value (is_at name) (x ∷ es) w) ≡ w ∷ [])
    by true y rest =
        let here : Some x.1 ≡ Some v = (rw (is_eq-slice_cmp name x.0.items, y) at e) in
        let one = alone r (sym (entry-same name x es y) ∙ sums) in
        (cc, rw (is_eq-slice_cmp name x.0.items, y) (entry-same name (x.0, w) es y ∙ ap (λ l. w ∷ l) one.1))
    by false n rest =
        let later : lookup (is_at name) es ≡ Some v = (rw (is_eq-slice_cmp name x.0.items, n) at e) in
        let all = rest later (sym (entry-other name x es n) ∙ sums) in
        (all.0, rw (is_eq-slice_cmp name x.0.items, n) (entry-other name x (set_value (is_at name) es w) n ∙ all.1))

changed_other : (name q : List ℕ) (es : List (Vec ℕ × RowCounts)) (w : RowCounts) → bytes_eq name q ≡ false → of_entries q (set_value (is_at name) es w) ≡ of_entries q es
changed_other name q [] w other = refl
changed_other name q (x ∷ es) w other = by (bytes_eq name x.0.items) refl (bytes_eq q x.0.items) refl (changed_other name q es w other)
  where
    by : (b : Bool) → bytes_eq name x.0.items ≡ b → (d : Bool) → bytes_eq q x.0.items ≡ d → of_entries q (set_value (is_at name) es w) ≡ of_entries q es → of_entries q (set_value (is_at name) (x ∷ es) w) ≡ of_entries q (x ∷ es)
    by true y d h rest = let n = apart name q x.0.items other y in rw (is_eq-slice_cmp name x.0.items, y) (entry-other q (x.0, w) es n ∙ sym (entry-other q x es n))
    by false n true y rest = rw (is_eq-slice_cmp name x.0.items, n) (entry-same q x (set_value (is_at name) es w) y ∙ (ap (λ l. x.1 ∷ l) rest ∙ sym (entry-same q x es y)))
    by false n false m rest = rw (is_eq-slice_cmp name x.0.items, n) (entry-other q x (set_value (is_at name) es w) m ∙ (rest ∙ sym (entry-other q x es m)))

-- rows at a key that is new
inserted_same : (k : Vec ℕ) (v : RowCounts) (es : List (Vec ℕ × RowCounts)) → lookup (is_at k.items) es ≡ None → of_entries k.items (insert_entry key_cmp es k v) ≡ v ∷ []
inserted_same k v [] e = entry-same k.items (k, v) [] (nat_list_eq_equiv.refl k.items)
inserted_same k v (x ∷ es) e = by (key_cmp k x.0) refl (inserted_same k v es)
  where
    by : (o : Ordering) → key_cmp k x.0 ≡ o → (lookup (is_at k.items) es ≡ None → of_entries k.items (insert_entry key_cmp es k v) ≡ v ∷ []) → of_entries k.items (insert_entry key_cmp (x ∷ es) k v) ≡ v ∷ []
    by Less o rest = rw o (entry-same k.items (k, v) (x ∷ es) (nat_list_eq_equiv.refl k.items) ∙ ap (λ l. v ∷ l) (none_at k.items (x ∷ es) e))
    by Equal o rest = let bad : Some x.1 ≡ None = (rw o at e) in absurd (cc)
    by Greater o rest =
        let n : bytes_eq k.items x.0.items ≡ false = sym (is_eq-slice_cmp k.items x.0.items) ∙ ap is_eq o in
        rw o (entry-other k.items x (insert_entry key_cmp es k v) n ∙ rest (rw o at e))

inserted_other : (q : List ℕ) (k : Vec ℕ) (v : RowCounts) (es : List (Vec ℕ × RowCounts)) → bytes_eq q k.items ≡ false → lookup (is_at k.items) es ≡ None → of_entries q (insert_entry key_cmp es k v) ≡ of_entries q es
inserted_other q k v [] other e = entry-other q (k, v) [] other
inserted_other q k v (x ∷ es) other e = by (key_cmp k x.0) refl (bytes_eq q x.0.items) refl (inserted_other q k v es other)
  where
    by : (o : Ordering) → key_cmp k x.0 ≡ o → (b : Bool) → bytes_eq q x.0.items ≡ b → (lookup (is_at k.items) es ≡ None → of_entries q (insert_entry key_cmp es k v) ≡ of_entries q es) → of_entries q (insert_entry key_cmp (x ∷ es) k v) ≡ of_entries q (x ∷ es)
    by Less o b h rest = rw o (entry-other q (k, v) (x ∷ es) other)
    by Equal o b h rest = let bad : Some x.1 ≡ None = (rw o at e) in absurd (cc)
    by Greater o true y rest = rw o (entry-same q x (insert_entry key_cmp es k v) y ∙ (ap (λ l. x.1 ∷ l) (rest (rw o at e)) ∙ sym (entry-same q x es y)))
    by Greater o false n rest = rw o (entry-other q x (insert_entry key_cmp es k v) n ∙ (rest (rw o at e) ∙ sym (entry-other q x es n)))

summed-push : (l : List RowCounts) (c : RowCounts) → summed (l ++ c ∷ []) ≡ plus (sum_of_counts l) c ∷ []
summed-push [] c = ap (λ r. r ∷ []) (sum_of_counts-push [] c)
summed-push (x ∷ l) c = ap (λ r. r ∷ []) (sum_of_counts-push (x ∷ l) c)

summed-none : (l : List RowCounts) → [] ≡ summed l → l ≡ []
summed-none [] e = refl
summed-none (c ∷ l) e = absurd (cc)

-- more rows of a table that has some
pub changed_rows : (old new : BTreeMap (Vec ℕ) RowCounts) (name : List ℕ) (v w c : RowCounts) → lookup (is_at name) old.entries ≡ Some v → w ≡ plus v c → new.entries ≡ set_value (is_at name) old.entries w → AddsRows (tables_in old) (tables_in new) (record { name = name; counts = c })
changed_rows old new name v w c at more is l are q =
    let t : NamedCounts = record { name = name; counts = c } in
    let entries : of_table q (tables_in new) ≡ of_entries q (set_value (is_at name) old.entries w) = ap (of_entries q) is in
    ⊎_elim
    (λ y. let equal : name ≡ q = (bytes_decides name q).0 y in
    let same : bytes_eq q name ≡ true = nat_list_eq_equiv.symm q name ∙ y in
    let changed = changed_same name old.entries v w (of_table name l) at (are name) in
    let whole : of_entries name (set_value (is_at name) old.entries w) ≡ summed (of_table name l ++ c ∷ []) = changed.1 ∙ (ap (λ x. x ∷ []) (more ∙ ap (λ x. plus x c) changed.0) ∙ sym (summed-push (of_table name l) c)) in
    entries ∙ (subst (λ x. of_entries x (set_value (is_at name) old.entries w) ≡ summed (of_table x l ++ c ∷ [])) equal whole ∙ ap summed (sym (of_table-same q l t same))))
    (λ n. let other : bytes_eq q name ≡ false = nat_list_eq_equiv.symm q name ∙ n in
    entries ∙ (changed_other name q old.entries w n ∙ (are q ∙ ap summed (sym (of_table-other q l t other)))))
    (cases_Bool (bytes_eq name q))

-- rows of a table that has none
pub new_rows : (old m new : BTreeMap (Vec ℕ) RowCounts) (k : Vec ℕ) (name : List ℕ) (w c : RowCounts) → m ≡ old → k.items ≡ name → lookup (is_at name) old.entries ≡ None → w ≡ plus (record { inserted = 0; deleted = 0; updated = 0; bytes = 0 }) c → new.entries ≡ insert_entry key_cmp m.entries k w
    → AddsRows (tables_in old) (tables_in new) (record { name = name; counts = c })
new_rows old m new k name w c unchanged named at more is l are q =
    let t : NamedCounts = record { name = name; counts = c } in
    let none : lookup (is_at k.items) old.entries ≡ None = rw named at in
    let entries : of_table q (tables_in new) ≡ of_entries q (insert_entry key_cmp old.entries k w) = ap (of_entries q) (is ∙ ap (λ (m : BTreeMap (Vec ℕ) RowCounts). insert_entry key_cmp m.entries k w) unchanged) in
    ⊎_elim
    (λ y. let equal : q ≡ k.items = (bytes_decides q k.items).0 y in
    let same : bytes_eq q name ≡ true = (rw named at y) in
    let before : of_table q l ≡ [] = summed-none (of_table q l) (sym (rw equal (none_at k.items old.entries none)) ∙ are q) in
    let sum : summed (c ∷ []) ≡ plus (record { inserted = 0; deleted = 0; updated = 0; bytes = 0 }) c ∷ [] = rw sum_of_counts-none at (summed-push [] c) in
    let after : summed (of_table q (l ++ t ∷ [])) ≡ w ∷ [] = ap summed (of_table-same q l t same ∙ ap (λ r. r ++ c ∷ []) before) ∙ (sum ∙ ap (λ x. x ∷ []) (sym more)) in
    entries ∙ (rw equal (inserted_same k w old.entries none) ∙ sym after))
    (λ n. let other : bytes_eq q name ≡ false = (rw named at n) in
    entries ∙ (inserted_other q k w old.entries n none ∙ (are q ∙ ap summed (sym (of_table-other q l t other)))))
    (cases_Bool (bytes_eq q k.items))
