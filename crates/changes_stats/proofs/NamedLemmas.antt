-- What tables by their names have after a change at one name.
use Rattle.std.proofs.Common.{◌≡◌, ℕ, List, [], ◌∷◌, ◌++◌, Bool, true, false, cond, Option, Some, sym, ap, subst, ◌∙◌, ⊎_elim, map, append_assoc}
use Rattle.std.specs.Prelude.{option_map}
use Rattle.std.specs.Global.{Vec}
use Rattle.std.specs.Ordering.{is_eq, nat_cmp}
use Rattle.std.specs.Cmp.{eq_by_cmp_equiv}
use Rattle.std.specs.Cmp.Lexicographic.{slice_cmp, bytes_decides, nat_list_cmp_total, nat_list_eq_equiv}
use Rattle.std.specs.Str.{bytes_eq}
use Rattle.std.specs.Map.{lookup, IsKeyTest, AreApart, KeepsOthers}
use Rattle.std.specs.BTreeMap.{BTreeMap, get_by, UpdatesBy}
use Rattle.std.proofs.lemmas.Bool.{cases_Bool, cond-true, cond-false}
use Rattle.std.proofs.lemmas.List.{map-append}
use Rattle.std.proofs.lemmas.Map.Text.{is_eq-slice_cmp}
use Rattle.changes_stats.specs.TableSums.{AreSums, NamedCounts, named_counts, sums_in, total_at}
use Rattle.changes_stats.specs.declared.counts.RowCounts.{RowCounts}
use Rattle.changes_stats.specs.declared.tables.TableTotals.{TableTotals}
use Rattle.changes_stats.proofs.SumLemmas.{with_sums, sums_of-same, sums_of-other}

pub apart : (bs cs ks : List ℕ) → bytes_eq bs cs ≡ false → bytes_eq bs ks ≡ true → bytes_eq cs ks ≡ false
apart bs cs ks n y = nat_list_eq_equiv.symm cs ks ∙ sym (nat_list_eq_equiv.congr bs ks cs y) ∙ n

apart_in_order : (bs cs ks : List ℕ) → bytes_eq bs cs ≡ false → is_eq (slice_cmp nat_cmp bs ks) ≡ true → is_eq (slice_cmp nat_cmp cs ks) ≡ false
apart_in_order bs cs ks n y = is_eq-slice_cmp cs ks ∙ apart bs cs ks n (sym (is_eq-slice_cmp bs ks) ∙ y)

others : {K X : Type 0} (eq : K → K → Bool) (test : K → Bool) (old new : List (K × X)) → KeepsOthers eq test old new → (other : K → Bool) → IsKeyTest eq other → AreApart test other → lookup other new ≡ lookup other old
unfolding KeepsOthers
others eq test old new h = h

-- at the name it has the new value, and at others the old one
pub updated : {X : Type 0} (name : List ℕ) (m n : BTreeMap (Vec ℕ) X) (w : Option X) → UpdatesBy (λ x y. slice_cmp nat_cmp x.items y.items) (λ k. slice_cmp nat_cmp name k.items) m n w
    → (cs : List ℕ) → get_by (λ k. slice_cmp nat_cmp cs k.items) n ≡ cond (bytes_eq name cs) w (get_by (λ k. slice_cmp nat_cmp cs k.items) m)
updated name m n w h cs =
    ⊎_elim
    (λ y. subst (λ l. get_by (λ k. slice_cmp nat_cmp l k.items) n ≡ w) ((bytes_decides name cs).0 y) h.1 ∙ sym (cond-true (bytes_eq name cs) w _ y))
    (λ e. others _ _ _ _ h.3 _ (λ x y. (eq_by_cmp_equiv nat_list_cmp_total).congr cs x.items y.items) (λ k. apart_in_order name cs k.items e) ∙ sym (cond-false (bytes_eq name cs) w _ e))
    (cases_Bool (bytes_eq name cs))

-- the rows of one more table, which was changed at this key
pub sums_with : (old m n : BTreeMap (Vec ℕ) TableTotals) (key name : List ℕ) (c : RowCounts) (w : TableTotals) (l : List NamedCounts) → m ≡ old → key ≡ name
    → UpdatesBy (λ x y. slice_cmp nat_cmp x.items y.items) (λ k. slice_cmp nat_cmp key k.items) m n (Some w)
    → sums_in w ≡ with_sums (option_map sums_in (total_at old name)) c
    → AreSums old l → AreSums n (l ++ record { name = name; counts = c } ∷ [])
sums_with old m n key name c w l unchanged named h e are cs =
    let is : total_at n cs ≡ cond (bytes_eq name cs) (Some w) (total_at old cs) = (rw (named, unchanged) at (updated key m n (Some w) h cs)) in
    ⊎_elim
    (λ y. let same : bytes_eq cs name ≡ true = nat_list_eq_equiv.symm cs name ∙ y in
    let equal : cs ≡ name = (bytes_decides cs name).0 same in
    rw (is, y, sums_of-same cs l (record { name = name; counts = c }) same, sym (are cs), equal) (ap Some e))
    (λ n. let other : bytes_eq cs name ≡ false = nat_list_eq_equiv.symm cs name ∙ n in
    rw (is, n, sums_of-other cs l (record { name = name; counts = c }) other) (are cs))
    (cases_Bool (bytes_eq name cs))

-- the tables of a transaction, one more of them
pub sums_more : (totals : BTreeMap (Vec ℕ) TableTotals) (l : List NamedCounts) (done : List (Vec ℕ × RowCounts)) (e : Vec ℕ × RowCounts) → AreSums totals ((l ++ map named_counts done) ++ named_counts e ∷ []) → AreSums totals (l ++ map named_counts (done ++ e ∷ []))
sums_more totals l done e are = subst (AreSums totals) (append_assoc l (map named_counts done) (named_counts e ∷ []) ∙ ap (λ r. l ++ r) (sym (map-append named_counts done (e ∷ [])))) are
