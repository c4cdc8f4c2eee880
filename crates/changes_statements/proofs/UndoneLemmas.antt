-- Changes that are taken back.
use Rattle.std.proofs.Common.{◌≡◌, ℕ, zero, suc, ◌-◌, Bool, true, false, ◌&&◌, List, [], ◌∷◌, ◌++◌, Option, Some, None, refl, sym, ap, ◌∙◌, subst, arith}
use Rattle.std.specs.Prelude.{map, reverse, ◌==◌, bytes_eq, option_and_then, unwrap_or, if◌then◌else◌}
use Rattle.std.proofs.Math.Path.{fun_ext}
use Rattle.std.proofs.lemmas.Bool.{false≢true}
use Rattle.std.proofs.lemmas.List.{map-append, reverse-append, reverse-reverse}
use Rattle.std.proofs.lemmas.Slice.Eq.{bytes_eq-Decides}
use Rattle.changes_statements.specs.RowChanges.{RowChange, StoredRow, Rows, turned_round, undone, is_same, with_row, without_row, after_delete, after_change, after_changes}
use Rattle.changes_statements.specs.declared.row_change.RowChange.TheVariants.{Inserted, Deleted, Updated}

-- ---- the same row

same_itself : (r : StoredRow) → is_same r r ≡ true
same_itself r = rw ((bytes_eq-Decides r.table r.table).1 refl, (bytes_eq-Decides r.values r.values).1 refl) refl

both_true : (a b : Bool) → (a && b) ≡ true → (a ≡ true) × (b ≡ true)
both_true true b h = (refl, h)
both_true false b h = absurd (false≢true h)

rows_equal : (a b : StoredRow) → a.table ≡ b.table → a.values ≡ b.values → a ≡ b
rows_equal a b p q = λ i. record { table = p i; values = q i }

same_is : (a b : StoredRow) → is_same a b ≡ true → a ≡ b
same_is a b h =
    let both = both_true (bytes_eq a.table b.table) (bytes_eq a.values b.values) h in
    rows_equal a b ((bytes_eq-Decides a.table b.table).0 both.0) ((bytes_eq-Decides a.values b.values).0 both.1)

-- ---- a row more, and a row less

more_and_less : (s : Bool) (n : ℕ) → (if s then (if s then suc n else n) - 1 else (if s then suc n else n)) ≡ n
more_and_less true n = omega arith
more_and_less false n = refl

taken_away : (r : StoredRow) (rows : Rows) → without_row r (with_row r rows) ≡ rows
taken_away r rows = fun_ext (λ q. more_and_less (is_same r q) (rows q))

not_zero : (n : ℕ) → (n == 0) ≡ false → suc (n - 1) ≡ n
not_zero zero h = absurd (false≢true (sym h))
not_zero (suc n) h = omega arith

less_and_more : (r q : StoredRow) (rows : Rows) (s : Bool) → is_same r q ≡ s → (rows r == 0) ≡ false → (if s then suc (if s then rows q - 1 else rows q) else (if s then rows q - 1 else rows q)) ≡ rows q
less_and_more r q rows true same some = subst (λ (x : StoredRow). suc (rows x - 1) ≡ rows x) (same_is r q same) (not_zero (rows r) some)
less_and_more r q rows false same some = refl

put_back : (r : StoredRow) (rows : Rows) → (rows r == 0) ≡ false → with_row r (without_row r rows) ≡ rows
put_back r rows some = fun_ext (λ q. less_and_more r q rows (is_same r q) refl some)

is_there : (r : StoredRow) (rows : Rows) → (with_row r rows r == 0) ≡ false
is_there r rows = rw (same_itself r) (grind arith)

delete_added : (r : StoredRow) (rows : Rows) → after_delete r (with_row r rows) ≡ Some rows
delete_added r rows = rw (is_there r rows) (ap Some (taken_away r rows))

-- ---- one change

of_some : {A : Type 0} (x y : A) → Some x ≡ Some y → x ≡ y
of_some x y h = ap (λ o. unwrap_or o x) h

deleted_back : (r : StoredRow) (rows after : Rows) (z : Bool) → (rows r == 0) ≡ z → (if z then None else Some (without_row r rows)) ≡ Some after → with_row r after ≡ rows
deleted_back r rows after true is h = absurd (none_some h)
  where
    some : Option Rows → Bool
    some None = false
    some (Some x) = true

    none_some : None ≡ Some after → ⊥
    none_some e = false≢true (ap some e)
deleted_back r rows after false is h = subst (λ (x : Rows). with_row r x ≡ rows) (of_some (without_row r rows) after h) (put_back r rows is)

update_back : (x y : StoredRow) (rows after : Rows) (o : Option Rows) → after_delete x rows ≡ o → option_and_then (λ rest. Some (with_row y rest)) o ≡ Some after → option_and_then (λ rest. Some (with_row x rest)) (after_delete y after) ≡ Some rows
update_back x y rows after None is h = absurd (none_some h)
  where
    some : Option Rows → Bool
    some None = false
    some (Some x) = true

    none_some : None ≡ Some after → ⊥
    none_some e = false≢true (ap some e)
update_back x y rows after (Some rest) is h =
    subst (λ (a : Rows). option_and_then (λ rest. Some (with_row x rest)) (after_delete y a) ≡ Some rows) (of_some (with_row y rest) after h)
    (rw (delete_added y rest) (ap Some (deleted_back x rows rest (rows x == 0) refl is)))

pub one_back : (c : RowChange StoredRow) (before after : Rows) → after_change c before ≡ Some after → after_change (turned_round c) after ≡ Some before
one_back (Inserted r) before after h = subst (λ (a : Rows). after_delete r a ≡ Some before) (of_some (with_row r before) after h) (delete_added r before)
one_back (Deleted r) before after h = ap Some (deleted_back r before after (before r == 0) refl h)
one_back (Updated x y) before after h = update_back x y before after (after_delete x before) refl h

-- ---- all changes

after_both : (l m : List (RowChange StoredRow)) (rows : Rows) → after_changes (l ++ m) rows ≡ option_and_then (after_changes m) (after_changes l rows)
after_both [] m rows = refl
after_both (c ∷ l) m rows = go (after_both l m) (after_change c rows)
  where
    go : ((r : Rows) → after_changes (l ++ m) r ≡ option_and_then (after_changes m) (after_changes l r)) → (o : Option Rows) → option_and_then (after_changes (l ++ m)) o ≡ option_and_then (after_changes m) (option_and_then (after_changes l) o)
    go more None = refl
    go more (Some r) = more r

undone_cons : (c : RowChange StoredRow) (l : List (RowChange StoredRow)) → undone (c ∷ l) ≡ undone l ++ turned_round c ∷ []
undone_cons c l = ap (map turned_round) (reverse-append (c ∷ []) l) ∙ map-append turned_round (reverse l) (c ∷ [])

pub all_back : (l : List (RowChange StoredRow)) (before after : Rows) → after_changes l before ≡ Some after → after_changes (undone l) after ≡ Some before
all_back [] before after h = ap Some (sym (of_some before after h))
all_back (c ∷ l) before after h = go (all_back l) (after_change c before) refl h
  where
    some : Option Rows → Bool
    some None = false
    some (Some x) = true

    go : ((b a : Rows) → after_changes l b ≡ Some a → after_changes (undone l) a ≡ Some b) → (o : Option Rows) → after_change c before ≡ o → option_and_then (after_changes l) o ≡ Some after → after_changes (undone (c ∷ l)) after ≡ Some before
    go more None is e = absurd (false≢true (ap some e))
    go more (Some rows) is e =
        rw (undone_cons c l) (after_both (undone l) (turned_round c ∷ []) after
        ∙ ap (option_and_then (after_changes (turned_round c ∷ []))) (more rows after e)
        ∙ ap (option_and_then (after_changes [])) (one_back c before rows is))

-- ---- twice

pub turned_twice : (c : RowChange StoredRow) → turned_round (turned_round c) ≡ c
turned_twice (Inserted r) = refl
turned_twice (Deleted r) = refl
turned_twice (Updated x y) = refl

each_twice : (l : List (RowChange StoredRow)) → map turned_round (map turned_round l) ≡ l
each_twice [] = refl
each_twice (c ∷ l) = rw (turned_twice c, each_twice l) refl

map_reversed : (l : List (RowChange StoredRow)) → reverse (map turned_round l) ≡ map turned_round (reverse l)
map_reversed [] = refl
map_reversed (c ∷ l) =
    reverse-append (turned_round c ∷ []) (map turned_round l) ∙ ap (λ (m : List (RowChange StoredRow)). m ++ turned_round c ∷ []) (map_reversed l)
    ∙ sym (map-append turned_round (reverse l) (c ∷ [])) ∙ sym (ap (map turned_round) (reverse-append (c ∷ []) l))

pub undone_twice : (l : List (RowChange StoredRow)) → undone (undone l) ≡ l
undone_twice l = ap (map turned_round) (map_reversed (reverse l)) ∙ each_twice (reverse (reverse l)) ∙ reverse-reverse l
