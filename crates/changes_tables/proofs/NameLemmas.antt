-- Names that are read one after the other.
use Rattle.std.proofs.Common.{◌≡◌, ℕ, suc, ◌+◌, ◌<◌, get_or, add-one, drop-cons, Bool, true, false, ◌&&◌, cond, List, [], ◌∷◌, ◌++◌, map, drop, length, Some, None, Ok, Err, refl, ap, sym, ◌∙◌}
use Rattle.std.specs.Global.{Vec}
use Rattle.std.specs.Prelude.{if◌then◌else◌, not, ◌||◌}
use Rattle.std.specs.Ordering.{nat_cmp, is_eq}
use Rattle.std.specs.Cmp.Lexicographic.{slice_cmp}
use Rattle.std.specs.BTreeMap.{is_at}
use Rattle.std.proofs.lemmas.Map.Text.{is_eq-slice_cmp}
use Rattle.std.specs.Borrow.{Bor}
use Rattle.std.specs.List.{list_all, list_any}
use Rattle.std.specs.Str.{bytes_eq, is_utf8}
use Rattle.std.proofs.lemmas.List.{map-append}
use Rattle.rows_errors.specs.Readings.{Reading}
use Rattle.changes_tables.specs.UsedMetadata.{readable}
use Rattle.changes_tables.specs.NamesOfColumns.{are_new, is_name, name_in}

-- the bytes of names and of one more
pub pushed : (vs : List (Vec ℕ)) (v : Vec ℕ) (ws : List (Vec ℕ)) → ws ≡ vs ++ v ∷ [] → map (λ (n : Vec ℕ). n.items) ws ≡ map (λ (n : Vec ℕ). n.items) vs ++ v.items ∷ []
pushed vs v ws e = ap (map (λ (n : Vec ℕ). n.items)) e ∙ map-append (λ (n : Vec ℕ). n.items) vs (v ∷ [])

-- an entry that is a name, and the entries after it
utf8-by : (n : List ℕ) (rs : List (Reading (List ℕ))) (t : Bool) (m : List ℕ) → (if t then Some n else None) ≡ Some m → ((t && list_all is_name rs) ≡ list_all is_name rs) × (n ≡ m)
utf8-by n rs true m e = (refl, cc)
utf8-by n rs false m e = absurd cc

pub named : (r : Reading (List ℕ)) (rs : List (Reading (List ℕ))) (n : List ℕ) → name_in r ≡ Some n → (list_all is_name (r ∷ rs) ≡ list_all is_name rs) × (readable (r ∷ rs) ≡ n ∷ readable rs)
named (Ok m) rs n e = let p = utf8-by m rs (is_utf8 m) n e in (p.0, ap (λ (x : List ℕ). x ∷ readable rs) p.1)
named (Err f) rs n e = absurd cc

refused-by : (n : List ℕ) (rs : List (Reading (List ℕ))) (t : Bool) → (if t then Some n else None) ≡ None → (t && list_all is_name rs) ≡ false
refused-by n rs true e = absurd cc
refused-by n rs false e = refl

-- an entry that is no name
pub nameless : (r : Reading (List ℕ)) (rs : List (Reading (List ℕ))) → name_in r ≡ None → list_all is_name (r ∷ rs) ≡ false
nameless (Ok m) rs e = refused-by m rs (is_utf8 m) e
nameless (Err f) rs e = refl

-- the names so far have been found in a set, and these names are left
pub record Checked (has : Bor (List ℕ) → Bool) (names left : List (List ℕ)) : Type 0 where
  pub earlier : List (List ℕ)
  pub same : are_new earlier left ≡ are_new [] names
  pub known : (q : Bor (List ℕ)) → has q ≡ list_any (λ e. bytes_eq e q.now) earlier

new-one : (t more : Bool) → not t ≡ true → (not t && more) ≡ more
new-one t more e = rw e refl

either-one : (t u : Bool) → cond t true u ≡ (t || u)
either-one true u = refl
either-one false u = refl

-- a name that the set doesn't have is found
pub checked_more : (has now_has : Bor (List ℕ) → Bool) (names left rest : List (List ℕ)) (n : Bor (List ℕ)) (added : Bool) → Checked has names left → left ≡ n.now ∷ rest → added ≡ not (has n) → added ≡ true
    → ((q : Bor (List ℕ)) → now_has q ≡ cond (is_at (λ (y : Bor (List ℕ)). slice_cmp nat_cmp n.now y.now) q) true (has q)) → Checked now_has names rest
checked_more has now_has names left rest n added c is_left is_added is_new update =
    let absent : not (list_any (λ (e : List ℕ). bytes_eq e n.now) c.earlier) ≡ true = ap not (sym (c.known n)) ∙ sym is_added ∙ is_new in
    record {
      earlier = n.now ∷ c.earlier;
      same = sym (new-one (list_any (λ (e : List ℕ). bytes_eq e n.now) c.earlier) (are_new (n.now ∷ c.earlier) rest) absent) ∙ ap (are_new c.earlier) (sym is_left) ∙ c.same;
      known = λ q. update q ∙ either-one (is_eq (slice_cmp nat_cmp n.now q.now)) (has q) ∙ ap (λ (t : Bool). t || has q) (is_eq-slice_cmp n.now q.now) ∙ ap (λ (t : Bool). bytes_eq n.now q.now || t) (c.known q);
    }

-- the items from one index on
pub items_from : (vs : List (Vec ℕ)) (i : ℕ) (v : Vec ℕ) → i < length vs → v ≡ get_or vs i v → map (λ (n : Vec ℕ). n.items) (drop i vs) ≡ v.items ∷ map (λ (n : Vec ℕ). n.items) (drop (i + 1) vs)
items_from vs i v h e = rw (add-one, drop-cons vs i v h) (ap (λ (w : Vec ℕ). w.items ∷ map (λ (n : Vec ℕ). n.items) (drop (suc i) vs)) (sym e))

not-new : (t more added : Bool) → added ≡ not t → added ≡ false → (not t && more) ≡ false
not-new t more added e f = rw (sym e ∙ f) refl

-- a name that the set has is found again
pub checked_twice : (has : Bor (List ℕ) → Bool) (names left rest : List (List ℕ)) (n : Bor (List ℕ)) (added : Bool) → Checked has names left → left ≡ n.now ∷ rest → added ≡ not (has n) → added ≡ false → false ≡ are_new [] names
checked_twice has names left rest n added c is_left is_added is_old =
    sym (not-new (list_any (λ (e : List ℕ). bytes_eq e n.now) c.earlier) (are_new (n.now ∷ c.earlier) rest) added (is_added ∙ ap not (c.known n)) is_old) ∙ ap (are_new c.earlier) (sym is_left) ∙ c.same
