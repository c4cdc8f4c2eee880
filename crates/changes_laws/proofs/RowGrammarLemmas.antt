-- The JSON of a row is JSON of RFC 8259, and its objects have a member for each of some columns.
use Rattle.std.proofs.Common.{◌≡◌, ℕ, zero, suc, ◌+◌, ◌<◌, ◌≤◌, List, [], ◌∷◌, ◌++◌, map, length, refl, sym, ap, ◌∙◌, subst, append_assoc, arith}
use Rattle.std.specs.Prelude.{◌≢◌, codes, slice_index_or}
use Rattle.std.proofs.lemmas.List.{append-nil}
use Rattle.rows_cells.specs.Images.{ColumnValue, ImageShape}
use Rattle.rows_cells.specs.declared.image.ImageColumn.{ImageColumn}
use Rattle.changes_tables.specs.ShownColumns.{ColumnView}
use Rattle.changes_writers.specs.JsonStrings.{json_string}
use Rattle.changes_lines.specs.RowJson.{CellJson, column_at, AreCellsJson, member_json, more_members, object_json, IsBefore, IsUpdate, none, unset, added, same, changed, IsRowJson}
use Rattle.changes_laws.specs.JsonGrammar.{Members, no_members, member}
use Rattle.changes_laws.specs.JsonNames.{names_of, IsOther, AreDistinct}
use Rattle.changes_laws.proofs.WrittenJson as written
use Rattle.changes_laws.proofs.WrittenJson.{IsJson, AllJson, HasMembers, HasMoreMembers, first_member, next_members, no_more_members, empty_object}
use Rattle.changes_laws.proofs.CellGrammarLemmas.{cell_json}
use Rattle.changes_laws.proofs.SoundCellLemmas.{AreSoundCells, AreSoundImages}
use Rattle.changes_laws.proofs.TableGrammarLemmas.{IsNamed, AreNamed}
use Rattle.changes_laws.proofs.PlannedColumnLemmas.{AreRising, AreRisingShapes}
use Rattle.changes_laws.proofs.NamedMembers.{HasNamed, none_named, next_named, last_named}

-- ---- cells of a table's columns
abbrev pub name_at : List (List ℕ) → ℕ → List ℕ
name_at names i = slice_index_or names i []

pub named_at : (P : Type 0) (names : List (List ℕ)) (table : List ColumnView) (i : ℕ) → AreNamed P names table → i < length names → IsNamed P (name_at names i) (column_at table i)
named_at P [] [] i a lt = absurd (omega (arith, lt))
named_at P [] (c ∷ cs) i a lt = absurd a
named_at P (n ∷ ns) [] i a lt = absurd a
named_at P (n ∷ ns) (c ∷ cs) zero a lt = a.0
named_at P (n ∷ ns) (c ∷ cs) (suc i) a lt = named_at P ns cs i a.1 (omega (arith, lt))

-- a cell of one of n columns
abbrev pub IsCellOf : Type 0 → ℕ → CellJson → Type 0
IsCellOf P n x = (x.column < n) × IsJson P x.json

-- cells of columns from one on, in ascending order
abbrev pub AreCellsOf : Type 0 → ℕ → ℕ → List CellJson → Type 0
AreCellsOf P least n [] = Unit {0}
AreCellsOf P least n (x ∷ xs) = (least ≤ x.column) × IsCellOf P n x × AreCellsOf P (x.column + 1) n xs

cells_of : (P : Type 0) (names : List (List ℕ)) (table : List ColumnView) (least : ℕ) (columns : List ImageColumn) (values : List ColumnValue) (cells : List CellJson) → AreNamed P names table → AreRising least (length names) columns
    → AreSoundCells columns values → AreCellsJson table columns values cells → AreCellsOf P least (length names) cells
unfolding AreCellsJson
cells_of P names table least [] [] [] t r s a = tt
cells_of P names table least [] [] (x ∷ xs) t r s a = absurd a
cells_of P names table least [] (v ∷ vs) cells t r s a = absurd s
cells_of P names table least (c ∷ cs) [] cells t r s a = absurd s
cells_of P names table least (c ∷ cs) (v ∷ vs) [] t r s a = absurd a
cells_of P names table least (c ∷ cs) (v ∷ vs) (x ∷ xs) t r s a =
    let here : x.column ≡ c.column = a.0 ∙ (s.0).0 in
    let at : v.column ≡ c.column = (s.0).0 in
    let members : AllJson P (column_at table v.column).members = (named_at P names table v.column t (omega (arith, at, r.1))).2 in (
      omega (arith, here, r.0),
      (omega (arith, here, r.1), cell_json P (column_at table v.column) c.format v.value x.json members (s.0).1 a.1),
      cells_of P names table (x.column + 1) cs vs xs t (subst (λ (k : ℕ). AreRising (k + 1) (length names) cs) (sym here) r.2) s.1 a.2,
    )

-- ---- an update
lower : (P : Type 0) (least more n : ℕ) (cells : List CellJson) → least ≤ more → AreCellsOf P more n cells → AreCellsOf P least n cells
lower P least more n [] le a = tt
lower P least more n (x ∷ xs) le a = (omega (arith, le, a.0), a.1, a.2)

raised : (P : Type 0) (least k n : ℕ) (cells : List CellJson) → IsBefore k cells → AreCellsOf P least n cells → AreCellsOf P (k + 1) n cells
raised P least k n [] b a = tt
raised P least k n (x ∷ xs) b a = (omega (arith, b), a.1, a.2)

update_cells : (P : Type 0) (least n : ℕ) (before after newest old : List CellJson) → IsUpdate before after newest old → AreCellsOf P least n before → AreCellsOf P least n after → AreCellsOf P least n newest × AreCellsOf P least n old
update_cells P least n before after newest old none b a = (tt, tt)
update_cells P least n before after newest old (unset {x = x} {before = bs} {after = fs} {newest = ns} {old = os} first u) b a =
    let more = update_cells P (x.column + 1) n bs fs ns os u b.2 (raised P least x.column n fs first a) in
    ((b.0, b.1, more.0), lower P least (x.column + 1) n os (omega (arith, b.0)) more.1)
update_cells P least n before after newest old (added {y = y} {before = bs} {after = fs} {newest = ns} {old = os} first u) b a =
    let more = update_cells P (y.column + 1) n bs fs ns os u (raised P least y.column n bs first b) a.2 in
    ((a.0, a.1, more.0), lower P least (y.column + 1) n os (omega (arith, a.0)) more.1)
update_cells P least n before after newest old (same {x = x} {y = y} {before = bs} {after = fs} {newest = ns} {old = os} e f u) b a =
    let more = update_cells P (y.column + 1) n bs fs ns os u (subst (λ (k : ℕ). AreCellsOf P (k + 1) n bs) e b.2) a.2 in
    ((a.0, a.1, more.0), lower P least (y.column + 1) n os (omega (arith, a.0)) more.1)
update_cells P least n before after newest old (changed {x = x} {y = y} {before = bs} {after = fs} {newest = ns} {old = os} e f u) b a =
    let more = update_cells P (y.column + 1) n bs fs ns os u (subst (λ (k : ℕ). AreCellsOf P (k + 1) n bs) e b.2) a.2 in
    ((a.0, a.1, more.0), (b.0, b.1, subst (λ (k : ℕ). AreCellsOf P (k + 1) n os) (sym e) more.1))

-- ---- objects
record ObjectOf (P : Type 0) (names : List (List ℕ)) (table : List ColumnView) (cells : List CellJson) : Type 0 where
  members : Members
  has : HasMoreMembers P members (more_members table cells)
  named : names_of members ≡ map (λ (x : CellJson). name_at names x.column) cells

pub member_text : (n key json : List ℕ) → key ≡ json_string n ++ 58 ∷ [] → key ++ json ≡ json_string n ++ 58 ∷ json
member_text n key json e = ap (λ (t : List ℕ). t ++ json) e ∙ append_assoc (json_string n) (58 ∷ []) json

members_of : (P : Type 0) (names : List (List ℕ)) (table : List ColumnView) (least : ℕ) (cells : List CellJson) → AreNamed P names table → AreCellsOf P least (length names) cells → ObjectOf P names table cells
members_of P names table least [] t a = record { members = no_members; has = no_more_members P; named = refl }
members_of P names table least (x ∷ xs) t a =
    let n = named_at P names table x.column t (a.1).0 in
    let more = members_of P names table (x.column + 1) xs t a.2 in
    let j = (a.1).1 in
    let name = name_at names x.column in
    record {
      members = member name j.value more.members;
      has = next_members P name (member_json table x ++ more_members table xs) j.value more.members
          (subst (λ (s : List ℕ). HasMembers P (member name j.value more.members) (s ++ more_members table xs)) (sym (member_text name (column_at table x.column).key x.json n.1)) (first_member P name x.json (more_members table xs) more.members n.0 j more.has));
      named = ap (λ (ns : List (List ℕ)). name ∷ ns) more.named;
    }

pub other_names : (names : List (List ℕ)) (i j : ℕ) → AreDistinct names → i < j → j < length names → name_at names j ≢ name_at names i
other_names [] i j d lt le = absurd (omega (arith, le))
other_names (n ∷ ns) zero zero d lt le = absurd (omega (arith, lt))
other_names (n ∷ ns) (suc i) zero d lt le = absurd (omega (arith, lt))
other_names (n ∷ ns) zero (suc j) d lt le = ahead n ns j d.0 (omega (arith, le))
  where
    ahead : (n : List ℕ) (ns : List (List ℕ)) (j : ℕ) → IsOther n ns → j < length ns → name_at ns j ≢ n
    ahead n [] j o le = absurd (omega (arith, le))
    ahead n (m ∷ ms) zero o le = o.0
    ahead n (m ∷ ms) (suc j) o le = ahead n ms j o.1 (omega (arith, le))
other_names (n ∷ ns) (suc i) (suc j) d lt le = other_names ns i j d.1 (omega (arith, lt)) (omega (arith, le))

other_cells : (P : Type 0) (names : List (List ℕ)) (i least : ℕ) (cells : List CellJson) → AreDistinct names → i < least → AreCellsOf P least (length names) cells → IsOther (name_at names i) (map (λ (x : CellJson). name_at names x.column) cells)
other_cells P names i least [] d lt a = tt
other_cells P names i least (x ∷ xs) d lt a = (other_names names i x.column d (omega (arith, lt, a.0)) (a.1).0, other_cells P names i (x.column + 1) xs d (omega (arith, lt, a.0)) a.2)

distinct_cells : (P : Type 0) (names : List (List ℕ)) (least : ℕ) (cells : List CellJson) → AreDistinct names → AreCellsOf P least (length names) cells → AreDistinct (map (λ (x : CellJson). name_at names x.column) cells)
distinct_cells P names least [] d a = tt
distinct_cells P names least (x ∷ xs) d a = (other_cells P names x.column (x.column + 1) xs d (omega arith) a.2, distinct_cells P names (x.column + 1) xs d a.2)

pub object_is_json : (P : Type 0) (names : List (List ℕ)) (table : List ColumnView) (cells : List CellJson) → (P → AreDistinct names) → AreNamed P names table → AreCellsOf P 0 (length names) cells → IsJson P (object_json table cells)
object_is_json P names table [] d t a = empty_object P
object_is_json P names table (x ∷ xs) d t a =
    let n = named_at P names table x.column t (a.1).0 in
    let more = members_of P names table (x.column + 1) xs t a.2 in
    let j = (a.1).1 in
    let name = name_at names x.column in
    written.object_json P (member name j.value more.members) (member_json table x ++ more_members table xs)
    (subst (λ (s : List ℕ). HasMembers P (member name j.value more.members) (s ++ more_members table xs)) (sym (member_text name (column_at table x.column).key x.json n.1)) (first_member P name x.json (more_members table xs) more.members n.0 j more.has))
    (λ p. subst AreDistinct (ap (λ (ns : List (List ℕ)). name ∷ ns) (sym more.named)) (distinct_cells P names 0 (x ∷ xs) (d p) a))

-- ---- rows
-- `data`, and `old` for an update
abbrev pub HasRow : Type 0 → List ℕ → Type 0
HasRow P row = HasNamed P (codes "data" ∷ codes "old" ∷ []) (codes ",\"data\":" ++ row)

one_object : (P : Type 0) (x y : List ℕ) → IsJson P x → y ≡ x → HasRow P y
unfolding json_string
one_object P x y j e = subst (HasRow P) (append-nil x ∙ sym e) (next_named P (codes "data") x [] (codes "old" ∷ []) tt j (none_named P (codes "old" ∷ [])))

two_objects : (P : Type 0) (x y z : List ℕ) → IsJson P x → IsJson P y → z ≡ x ++ (codes ",\"old\":" ++ y) → HasRow P z
unfolding json_string
two_objects P x y z j k e = subst (HasRow P) (sym e) (next_named P (codes "data") x (codes ",\"old\":" ++ y) (codes "old" ∷ []) tt j (last_named P (codes "old") y tt k))

pub row_members : (P : Type 0) (names : List (List ℕ)) (table : List ColumnView) (shapes : List ImageShape) (images : List (List ColumnValue)) (x : List ℕ) → (P → AreDistinct names) → AreNamed P names table → AreRisingShapes (length names) shapes
    → AreSoundImages shapes images → IsRowJson table shapes images x → HasRow P x
row_members P names table [] images x d t r s h = absurd h
row_members P names table (s ∷ []) [] x d t r i h = absurd h
row_members P names table (s ∷ []) (values ∷ []) x d t r i h =
    one_object P (object_json table h.0) x (object_is_json P names table h.0 d t (cells_of P names table 0 s.columns values h.0 t r.0 i.0 h.1)) h.2
row_members P names table (s ∷ []) (values ∷ w ∷ more) x d t r i h = absurd h
row_members P names table (s ∷ u ∷ []) [] x d t r i h = absurd h
row_members P names table (s ∷ u ∷ []) (before ∷ []) x d t r i h = absurd h
row_members P names table (s ∷ u ∷ []) (before ∷ after ∷ []) x d t r i h =
    let b = cells_of P names table 0 s.columns before h.0 t r.0 i.0 h.2 in
    let a = cells_of P names table 0 u.columns after h.1 t (r.1).0 (i.1).0 h.3 in
    let j = h.4 in
    let c = update_cells P 0 (length names) h.0 h.1 j.newest j.old j.are b a in
    two_objects P (object_json table j.newest) (object_json table j.old) x (object_is_json P names table j.newest d t c.0) (object_is_json P names table j.old d t c.1) j.is
row_members P names table (s ∷ u ∷ []) (before ∷ after ∷ w ∷ more) x d t r i h = absurd h
row_members P names table (s ∷ u ∷ v ∷ shapes) images x d t r i h = absurd h
