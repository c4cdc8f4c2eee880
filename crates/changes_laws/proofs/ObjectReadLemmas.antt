-- Objects of columns show their cells.
use Rattle.std.proofs.Common.{◌≡◌, ℕ, ◌^◌, ◌<◌, List, [], ◌∷◌, ◌++◌, length, refl, sym, ap, ap₂, ◌∙◌, subst, append_assoc, arith, inl, inr}
use Rattle.std.specs.Prelude.{All}
use Rattle.std.specs.List.{AllZip}
use Rattle.std.proofs.lemmas.Bool.{cases_lt}
use Rattle.rows_table_map.specs.TableMaps.{TableMap}
use Rattle.changes_writers.specs.JsonStrings.{json_string}
use Rattle.changes_writers.proofs.StringLawLemmas.{strings_read}
use Rattle.changes_tables.specs.ColumnParts.{column_names, column_parts}
use Rattle.changes_tables.specs.ColumnsShown.{IsColumn}
use Rattle.changes_tables.specs.ShownColumns.{ColumnView}
use Rattle.changes_tables.specs.declared.columns.TableOptions.{TableOptions}
use Rattle.changes_lines.specs.RowJson.{CellJson, column_at, member_json, more_members, object_json}
use Rattle.changes_laws.specs.JsonGrammar.{IsAfterValue}
use Rattle.changes_laws.specs.JsonLines.{IsCellShown}
use Rattle.changes_laws.specs.JsonNames.{AreDistinct}
use Rattle.changes_laws.proofs.SoundCellLemmas.{EachHolds}
use Rattle.changes_laws.proofs.LineLawLemmas.{each_of}
use Rattle.changes_laws.proofs.DistinctNameLemmas.{column_names_distinct}
use Rattle.changes_laws.proofs.TableGrammarLemmas.{AreNamed, columns_named, length-column_names}
use Rattle.changes_laws.proofs.RowGrammarLemmas.{name_at, named_at, member_text, other_names}
use Rattle.changes_laws.proofs.ValueEnds.{values_end}

abbrev first : List ℕ → ℕ
first [] = 0
first (x ∷ xs) = x

abbrev others : List ℕ → List ℕ
others [] = []
others (x ∷ xs) = xs

same_column : (names : List (List ℕ)) (i j : ℕ) → AreDistinct names → i < length names → j < length names → name_at names i ≡ name_at names j → i ≡ j
same_column names i j d p q e = elim (cases_lt i j) [
  | inl lt ↦ absurd (other_names names i j d lt q (sym e))
  | inr ge ↦ elim (cases_lt j i) [
    | inl lt ↦ absurd (other_names names j i d lt p e)
    | inr le ↦ omega (arith, ge, le)
  ]
]

module _ (names : List (List ℕ)) (table : List ColumnView) (distinct : AreDistinct names) (named : AreNamed (Unit {0}) names table) where
  follows : (cells : List CellJson) (s : List ℕ) → IsAfterValue (more_members table cells ++ 125 ∷ s)
  follows [] s = refl
  follows (x ∷ xs) s = refl

  -- a member, and what follows
  member_split : (x : CellJson) (rest : List ℕ) → x.column < length names → member_json table x ++ rest ≡ json_string (name_at names x.column) ++ 58 ∷ (x.json ++ rest)
  member_split x rest lt =
      let n = named_at (Unit {0}) names table x.column named lt in
      ap (λ (t : List ℕ). t ++ rest) (member_text (name_at names x.column) (column_at table x.column).key x.json n.1) ∙ append_assoc (json_string (name_at names x.column)) (58 ∷ x.json) rest

  member_read : (x y : CellJson) (s t : List ℕ) → IsCellShown (length names) x → IsCellShown (length names) y → IsAfterValue s → IsAfterValue t → member_json table x ++ s ≡ member_json table y ++ t → (x ≡ y) × (s ≡ t)
  member_read x y s t h k a b e =
      let f = strings_read (name_at names x.column) (name_at names y.column) (58 ∷ (x.json ++ s)) (58 ∷ (y.json ++ t)) (sym (member_split x s h.0) ∙ e ∙ member_split y t k.0) in
      let g = values_end h.1.value k.1.value x.json y.json s t h.1.text_is k.1.text_is a b (ap others f.1) in
      let c = same_column names x.column y.column distinct h.0 k.0 f.0 in
      (ap₂ (λ (i : ℕ) (j : List ℕ). let cell : CellJson = record { column = i; json = j } in cell) c g.0, g.1)

  more_read : (a b : List CellJson) (s t : List ℕ) → EachHolds (IsCellShown (length names)) a → EachHolds (IsCellShown (length names)) b → more_members table a ++ 125 ∷ s ≡ more_members table b ++ 125 ∷ t → (a ≡ b) × (s ≡ t)
  more_read [] [] s t h k e = (refl, ap others e)
  more_read [] (y ∷ ys) s t h k e = absurd (let no : 125 ≡ 44 = ap first e in omega (arith, no))
  more_read (x ∷ xs) [] s t h k e = absurd (let no : 44 ≡ 125 = ap first e in omega (arith, no))
  more_read (x ∷ xs) (y ∷ ys) s t h k e =
      let left = more_members table xs ++ 125 ∷ s in
      let right = more_members table ys ++ 125 ∷ t in
      let f = member_read x y left right h.0 k.0 (follows xs s) (follows ys t) (sym (append_assoc (member_json table x) (more_members table xs) (125 ∷ s)) ∙ ap others e ∙ append_assoc (member_json table y) (more_members table ys) (125 ∷ t)) in
      let g = more_read xs ys s t h.1 k.1 f.1 in
      (ap₂ (λ (c : CellJson) (cs : List CellJson). c ∷ cs) f.0 g.0, g.1)

  object_parts : (x : CellJson) (xs : List CellJson) (s : List ℕ) → object_json table (x ∷ xs) ++ s ≡ 123 ∷ (member_json table x ++ (more_members table xs ++ 125 ∷ s))
  object_parts x xs s = ap (λ (t : List ℕ). 123 ∷ t) (append_assoc (member_json table x ++ more_members table xs) (125 ∷ []) s ∙ append_assoc (member_json table x) (more_members table xs) (125 ∷ s))

  not_empty : (x : CellJson) (rest s : List ℕ) → x.column < length names → member_json table x ++ rest ≡ 125 ∷ s → ⊥
  unfolding json_string
  not_empty x rest s lt e = let no : 34 ≡ 125 = ap first (sym (member_split x rest lt) ∙ e) in absurd (omega (arith, no))

  object_read : (a b : List CellJson) (s t : List ℕ) → EachHolds (IsCellShown (length names)) a → EachHolds (IsCellShown (length names)) b → object_json table a ++ s ≡ object_json table b ++ t → (a ≡ b) × (s ≡ t)
  object_read [] [] s t h k e = (refl, ap others (ap others e))
  object_read [] (y ∷ ys) s t h k e = absurd (not_empty y (more_members table ys ++ 125 ∷ t) s (k.0).0 (sym (ap others (e ∙ object_parts y ys t))))
  object_read (x ∷ xs) [] s t h k e = absurd (not_empty x (more_members table xs ++ 125 ∷ s) t (h.0).0 (ap others (sym (object_parts x xs s) ∙ e)))
  object_read (x ∷ xs) (y ∷ ys) s t h k e =
      let f = member_read x y (more_members table xs ++ 125 ∷ s) (more_members table ys ++ 125 ∷ t) h.0 k.0 (follows xs s) (follows ys t) (ap others (sym (object_parts x xs s) ∙ e ∙ object_parts y ys t)) in
      let g = more_read xs ys s t h.1 k.1 f.1 in
      (ap₂ (λ (c : CellJson) (cs : List CellJson). c ∷ cs) f.0 g.0, g.1)

pub objects_read : (options : TableOptions) (m : TableMap) (columns : List ColumnView) (a b : List CellJson) (s t : List ℕ) → length m.column_types < 2 ^ 64 → AllZip (IsColumn options) (column_parts m) columns
    → All (IsCellShown (length m.column_types)) a → All (IsCellShown (length m.column_types)) b → object_json columns a ++ s ≡ object_json columns b ++ t → (a ≡ b) × (s ≡ t)
objects_read options m columns a b s t lt shown h k e =
    let n = length-column_names m in
    let each = λ (cells : List CellJson) (all : All (IsCellShown (length m.column_types)) cells). subst (λ (i : ℕ). EachHolds (IsCellShown i) cells) (sym n) (each_of (IsCellShown (length m.column_types)) cells all) in
    object_read (column_names m) columns (column_names_distinct m lt) (columns_named (Unit {0}) options m columns shown) a b s t (each a h) (each b k) e
