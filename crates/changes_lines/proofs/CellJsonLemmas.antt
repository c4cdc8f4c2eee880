-- The JSON of cells, in sequence.
use Rattle.std.proofs.Common.{◌≡◌, ℕ, List, [], ◌∷◌, ◌++◌, refl, sym, ap, ◌∙◌, append_assoc}
use Rattle.std.proofs.lemmas.List.{append-nil}
use Rattle.std.proofs.lemmas.Grind.{flat_map-append}
use Rattle.rows_cells.specs.Images.{ColumnValue}
use Rattle.rows_cells.specs.declared.image.ImageColumn.{ImageColumn}
use Rattle.changes_tables.specs.ShownColumns.{ColumnView}
use Rattle.changes_lines.specs.declared.members.Separator.{Separator}
use Rattle.changes_lines.specs.declared.members.Separator.TheVariants as before
use Rattle.changes_lines.specs.RowJson.{CellJson, AreCellsJson, member_json, members_json, more_members, object_json}
use Rattle.changes_lines.specs.ReadCells.{members_after, separator_after, separator_byte, separator_end}

-- cells, and more of them
pub are_both : (t : List ColumnView) (cs ds : List ImageColumn) (vs ws : List ColumnValue) (xs ys : List CellJson) → AreCellsJson t cs vs xs → AreCellsJson t ds ws ys → AreCellsJson t (cs ++ ds) (vs ++ ws) (xs ++ ys)
unfolding AreCellsJson
are_both t [] ds [] ws [] ys h k = k
are_both t (c ∷ cs) ds (v ∷ vs) ws (x ∷ xs) ys h k = (h.0, h.1, are_both t cs ds vs ws xs ys h.2 k)
are_both t [] ds (v ∷ vs) ws xs ys h k = absurd h
are_both t [] ds [] ws (x ∷ xs) ys h k = absurd h
are_both t (c ∷ cs) ds [] ws xs ys h k = absurd h
are_both t (c ∷ cs) ds (v ∷ vs) ws [] ys h k = absurd h

-- the separator after all of them is that after the last
pub separator_both : (s : Separator) (xs ys : List CellJson) → separator_after s (xs ++ ys) ≡ separator_after (separator_after s xs) ys
separator_both s [] ys = refl
separator_both s (x ∷ xs) [] = refl
separator_both s (x ∷ xs) (y ∷ ys) = refl

-- members, and more of them
pub members_both : (t : List ColumnView) (s : Separator) (xs ys : List CellJson) → members_after t s (xs ++ ys) ≡ members_after t s xs ++ members_after t (separator_after s xs) ys
members_both t before.Brace [] ys = refl
members_both t before.Comma [] ys = refl
members_both t before.Brace (x ∷ xs) ys =
    ap (λ (l : List ℕ). 123 ∷ (member_json t x ++ l)) (flat_map-append (λ y. 44 ∷ member_json t y) xs ys)
    ∙ ap (λ (l : List ℕ). 123 ∷ l) (sym (append_assoc (member_json t x) (more_members t xs) (more_members t ys)))
members_both t before.Comma (x ∷ xs) ys =
    ap (λ (l : List ℕ). 44 ∷ (member_json t x ++ l)) (flat_map-append (λ y. 44 ∷ member_json t y) xs ys)
    ∙ ap (λ (l : List ℕ). 44 ∷ l) (sym (append_assoc (member_json t x) (more_members t xs) (more_members t ys)))

-- one member
pub members_one : (t : List ColumnView) (s : Separator) (x : CellJson) → members_after t s (x ∷ []) ≡ separator_byte s ∷ member_json t x
members_one t before.Brace x = ap (λ (l : List ℕ). 123 ∷ l) (append-nil (member_json t x))
members_one t before.Comma x = ap (λ (l : List ℕ). 44 ∷ l) (append-nil (member_json t x))

-- the members of an object, and its end
pub object_ends : (t : List ColumnView) (xs : List CellJson) → object_json t xs ≡ members_json t xs ++ separator_end (separator_after before.Brace xs)
object_ends t [] = refl
object_ends t (x ∷ xs) = refl
