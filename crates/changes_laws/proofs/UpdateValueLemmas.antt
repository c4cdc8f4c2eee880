-- Rows of updates with equal JSON have the same values in both images.
use Rattle.std.proofs.Common.{◌≡◌, ℕ, ◌<◌, ◌^◌, List, [], ◌∷◌, ◌++◌, length, map, refl, sym, ap, ap₂, ◌∙◌, subst}
use Rattle.std.specs.Prelude.{All, codes}
use Rattle.std.specs.List.{AllZip}
use Rattle.std.specs.declared.result.Result.TheVariants.{Ok}
use Rattle.std.proofs.lemmas.List.{append_cancel_left, append-nil}
use Rattle.wire_buf.specs.Encoding.{AreBytes}
use Rattle.rows_table_map.specs.TableMaps.{TableMap}
use Rattle.rows_cells.specs.Images.{ColumnValue, ImageShape, image_at}
use Rattle.rows_cells.specs.declared.image.ImageColumn.{ImageColumn}
use Rattle.changes_tables.specs.ColumnParts.{column_parts}
use Rattle.changes_tables.specs.ColumnsShown.{IsColumn}
use Rattle.changes_tables.specs.ShownColumns.{ColumnView}
use Rattle.changes_tables.specs.declared.columns.TableOptions.{TableOptions}
use Rattle.changes_lines.specs.RowJson.{CellJson, AreCellsJson, object_json, IsUpdate, IsRowJson, none, unset, added, same, changed}
use Rattle.changes_laws.specs.JsonLines.{IsCellShown}
use Rattle.changes_laws.specs.SameCells.{AreAscending, IsSameValue, IsToldColumn, columns_of, image_columns}
use Rattle.changes_laws.proofs.SoundCellLemmas.{EachHolds}
use Rattle.changes_laws.proofs.LineLawLemmas.{each_of, all_of}
use Rattle.changes_laws.proofs.ObjectReadLemmas.{objects_read}
use Rattle.changes_laws.proofs.ImageReadLemmas.{AreOf, read_columns, columns_shown, image_known, cells_shown, same_values}
use Rattle.changes_laws.proofs.UpdateReadLemmas.{images_shown}

-- what holds of the cells of both images holds of those of the row and of `old`
parts_hold : (P : CellJson → Type 0) (before after newest old : List CellJson) → IsUpdate before after newest old → EachHolds P before → EachHolds P after → EachHolds P newest × EachHolds P old
parts_hold P before after newest old none h k = (tt, tt)
parts_hold P before after newest old (unset {before = xs} {after = ys} {newest = ns} {old = os} lt u) h k = let m = parts_hold P xs ys ns os u h.1 k in ((h.0, m.0), m.1)
parts_hold P before after newest old (added {before = xs} {after = ys} {newest = ns} {old = os} lt u) h k = let m = parts_hold P xs ys ns os u h k.1 in ((k.0, m.0), m.1)
parts_hold P before after newest old (same {before = xs} {after = ys} {newest = ns} {old = os} e f u) h k = let m = parts_hold P xs ys ns os u h.1 k.1 in ((k.0, m.0), m.1)
parts_hold P before after newest old (changed {before = xs} {after = ys} {newest = ns} {old = os} e f u) h k = let m = parts_hold P xs ys ns os u h.1 k.1 in ((k.0, m.0), (h.0, m.1))

-- the columns of an image's cells
cell_columns : (table : List ColumnView) (columns : List ImageColumn) (values : List ColumnValue) (cells : List CellJson) → AreOf columns values → AreCellsJson table columns values cells → columns_of cells ≡ map (λ (c : ImageColumn). c.column) columns
unfolding AreCellsJson
cell_columns table [] [] [] o a = refl
cell_columns table [] [] (x ∷ xs) o a = absurd a
cell_columns table [] (v ∷ vs) cells o a = absurd o
cell_columns table (c ∷ cs) [] cells o a = absurd o
cell_columns table (c ∷ cs) (v ∷ vs) [] o a = absurd a
cell_columns table (c ∷ cs) (v ∷ vs) (x ∷ xs) o a = ap₂ (λ (i : ℕ) (is : List ℕ). i ∷ is) (a.0 ∙ (o.0).0) (cell_columns table cs vs xs o.1 a.2)

-- the row and `old`
row_parts : (table : List ColumnView) (newest old : List CellJson) → object_json table newest ++ (codes ",\"old\":" ++ object_json table old) ≡ object_json table newest ++ (codes ",\"old\":" ++ (object_json table old ++ []))
row_parts table newest old = ap (λ (t : List ℕ). object_json table newest ++ (codes ",\"old\":" ++ t)) (sym (append-nil (object_json table old)))

pub updates_read : (options : TableOptions) (m : TableMap) (columns : List ColumnView) (s t : ImageShape) (a b c d r p q l : List ℕ) (vs us ws xs : List ColumnValue) (x : List ℕ) → length m.column_types < 2 ^ 64 → AllZip (IsColumn options) (column_parts m) columns
    → All (IsToldColumn (length m.column_types) columns) s.columns → All (IsToldColumn (length m.column_types) columns) t.columns → AreAscending (image_columns s)
    → AreBytes a → AreBytes b → AreBytes c → AreBytes d → image_at s a ≡ Ok (vs, r) → image_at t b ≡ Ok (us, p) → image_at s c ≡ Ok (ws, q) → image_at t d ≡ Ok (xs, l)
    → IsRowJson columns (s ∷ t ∷ []) (vs ∷ us ∷ []) x → IsRowJson columns (s ∷ t ∷ []) (ws ∷ xs ∷ []) x → AllZip (IsSameValue columns) vs ws × AllZip (IsSameValue columns) us xs
updates_read options m columns s t a b c d r p q l vs us ws xs x lt shown told_s told_t rising ba bb bc bd read_a read_b read_c read_d j k =
    let n = length m.column_types in
    let are = columns_shown options (column_parts m) columns shown in
    let ts = read_columns n columns s.columns are (each_of (IsToldColumn n columns) s.columns told_s) in
    let told = read_columns n columns t.columns are (each_of (IsToldColumn n columns) t.columns told_t) in
    let oa = ((image_known n columns s a ts ba).each (vs, r) read_a).0 in
    let ob = ((image_known n columns t b told bb).each (us, p) read_b).0 in
    let oc = ((image_known n columns s c ts bc).each (ws, q) read_c).0 in
    let od = ((image_known n columns t d told bd).each (xs, l) read_d).0 in
    let first = j.4 in
    let second = k.4 in
    let one = parts_hold (IsCellShown n) j.0 j.1 first.newest first.old first.are (cells_shown n columns s.columns vs j.0 ts oa j.2) (cells_shown n columns t.columns us j.1 told ob j.3) in
    let two = parts_hold (IsCellShown n) k.0 k.1 second.newest second.old second.are (cells_shown n columns s.columns ws k.0 ts oc k.2) (cells_shown n columns t.columns xs k.1 told od k.3) in
    let old_text = λ (cells : List CellJson). codes ",\"old\":" ++ (object_json columns cells ++ []) in
    let rows = objects_read options m columns first.newest second.newest (old_text first.old) (old_text second.old) lt shown (all_of (IsCellShown n) first.newest one.0) (all_of (IsCellShown n) second.newest two.0)
    (sym (row_parts columns first.newest first.old) ∙ sym first.is ∙ second.is ∙ row_parts columns second.newest second.old) in
    let olds = objects_read options m columns first.old second.old [] [] lt shown (all_of (IsCellShown n) first.old one.1) (all_of (IsCellShown n) second.old two.1)
    (append_cancel_left (codes ",\"old\":") (object_json columns first.old ++ []) (object_json columns second.old ++ []) rows.1) in
    let columns_j = cell_columns columns s.columns vs j.0 oa j.2 in
    let columns_k = cell_columns columns s.columns ws k.0 oc k.2 in
    let same_cells = images_shown j.0 j.1 first.newest first.old k.0 k.1 second.newest second.old first.are second.are rows.0 olds.0 (columns_j ∙ sym columns_k) (cell_columns columns t.columns us j.1 ob j.3 ∙ sym (cell_columns columns t.columns xs k.1 od k.3))
    (subst AreAscending (sym columns_j) rising) (subst AreAscending (sym columns_k) rising) in (
      same_values n columns s.columns vs ws j.0 ts oa oc j.2 (subst (AreCellsJson columns s.columns ws) (sym same_cells.0) k.2),
      same_values n columns t.columns us xs j.1 told ob od j.3 (subst (AreCellsJson columns t.columns xs) (sym same_cells.1) k.3),
    )
