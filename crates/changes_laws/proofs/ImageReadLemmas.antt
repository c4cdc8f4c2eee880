-- Equal objects of images come from the same values.
use Rattle.std.proofs.Common.{Bool, List, [], ap, arith, false, inl, inr, length, refl, subst, suc, sym, true, zero, ℕ, ◌++◌, ◌+◌, ◌/◌, ◌<◌, ◌^◌, ◌∙◌, ◌∷◌, ◌≡◌, ◌⊎◌}
use Rattle.std.specs.Prelude.{All, IsTrue}
use Rattle.std.specs.List.{AllZip}
use Rattle.std.specs.declared.result.Result.TheVariants.{Ok}
use Rattle.wire_buf.specs.Encoding.{AreBytes}
use Rattle.rows_table_map.specs.TableMaps.{TableMap}
use Rattle.rows_cells.specs.declared.format.CellFormat.{CellFormat}
use Rattle.rows_cells.specs.declared.format.CellFormat.TheVariants as format
use Rattle.rows_cells.specs.declared.image.ImageColumn.{ImageColumn}
use Rattle.rows_cells.specs.CellFields.{at_width}
use Rattle.rows_cells.specs.CellValues.{CellValue, null}
use Rattle.rows_cells.specs.ColumnFormats.{format_by}
use Rattle.rows_cells.specs.Images.{ColumnValue, ImageShape, bit, format_in, field_at, cells_at, shared_at, image_at}
use Rattle.base64.specs.Engines.{standard}
use Rattle.base64.specs.GeneralPurpose.{encode_of}
use Rattle.changes_writers.specs.Base64Texts.{base64_object, base64_string}
use Rattle.changes_writers.specs.JsonStrings.{json_string}
use Rattle.changes_tables.specs.MemberTexts.{IsMemberJson}
use Rattle.changes_tables.specs.MemberTexts as members
use Rattle.changes_tables.specs.declared.columns.Shown.TheVariants as shown
use Rattle.changes_tables.specs.ColumnParts.{ColumnPart, column_parts}
use Rattle.changes_tables.specs.ColumnsShown.{IsColumn}
use Rattle.changes_tables.specs.ShownColumns.{ColumnView}
use Rattle.changes_tables.specs.declared.columns.Shown.{Shown}
use Rattle.changes_tables.specs.declared.columns.TableOptions.{TableOptions}
use Rattle.changes_cells.specs.CellJson.{IsCellJson}
use Rattle.changes_lines.specs.RowJson.{CellJson, column_at, AreCellsJson, object_json}
use Rattle.changes_laws.specs.JsonLines.{IsCellShown, IsJsonValue}
use Rattle.changes_laws.specs.SameCells.{IsSameCell, equal, AreMembers, IsFormatOf, IsToldColumn, IsSameValue, begins_as_member}
use Rattle.changes_laws.proofs.ReadingGives.{Gives, given, next}
use Rattle.changes_laws.proofs.SoundCellLemmas.{BothBytes, WithBytes, RestIsBytes, EachHolds, IsSoundCell, width_gives, shared_gives, cell_gives}
use Rattle.changes_laws.proofs.CellLawLemmas.{IsKnown, cell_known, by_format}
use Rattle.changes_laws.proofs.TableGrammarLemmas.{member_is_json}
use Rattle.changes_laws.proofs.CellGrammarLemmas.{cell_json}
use Rattle.changes_laws.proofs.LineLawLemmas.{each_of, all_of}
use Rattle.changes_laws.proofs.NullReadLemmas.{not_null}
use Rattle.changes_laws.proofs.ObjectReadLemmas.{objects_read}
use Rattle.changes_laws.proofs.ValueLemmas.{of_json, all_json}

-- ---- the columns of an image
abbrev pub IsReadColumn : ℕ → List ColumnView → ImageColumn → Type 0
IsReadColumn n table c = (c.column < n) × IsFormatOf (column_at table c.column).shown c.format × AreMembers (column_at table c.column).members

string_begins : (s : List ℕ) → begins_as_member (json_string s) ≡ true
unfolding json_string
string_begins s = refl

base64_begins : (b : List ℕ) → begins_as_member (base64_string b) ≡ true
unfolding base64_string
base64_begins b = string_begins (encode_of standard b)

object_begins : (b : List ℕ) → begins_as_member (base64_object b) ≡ true
unfolding base64_object
object_begins b = refl

member_begins : (text : Shown) (bytes json : List ℕ) → IsMemberJson text bytes json → begins_as_member json ≡ true
member_begins (shown.Text set) bytes json (members.string t is e) = ap begins_as_member e ∙ string_begins t
member_begins (shown.Text set) bytes json (members.object bad e) = ap begins_as_member e ∙ object_begins bytes
member_begins shown.Binary bytes json e = ap begins_as_member e ∙ base64_begins bytes
member_begins shown.Plain bytes json e = ap begins_as_member e ∙ object_begins bytes
member_begins shown.Quoted bytes json e = ap begins_as_member e ∙ object_begins bytes
member_begins shown.Unknown bytes json e = ap begins_as_member e ∙ object_begins bytes
member_begins shown.Timestamp bytes json e = ap begins_as_member e ∙ object_begins bytes
member_begins shown.Bit bytes json e = ap begins_as_member e ∙ object_begins bytes
member_begins shown.Enum bytes json e = ap begins_as_member e ∙ object_begins bytes
member_begins shown.Set bytes json e = ap begins_as_member e ∙ object_begins bytes

-- members that are JSON and begin as such
abbrev AreShown : List (List ℕ) → Type 0
AreShown jsons = EachHolds (λ (m : List ℕ). IsJsonValue m × (begins_as_member m ≡ true)) jsons

members_shown : (text : Shown) (names jsons : List (List ℕ)) → AllZip (IsMemberJson text) names jsons → AreShown jsons
members_shown text [] [] h = tt
members_shown text [] (y ∷ ys) h = absurd h
members_shown text (x ∷ xs) [] h = absurd h
members_shown text (x ∷ xs) (y ∷ ys) h = ((of_json y (member_is_json (Unit {0}) text x y h.0), member_begins text x y h.0), members_shown text xs ys h.1)

pub columns_shown : (options : TableOptions) (parts : List ColumnPart) (columns : List ColumnView) → AllZip (IsColumn options) parts columns → EachHolds (λ (c : ColumnView). AreShown c.members) columns
columns_shown options [] [] h = tt
columns_shown options [] (c ∷ cs) h = absurd h
columns_shown options (p ∷ ps) [] h = absurd h
columns_shown options (p ∷ ps) (c ∷ cs) h = (members_shown (h.0).text p.members c.members (h.0).members, columns_shown options ps cs h.1)

column_shown : (columns : List ColumnView) (i : ℕ) → EachHolds (λ (c : ColumnView). AreShown c.members) columns → AreShown (column_at columns i).members
column_shown [] i h = tt
column_shown (c ∷ cs) zero h = h.0
column_shown (c ∷ cs) (suc i) h = column_shown cs i h.1

both_of : (jsons : List (List ℕ)) → AreShown jsons → EachHolds IsJsonValue jsons × EachHolds (λ (m : List ℕ). IsTrue (begins_as_member m)) jsons
both_of [] h = (tt, tt)
both_of (m ∷ ms) h = let more = both_of ms h.1 in (((h.0).0, more.0), ((h.0).1, more.1))

pub read_columns : (n : ℕ) (columns : List ColumnView) (cs : List ImageColumn) → EachHolds (λ (c : ColumnView). AreShown c.members) columns → EachHolds (IsToldColumn n columns) cs → EachHolds (IsReadColumn n columns) cs
read_columns n columns [] h t = tt
read_columns n columns (c ∷ cs) h t =
    let ms = (column_at columns c.column).members in
    let both = both_of ms (column_shown columns c.column h) in
    (((t.0).0, (t.0).1, record { json = all_of IsJsonValue ms both.0; begin = all_of (λ m. IsTrue (begins_as_member m)) ms both.1; distinct = (t.0).2 }), read_columns n columns cs h t.1)

-- ---- the values of an image
-- NULL, or a value of the format
abbrev pub IsField : CellFormat → CellValue → Type 0
IsField f v = (v ≡ null) ⊎ (IsKnown f v × IsSoundCell f v)

field_known : (is_null : Bool) (f : CellFormat) (b : List ℕ) → AreBytes b → Gives (WithBytes (IsField f)) (field_at is_null f b)
field_known true f b h = given (WithBytes (IsField f)) (null, b) (inl refl, h)
field_known false f b h = record { each = λ x e. let s = (cell_gives f b h).each x e in (inr ((cell_known f b h).each x e, s.0), s.1) }

same_format : (s : Shown) (p : Bool) (f : CellFormat) → IsFormatOf s f → format_by p f ≡ f
same_format s true format.Json h = absurd h
same_format s true (format.Signed w) h = refl
same_format s true (format.Unsigned w) h = refl
same_format s true format.Float h = refl
same_format s true format.Double h = refl
same_format s true format.Year h = refl
same_format s true format.NewDate h = refl
same_format s true format.OldTime h = refl
same_format s true format.OldDatetime h = refl
same_format s true (format.Timestamp2 n) h = refl
same_format s true (format.Datetime2 n) h = refl
same_format s true (format.Time2 n) h = refl
same_format s true (format.Decimal i j) h = refl
same_format s true (format.Plain n) h = refl
same_format s true (format.Counted w) h = refl
same_format s true format.JsonDiffs h = refl
same_format s true format.NoMetadata h = refl
same_format s true format.NoCells h = refl
same_format s false f h = refl

-- a value of a column
abbrev pub IsOf : ImageColumn → ColumnValue → Type 0
IsOf c v = (v.column ≡ c.column) × IsField c.format v.value

abbrev pub AreOf : List ImageColumn → List ColumnValue → Type 0
AreOf columns values = AllZip IsOf columns values

cells_known : (n : ℕ) (table : List ColumnView) (bits nulls : List ℕ) (k : ℕ) (columns : List ImageColumn) (b : List ℕ) → EachHolds (IsReadColumn n table) columns → AreBytes b → Gives (WithBytes (AreOf columns)) (cells_at bits nulls k columns b)
unfolding cells_at
cells_known n table bits nulls k [] b t h = given (WithBytes (AreOf [])) ([], b) (tt, h)
cells_known n table bits nulls k (c ∷ cs) b t h =
    let same : format_in bits c ≡ c.format = same_format (column_at table c.column).shown (bit bits c.json_column) c.format (t.0).1 in
    next (WithBytes (IsField (format_in bits c))) (WithBytes (AreOf (c ∷ cs))) (field_at (bit nulls k) (format_in bits c) b) _ (field_known (bit nulls k) (format_in bits c) b h)
    (λ first s. next (WithBytes (AreOf cs)) (WithBytes (AreOf (c ∷ cs))) (cells_at bits nulls (k + 1) cs first.1) _ (cells_known n table bits nulls (k + 1) cs first.1 t.1 s.1)
    (λ more m. given (WithBytes (AreOf (c ∷ cs))) (record { column = c.column; value = first.0 } ∷ more.0, more.1) (((refl, subst (λ (f : CellFormat). IsField f first.0) same s.0), m.0), m.1)))

pub image_known : (n : ℕ) (table : List ColumnView) (s : ImageShape) (b : List ℕ) → EachHolds (IsReadColumn n table) s.columns → AreBytes b → Gives (WithBytes (AreOf s.columns)) (image_at s b)
unfolding image_at
image_known n table s b t h =
    next (RestIsBytes {A = List ℕ}) (WithBytes (AreOf s.columns)) (shared_at s.json_columns b) _ (shared_gives s.json_columns b h)
    (λ bits r. next BothBytes (WithBytes (AreOf s.columns)) (at_width ((length s.columns + 7) / 8) bits.1) _ (width_gives ((length s.columns + 7) / 8) bits.1 r)
    (λ nulls q. cells_known n table bits.0 nulls.0 0 s.columns nulls.1 t q.1))

-- ---- their JSON
field_json : (c : ColumnView) (f : CellFormat) (v : CellValue) (x : List ℕ) → AreMembers c.members → IsField f v → IsCellJson c f v x → IsSoundCell f v
field_json c f v x a (inl e) j = subst (IsSoundCell f) (sym e) tt
field_json c f v x a (inr k) j = k.1

pub cells_shown : (n : ℕ) (table : List ColumnView) (columns : List ImageColumn) (values : List ColumnValue) (cells : List CellJson) → EachHolds (IsReadColumn n table) columns → AreOf columns values → AreCellsJson table columns values cells → EachHolds (IsCellShown n) cells
unfolding AreCellsJson
cells_shown n table [] [] [] t o a = tt
cells_shown n table [] [] (x ∷ xs) t o a = absurd a
cells_shown n table [] (v ∷ vs) cells t o a = absurd o
cells_shown n table (c ∷ cs) [] cells t o a = absurd o
cells_shown n table (c ∷ cs) (v ∷ vs) [] t o a = absurd a
cells_shown n table (c ∷ cs) (v ∷ vs) (x ∷ xs) t o a =
    let column = column_at table v.column in
    let members : AreMembers column.members = subst (λ (i : ℕ). AreMembers (column_at table i).members) (sym (o.0).0) (t.0).2 in
    let here : x.column ≡ c.column = a.0 ∙ (o.0).0 in (
      (omega (arith, here, (t.0).0), of_json x.json (cell_json (Unit {0}) column c.format v.value x.json (all_json column.members members.json) (field_json column c.format v.value x.json members (o.0).1 a.1) a.1)),
      cells_shown n table cs vs xs t.1 o.1 a.2,
    )

abbrev first : List ℕ → ℕ
first [] = 0
first (x ∷ xs) = x

-- ---- equal JSON
fields_read : (c : ColumnView) (f : CellFormat) (v w : CellValue) (x : List ℕ) → IsFormatOf c.shown f → AreMembers c.members → IsField f v → IsField f w → IsCellJson c f v x → IsCellJson c f w x → IsSameCell c.shown v w
unfolding IsCellJson
fields_read c f v w x p a (inl e) (inl g) i j = rw (e, g) equal
fields_read c f v w x p a (inl e) (inr k) i j = absurd (not_null c f w x p a k.0 j (ap first (subst (λ (u : CellValue). IsCellJson c f u x) e i)))
fields_read c f v w x p a (inr k) (inl e) i j = absurd (not_null c f v x p a k.0 i (ap first (subst (λ (u : CellValue). IsCellJson c f u x) e j)))
fields_read c f v w x p a (inr k) (inr l) i j = by_format c f v w x p a k.0 l.0 i j

pub same_values : (n : ℕ) (table : List ColumnView) (columns : List ImageColumn) (vs ws : List ColumnValue) (cells : List CellJson) → EachHolds (IsReadColumn n table) columns → AreOf columns vs → AreOf columns ws
    → AreCellsJson table columns vs cells → AreCellsJson table columns ws cells → AllZip (IsSameValue table) vs ws
unfolding AreCellsJson
same_values n table [] [] [] cells t o p a b = tt
same_values n table [] (v ∷ vs) ws cells t o p a b = absurd o
same_values n table [] [] (w ∷ ws) cells t o p a b = absurd p
same_values n table (c ∷ cs) [] ws cells t o p a b = absurd o
same_values n table (c ∷ cs) (v ∷ vs) [] cells t o p a b = absurd p
same_values n table (c ∷ cs) (v ∷ vs) (w ∷ ws) [] t o p a b = absurd a
same_values n table (c ∷ cs) (v ∷ vs) (w ∷ ws) (x ∷ xs) t o p a b =
    let column = column_at table v.column in
    let here : c.column ≡ v.column = sym (o.0).0 in
    let there : w.column ≡ v.column = (p.0).0 ∙ here in
    let told : IsFormatOf column.shown c.format × AreMembers column.members = subst (λ (i : ℕ). IsFormatOf (column_at table i).shown c.format × AreMembers (column_at table i).members) here ((t.0).1, (t.0).2) in
    let other : IsCellJson column c.format w.value x.json = subst (λ (i : ℕ). IsCellJson (column_at table i) c.format w.value x.json) there b.1 in
    ((sym there, fields_read column c.format v.value w.value x.json told.0 told.1 (o.0).1 (p.0).1 a.1 other), same_values n table cs vs ws xs t.1 o.1 p.1 a.2 b.2)

pub images_read : (options : TableOptions) (m : TableMap) (columns : List ColumnView) (s : ImageShape) (a b r q : List ℕ) (vs ws : List ColumnValue) (xs ys : List CellJson) (l k : List ℕ) → length m.column_types < 2 ^ 64
    → AllZip (IsColumn options) (column_parts m) columns → All (IsToldColumn (length m.column_types) columns) s.columns → AreBytes a → AreBytes b → image_at s a ≡ Ok (vs, r) → image_at s b ≡ Ok (ws, q)
    → AreCellsJson columns s.columns vs xs → AreCellsJson columns s.columns ws ys → object_json columns xs ++ l ≡ object_json columns ys ++ k → AllZip (IsSameValue columns) vs ws × (l ≡ k)
images_read options m columns s a b r q vs ws xs ys l k lt shown told h i read found j g e =
    let n = length m.column_types in
    let t = read_columns n columns s.columns (columns_shown options (column_parts m) columns shown) (each_of (IsToldColumn n columns) s.columns told) in
    let o = ((image_known n columns s a t h).each (vs, r) read).0 in
    let p = ((image_known n columns s b t i).each (ws, q) found).0 in
    let f = objects_read options m columns xs ys l k lt shown (all_of (IsCellShown n) xs (cells_shown n columns s.columns vs xs t o j)) (all_of (IsCellShown n) ys (cells_shown n columns s.columns ws ys t p g)) e in
    (same_values n columns s.columns vs ws xs t o p j (subst (AreCellsJson columns s.columns ws) (sym f.0) g), f.1)
