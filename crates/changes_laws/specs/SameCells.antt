-- Which values of a column have the same JSON, and what a line shows of a change.
use Rattle.std.specs.Prelude.{◌≡◌, ◌⊎◌, ◌<◌, ◌==◌, ◌||◌, ⊤, All, Bool, true, false, IsTrue, Option, Some, None, ℕ, List, [], ◌∷◌, length, map, from_bits, option_map}
use Rattle.std.specs.Float.{binary32, binary64}
use Rattle.byteorder.specs.Endian.{big_number}
use Rattle.wire_buf.specs.Encoding.{AreBytes}
use Rattle.events_frames.specs.Headers.{Header}
use Rattle.rows_cells.specs.CellValues.{CellValue, bytes, float, double}
use Rattle.rows_cells.specs.declared.format.CellFormat.{CellFormat}
use Rattle.rows_cells.specs.declared.format.CellFormat.TheVariants as format
use Rattle.rows_cells.specs.declared.format.Width.TheVariants as width
use Rattle.rows_cells.specs.Images.{ColumnValue, ImageShape}
use Rattle.rows_cells.specs.declared.image.ImageColumn.{ImageColumn}
use Rattle.rows_event_body.specs.declared.rows_event_type.RowImages.{RowImages}
use Rattle.feed_transactions.specs.MappedRows.{change_by}
use Rattle.changes_character_sets.specs.Texts.{IsTextOf}
use Rattle.changes_character_sets.specs.declared.character_set.CharacterSet.{CharacterSet}
use Rattle.changes_lines.specs.FactMembers.{TransactionFacts, place_text}
use Rattle.changes_lines.specs.RowJson.{CellJson, column_at}
use Rattle.changes_origins.specs.declared.added_members.AddedMembers.{AddedMembers}
use Rattle.changes_tables.specs.ShownColumns.{ColumnView}
use Rattle.changes_tables.specs.declared.columns.Shown.{Shown}
use Rattle.changes_tables.specs.declared.columns.Shown.TheVariants as shown
use Rattle.changes_laws.specs.JsonLines.{IsJsonValue}
use Rattle.changes_laws.specs.JsonNames.{AreDistinct}

-- equal values; floats that are equal, NaNs counted as one; bytes with the same text in the column's character set; the same bits of a BIT
pub data IsSameCell (s : Shown) : CellValue → CellValue → Type 0 where
  equal : {v : CellValue} → IsSameCell s v v
  floats : {a b : ℕ} → from_bits binary32 a ≡ from_bits binary32 b → IsSameCell s (float a) (float b)
  doubles : {a b : ℕ} → from_bits binary64 a ≡ from_bits binary64 b → IsSameCell s (double a) (double b)
  texts : {a b : List ℕ} (set : CharacterSet) (text : List ℕ) → s ≡ shown.Text set → IsTextOf set a text → IsTextOf set b text → IsSameCell s (bytes a) (bytes b)
  bits : {a b : List ℕ} → s ≡ shown.Bit → big_number (length a) a ≡ big_number (length b) b → IsSameCell s (bytes a) (bytes b)

-- what the lines of two changes of a table show before their rows: what happened, the time and the server, the GTID, the file and the position
pub record ShowsOrigin (a b : RowImages) (h k : Header) (gtid other file name : List ℕ) (position place : ℕ) : Type 0 where
  pub change : change_by a ≡ change_by b
  pub time : h.timestamp ≡ k.timestamp
  pub server : h.server_id ≡ k.server_id
  pub gtid_is : gtid ≡ other
  pub file_is : file ≡ name
  pub position_is : position ≡ place

-- what a line shows of its transaction besides: the members on request that are asked for
pub record ShowsFacts (a : AddedMembers) (f g : TransactionFacts) : Type 0 where
  pub begin : a.begin ≡ true → f.begin ≡ g.begin
  pub ts_ms : a.ts_ms ≡ true → f.ts_ms ≡ g.ts_ms
  pub xid : a.xid ≡ true → f.xid ≡ g.xid
  pub thread_id : a.thread_id ≡ true → f.thread_id ≡ g.thread_id
  pub resume : option_map place_text f.resume ≡ option_map place_text g.resume

-- what the line of a transaction shows before its changes: the time and the server, the GTID, the file and the position
pub record ShowsHead (h k : Header) (gtid other file name : List ℕ) (position place : ℕ) : Type 0 where
  pub time : h.timestamp ≡ k.timestamp
  pub server : h.server_id ≡ k.server_id
  pub gtid_is : gtid ≡ other
  pub file_is : file ≡ name
  pub position_is : position ≡ place

-- the bytes of a statement that changed rows, if there is one
abbrev pub AreQueryBytes : Option (List ℕ) → Type 0
AreQueryBytes None = ⊤
AreQueryBytes (Some q) = AreBytes q

-- a string or an object
abbrev pub begins_as_member : List ℕ → Bool
begins_as_member [] = false
begins_as_member (b ∷ bs) = b == 34 || b == 123

-- the members of an ENUM or a SET: strings and objects, all different
pub record AreMembers (members : List (List ℕ)) : Type 0 where
  pub json : All IsJsonValue members
  pub begin : All (λ m. IsTrue (begins_as_member m)) members
  pub distinct : AreDistinct members

-- numbers that aren't members, and no seconds
abbrev pub IsNumberAlone : Shown → Type 0
IsNumberAlone shown.Timestamp = ⊥
IsNumberAlone shown.Enum = ⊥
IsNumberAlone shown.Set = ⊥
IsNumberAlone _ = ⊤

-- no seconds
abbrev pub IsNoInstant : Shown → Type 0
IsNoInstant shown.Timestamp = ⊥
IsNoInstant _ = ⊤

-- bytes that aren't those of members
abbrev pub IsNoMember : Shown → Type 0
IsNoMember shown.Enum = ⊥
IsNoMember shown.Set = ⊥
IsNoMember _ = ⊤

-- the formats of the columns that are shown in a way; not that of JSON documents
abbrev pub IsFormatOf : Shown → CellFormat → Type 0
IsFormatOf s (format.Signed w) = IsNumberAlone s
IsFormatOf s (format.Unsigned width.Eight) = IsNoInstant s
IsFormatOf s (format.Plain n) = IsNoMember s
IsFormatOf s (format.Counted w) = IsNoMember s
IsFormatOf s format.Json = ⊥
IsFormatOf s format.JsonDiffs = ⊥
IsFormatOf s format.NoMetadata = ⊥
IsFormatOf s format.NoCells = ⊥
IsFormatOf s _ = ⊤

-- one of the n columns of a table, in an image: its cells are of a format as above, and its members have different JSON
abbrev pub IsToldColumn : ℕ → List ColumnView → ImageColumn → Type 0
IsToldColumn n table c = (c.column < n) × IsFormatOf (column_at table c.column).shown c.format × AreDistinct (column_at table c.column).members

-- the same value of the same column
abbrev pub IsSameValue : List ColumnView → ColumnValue → ColumnValue → Type 0
IsSameValue table v w = (v.column ≡ w.column) × IsSameCell (column_at table v.column).shown v.value w.value

-- ---- updates

-- a cell is one of these
abbrev pub IsAmong : CellJson → List CellJson → Type 0
IsAmong x [] = ⊥
IsAmong x (y ∷ ys) = (x ≡ y) ⊎ IsAmong x ys

-- all of these columns come after that one
abbrev pub AreLater : ℕ → List ℕ → Type 0
AreLater column [] = ⊤
AreLater column (c ∷ cs) = (column < c) × AreLater column cs

-- columns in ascending order, as those of an image are
abbrev pub AreAscending : List ℕ → Type 0
AreAscending [] = ⊤
AreAscending (c ∷ cs) = AreLater c cs × AreAscending cs

-- the columns of cells
abbrev pub columns_of : List CellJson → List ℕ
columns_of cells = map (λ (x : CellJson). x.column) cells

-- the columns of an image
abbrev pub image_columns : ImageShape → List ℕ
image_columns s = map (λ (c : ImageColumn). c.column) s.columns

-- the image after an update has the cell's column, with other JSON
pub record IsChanged (after : List CellJson) (x : CellJson) : Type 0 where
  pub later : CellJson
  pub among : IsAmong later after
  pub column : x.column ≡ later.column
  pub other : x.json ≡ later.json → ⊥

-- the image after an update doesn't have the cell's column
abbrev pub IsUnset : List CellJson → CellJson → Type 0
IsUnset after x = (y : CellJson) → IsAmong y after → x.column ≡ y.column → ⊥
