-- Cells of bytes have values whose numbers have few digits and whose texts are bytes; decimals and years are plain texts.
use Rattle.std.proofs.Common.{◌≡◌, ℕ, zero, suc, ◌+◌, ◌<◌, ◌^◌, ◌/◌, ◌%◌, Bool, true, false, List, [], ◌∷◌, Option, Some, None, refl, arith, take, drop, length}
use Rattle.std.specs.Prelude.{pos, slice_index, if◌then◌else◌, nat_lt, nat_le, ◌==◌}
use Rattle.std.specs.declared.result.Result.TheVariants.{Ok, Err}
use Rattle.std.specs.Fmt.{decimal}
use Rattle.std.specs.List.{AllZip}
use lib.Signed.{mag}
use Rattle.byteorder.specs.Endian.{little_number}
use Rattle.wire_buf.specs.Encoding.{AreBytes}
use Rattle.wire_buf.specs.Numbers.{little_signed}
use Rattle.wire_buf.specs.LenencSplit.{split_lenenc, split_number}
use Rattle.rows_errors.specs.Readings.{Reading}
use Rattle.rows_errors.specs.declared.fault.RowsError.{RowsError}
use Rattle.rows_errors.specs.declared.fault.RowsError.TheVariants.{EndOfBody, Metadata, Cell, Decimal as BadDecimal, EmptyPair}
use Rattle.rows_values.specs.Decimals.{DecimalParts, normalized}
use Rattle.rows_values.specs.PackedTimes.{fraction_len, time2, datetime2, timestamp2}
use Rattle.rows_values.specs.PrintedDecimals.{decimal_text}
use Rattle.rows_values.specs.Unpacked.{optional_text, unpacked}
use Rattle.rows_values.proofs.UnpackedLemmas.{take_bytes, drop_bytes}
use Rattle.rows_jsonb.specs.Items.{walk, found_by, items_at}
use Rattle.rows_jsonb.specs.JsonbValues.{document}
use Rattle.rows_jsonb.specs.JsonDiffs.{diff_at}
use Rattle.rows_cells.specs.declared.format.Width.{Width}
use Rattle.rows_cells.specs.declared.format.Width.TheVariants as width
use Rattle.rows_cells.specs.declared.format.CellFormat.{CellFormat}
use Rattle.rows_cells.specs.declared.format.CellFormat.TheVariants as format
use Rattle.rows_cells.specs.declared.image.ImageColumn.{ImageColumn}
use Rattle.rows_cells.specs.CellFields.{at_width}
use Rattle.rows_cells.specs.CellSizes.{Size, exactly, after_length, unreadable, cell_size, width_bytes}
use Rattle.rows_cells.specs.CellValues.{CellValue, null, bytes, int, uint, float, double, date, time, json, json_diffs, cell_date, cell_time, new_date, old_datetime, old_time, timestamp_text, decimal_value, unless, content_value}
use Rattle.rows_cells.specs.Cells.{content_at, cell_at}
use Rattle.rows_cells.specs.ColumnFormats.{format_by}
use Rattle.rows_cells.specs.EventRows.{images_at, row_at}
use Rattle.rows_cells.specs.Images.{ColumnValue, ImageShape, bit, format_in, field_at, cells_at, bits_at, shared_at, image_at, lenenc_of, lenenc_at, lenenc_error}
use Rattle.changes_laws.proofs.PlainGrammarLemmas.{Plain}
use Rattle.changes_laws.proofs.DocumentGrammarLemmas.{decimal_text_plain}
use Rattle.changes_laws.proofs.ReadingGives.{Gives, given, fails, either, next, little_below, signed_below, RestAreBytes}
use Rattle.changes_laws.proofs.SoundDocumentLemmas.{HasDigits, unpacked_digits, normalized_digits}

-- the text of a decimal is plain, that of a YEAR is of a byte, other texts are bytes
abbrev pub IsSoundBytes : CellFormat → List ℕ → Type 0
IsSoundBytes (format.Decimal precision scale) b = Plain b
IsSoundBytes format.Year b = (n : ℕ) × (n < 256) × (b ≡ decimal (1900 + n))
IsSoundBytes (format.Timestamp2 digits) b = Unit {0}
IsSoundBytes _ b = AreBytes b

abbrev pub IsSoundCell : CellFormat → CellValue → Type 0
IsSoundCell f (bytes b) = IsSoundBytes f b
IsSoundCell f (int z) = mag z < 10 ^ 63
IsSoundCell f (uint n) = n < 10 ^ 64
IsSoundCell f (json b) = AreBytes b
IsSoundCell f (json_diffs b) = AreBytes b
IsSoundCell f _ = Unit {0}

signed_sound : (w : Width) (b : List ℕ) → AreBytes b → mag (little_signed (width_bytes w) b) < 10 ^ 63
signed_sound width.One b h = omega (arith, signed_below 1 b h)
signed_sound width.Two b h = omega (arith, signed_below 2 b h)
signed_sound width.Three b h = omega (arith, signed_below 3 b h)
signed_sound width.Four b h = omega (arith, signed_below 4 b h)
signed_sound width.Eight b h = omega (arith, signed_below 8 b h)

decimal_sound : (o : Option DecimalParts) → HasDigits o → (precision scale : ℕ) → Gives (IsSoundCell (format.Decimal precision scale)) (decimal_value (optional_text o))
decimal_sound None h p s = fails (IsSoundCell (format.Decimal p s)) BadDecimal
decimal_sound (Some v) h p s =
    let d = normalized_digits v h.0 h.1 in
    given (IsSoundCell (format.Decimal p s)) (bytes (decimal_text (normalized false v))) (decimal_text_plain (normalized false v) d.0 d.1)

unless_sound : (f : CellFormat) (o : Option RowsError) (v : CellValue) → IsSoundCell f v → Gives (IsSoundCell f) (unless o v)
unless_sound f None v h = given (IsSoundCell f) v h
unless_sound f (Some e) v h = fails (IsSoundCell f) e

content_sound : (f : CellFormat) (b : List ℕ) → AreBytes b → Gives (IsSoundCell f) (content_value f b)
content_sound (format.Signed w) b h = given (IsSoundCell (format.Signed w)) (int (little_signed (width_bytes w) b)) (signed_sound w b h)
content_sound (format.Unsigned width.Eight) b h = given (IsSoundCell (format.Unsigned width.Eight)) (uint (little_number 8 b)) (omega (arith, little_below 8 b h))
content_sound (format.Unsigned width.One) b h = given (IsSoundCell (format.Unsigned width.One)) (int (pos (little_number 1 b))) (omega (arith, little_below 1 b h))
content_sound (format.Unsigned width.Two) b h = given (IsSoundCell (format.Unsigned width.Two)) (int (pos (little_number 2 b))) (omega (arith, little_below 2 b h))
content_sound (format.Unsigned width.Three) b h = given (IsSoundCell (format.Unsigned width.Three)) (int (pos (little_number 3 b))) (omega (arith, little_below 3 b h))
content_sound (format.Unsigned width.Four) b h = given (IsSoundCell (format.Unsigned width.Four)) (int (pos (little_number 4 b))) (omega (arith, little_below 4 b h))
content_sound format.Float b h = given (IsSoundCell format.Float) (float (little_number 4 b)) tt
content_sound format.Double b h = given (IsSoundCell format.Double) (double (little_number 8 b)) tt
content_sound format.Year b h = given (IsSoundCell format.Year) (bytes (decimal (1900 + slice_index b 0))) (slice_index b 0, h 0, refl)
content_sound format.NewDate b h = given (IsSoundCell format.NewDate) (new_date (little_number 3 b)) tt
content_sound format.OldTime b h = given (IsSoundCell format.OldTime) (old_time (little_signed 3 b)) tt
content_sound format.OldDatetime b h = given (IsSoundCell format.OldDatetime) (old_datetime (little_number 8 b)) tt
content_sound (format.Timestamp2 digits) b h = given (IsSoundCell (format.Timestamp2 digits)) (bytes (timestamp_text (timestamp2 (fraction_len digits) b))) tt
content_sound (format.Datetime2 digits) b h = given (IsSoundCell (format.Datetime2 digits)) (cell_date (datetime2 (fraction_len digits) b)) tt
content_sound (format.Time2 digits) b h = given (IsSoundCell (format.Time2 digits)) (cell_time (time2 (fraction_len digits) b)) tt
content_sound (format.Decimal precision scale) b h = decimal_sound (unpacked precision scale b) (unpacked_digits precision scale b h) precision scale
content_sound (format.Plain n) b h = given (IsSoundCell (format.Plain n)) (bytes b) h
content_sound (format.Counted w) b h = given (IsSoundCell (format.Counted w)) (bytes b) h
content_sound format.Json b h = next (λ v. Unit {0}) (IsSoundCell format.Json) (document b) (λ v. Ok (json b)) (record { each = λ v e. tt }) (λ v u. given (IsSoundCell format.Json) (json b) h)
content_sound format.JsonDiffs b h = unless_sound format.JsonDiffs (items_at diff_at b).fault (json_diffs b) h
content_sound format.NoMetadata b h = fails (IsSoundCell format.NoMetadata) Metadata
content_sound format.NoCells b h = fails (IsSoundCell format.NoCells) Cell

-- ---- reading
abbrev pub BothBytes : List ℕ × List ℕ → Type 0
BothBytes p = AreBytes p.0 × AreBytes p.1

pub width_gives : (n : ℕ) (b : List ℕ) → AreBytes b → Gives BothBytes (at_width n b)
width_gives n b h = either BothBytes (nat_le n (length b)) (Ok (take n b, drop n b)) (Err EndOfBody) (given BothBytes (take n b, drop n b) (take_bytes n b h, drop_bytes n b h)) (fails BothBytes EndOfBody)

pub size_gives : (s : Size) (b : List ℕ) → AreBytes b → Gives BothBytes (content_at s b)
size_gives (exactly n) b h = width_gives n b h
size_gives (after_length w) b h = next BothBytes BothBytes (at_width w b) (λ size. at_width (little_number w size.0) size.1) (width_gives w b h) (λ p q. width_gives (little_number w p.0) p.1 q.1)
size_gives (unreadable e) b h = fails BothBytes e

-- a value, and the bytes after it
abbrev pub WithBytes : {A : Type 0} → (A → Type 0) → A × List ℕ → Type 0
WithBytes Holds x = Holds x.0 × AreBytes x.1

pub cell_gives : (f : CellFormat) (b : List ℕ) → AreBytes b → Gives (WithBytes (IsSoundCell f)) (cell_at f b)
unfolding cell_at
cell_gives f b h =
    next BothBytes (WithBytes (IsSoundCell f)) (content_at (cell_size f) b) _ (size_gives (cell_size f) b h)
    (λ p q. next (IsSoundCell f) (WithBytes (IsSoundCell f)) (content_value f p.0) _ (content_sound f p.0 q.0) (λ v s. given (WithBytes (IsSoundCell f)) (v, p.1) (s, q.1)))

pub field_gives : (is_null : Bool) (f : CellFormat) (b : List ℕ) → AreBytes b → Gives (WithBytes (IsSoundCell f)) (field_at is_null f b)
field_gives true f b h = given (WithBytes (IsSoundCell f)) (null, b) (tt, h)
field_gives false f b h = cell_gives f b h

-- ---- diffs of a column are bytes, as its documents are
by_bytes : (p : Bool) (f : CellFormat) (b : List ℕ) → IsSoundBytes (format_by p f) b → IsSoundBytes f b
by_bytes true format.Json b h = h
by_bytes true _ b h = h
by_bytes false f b h = h

by_format : (p : Bool) (f : CellFormat) (v : CellValue) → IsSoundCell (format_by p f) v → IsSoundCell f v
by_format p f null h = h
by_format p f (bytes b) h = by_bytes p f b h
by_format p f (int z) h = h
by_format p f (uint n) h = h
by_format p f (float n) h = h
by_format p f (double n) h = h
by_format p f (date y m d hour minute second micros) h = h
by_format p f (time negative days hours minutes seconds micros) h = h
by_format p f (json b) h = h
by_format p f (json_diffs b) h = h

-- ---- images and rows
-- the value of a column
abbrev pub IsOfColumn : ImageColumn → ColumnValue → Type 0
IsOfColumn c v = (v.column ≡ c.column) × IsSoundCell c.format v.value

abbrev pub AreSoundCells : List ImageColumn → List ColumnValue → Type 0
AreSoundCells columns values = AllZip IsOfColumn columns values

cells_give : (bits nulls : List ℕ) (k : ℕ) (columns : List ImageColumn) (b : List ℕ) → AreBytes b → Gives (WithBytes (AreSoundCells columns)) (cells_at bits nulls k columns b)
unfolding cells_at
cells_give bits nulls k [] b h = given (WithBytes (AreSoundCells [])) ([], b) (tt, h)
cells_give bits nulls k (c ∷ cs) b h =
    let partial = bit bits c.json_column in
    next (WithBytes (IsSoundCell (format_in bits c))) (WithBytes (AreSoundCells (c ∷ cs))) (field_at (bit nulls k) (format_in bits c) b) _ (field_gives (bit nulls k) (format_in bits c) b h)
    (λ first s. next (WithBytes (AreSoundCells cs)) (WithBytes (AreSoundCells (c ∷ cs))) (cells_at bits nulls (k + 1) cs first.1) _ (cells_give bits nulls (k + 1) cs first.1 s.1)
    (λ more m. given (WithBytes (AreSoundCells (c ∷ cs))) (record { column = c.column; value = first.0 } ∷ more.0, more.1) (((refl, by_format partial c.format first.0 s.0), m.0), m.1)))

abbrev pub RestIsBytes : {A : Type 0} → A × List ℕ → Type 0
RestIsBytes x = AreBytes x.1

number_rest : (n : ℕ) (r : List ℕ) → AreBytes r → RestAreBytes (split_number n r)
unfolding split_number
number_rest n r h = go (nat_le n (length r))
  where
    go : (t : Bool) → RestAreBytes (if t then Some (little_number n r, drop n r) else None)
    go true = drop_bytes n r h
    go false = tt

pub lenenc_rest : (b : List ℕ) → AreBytes b → RestAreBytes (split_lenenc b)
unfolding split_lenenc
lenenc_rest [] h = tt
lenenc_rest (b ∷ r) h = go (nat_le b 250) (b == 252) (b == 253) (b == 254)
  where
    rest : AreBytes r
    rest i = h (suc i)

    go : (s t u v : Bool) → RestAreBytes (if s then Some (b, r) else if t then split_number 2 r else if u then split_number 3 r else if v then split_number 8 r else None)
    go true t u v = rest
    go false true u v = number_rest 2 r rest
    go false false true v = number_rest 3 r rest
    go false false false true = number_rest 8 r rest
    go false false false false = tt

lenenc_gives : (b : List ℕ) → AreBytes b → Gives (RestIsBytes {A = ℕ}) (lenenc_at b)
unfolding lenenc_at
lenenc_gives b h = go (split_lenenc b) (lenenc_rest b h)
  where
    go : (o : Option (ℕ × List ℕ)) → RestAreBytes o → Gives (RestIsBytes {A = ℕ}) (lenenc_of b o)
    go None r = fails (RestIsBytes {A = ℕ}) (lenenc_error b)
    go (Some x) r = given (RestIsBytes {A = ℕ}) x r

pub shared_gives : (j : Option ℕ) (b : List ℕ) → AreBytes b → Gives (RestIsBytes {A = List ℕ}) (shared_at j b)
shared_gives None b h = given (RestIsBytes {A = List ℕ}) ([], b) h
shared_gives (Some j) b h = next (RestIsBytes {A = ℕ}) (RestIsBytes {A = List ℕ}) (lenenc_at b) (bits_at j) (lenenc_gives b h)
    (λ options o. either (RestIsBytes {A = List ℕ}) (options.0 % 2 == 1) (at_width ((j + 7) / 8) options.1) (Ok ([], options.1)) (record { each = λ x e. ((width_gives ((j + 7) / 8) options.1 o).each x e).1 }) (given (RestIsBytes {A = List ℕ}) ([], options.1) o))

pub image_gives : (s : ImageShape) (b : List ℕ) → AreBytes b → Gives (WithBytes (AreSoundCells s.columns)) (image_at s b)
unfolding image_at
image_gives s b h =
    next (RestIsBytes {A = List ℕ}) (WithBytes (AreSoundCells s.columns)) (shared_at s.json_columns b) _ (shared_gives s.json_columns b h)
    (λ bits r. next BothBytes (WithBytes (AreSoundCells s.columns)) (at_width ((length s.columns + 7) / 8) bits.1) _ (width_gives ((length s.columns + 7) / 8) bits.1 r)
    (λ nulls q. cells_give bits.0 nulls.0 0 s.columns nulls.1 q.1))

abbrev pub AreSoundImages : List ImageShape → List (List ColumnValue) → Type 0
AreSoundImages shapes images = AllZip (λ (s : ImageShape) (vs : List ColumnValue). AreSoundCells s.columns vs) shapes images

images_give : (shapes : List ImageShape) (b : List ℕ) → AreBytes b → Gives (WithBytes (AreSoundImages shapes)) (images_at shapes b)
unfolding images_at
images_give [] b h = given (WithBytes (AreSoundImages [])) ([], b) (tt, h)
images_give (s ∷ ss) b h =
    next (WithBytes (AreSoundCells s.columns)) (WithBytes (AreSoundImages (s ∷ ss))) (image_at s b) _ (image_gives s b h)
    (λ first p. next (WithBytes (AreSoundImages ss)) (WithBytes (AreSoundImages (s ∷ ss))) (images_at ss first.1) _ (images_give ss first.1 p.1)
    (λ more q. given (WithBytes (AreSoundImages (s ∷ ss))) (first.0 ∷ more.0, more.1) ((p.0, q.0), q.1)))

pub row_gives : (shapes : List ImageShape) (b : List ℕ) → AreBytes b → Gives (WithBytes (AreSoundImages shapes)) (row_at shapes b)
unfolding row_at
row_gives shapes b h =
    next (WithBytes (AreSoundImages shapes)) (WithBytes (AreSoundImages shapes)) (images_at shapes b) _ (images_give shapes b h)
    (λ x p. either (WithBytes (AreSoundImages shapes)) (nat_lt (length x.1) (length b)) (Ok x) (Err EmptyPair) (given (WithBytes (AreSoundImages shapes)) x p) (fails (WithBytes (AreSoundImages shapes)) EmptyPair))

-- ---- consecutive items
abbrev pub EachHolds : {A : Type 0} → (A → Type 0) → List A → Type 0
EachHolds Holds [] = Unit {0}
EachHolds Holds (x ∷ xs) = Holds x × EachHolds Holds xs

pub walk_holds : {A : Type 0} (Holds : A → Type 0) (item_at : List ℕ → Reading (A × List ℕ)) → ((b : List ℕ) → AreBytes b → Gives (WithBytes Holds) (item_at b)) → (n : ℕ) (b : List ℕ) → AreBytes b → EachHolds Holds (walk item_at n b).items
unfolding walk
walk_holds Holds item_at gives zero b h = tt
walk_holds {A} Holds item_at gives (suc n) b h = go (length b == 0) (item_at b) refl (λ rest r. walk_holds Holds item_at gives n rest r)
  where
    found : (o : Reading (A × List ℕ)) → item_at b ≡ o → ((rest : List ℕ) → AreBytes rest → EachHolds Holds (walk item_at n rest).items) → EachHolds Holds (found_by o (λ rest. walk item_at n rest)).items
    found (Ok x) e more = let p = (gives b h).each x e in (p.0, more x.1 p.1)
    found (Err f) e more = tt

    go : (t : Bool) (o : Reading (A × List ℕ)) → item_at b ≡ o → ((rest : List ℕ) → AreBytes rest → EachHolds Holds (walk item_at n rest).items)
        → EachHolds Holds (if t then record { items = []; fault = None } else found_by (item_at b) (λ rest. walk item_at n rest)).items
    go true o e more = tt
    go false o e more = found (item_at b) refl more
