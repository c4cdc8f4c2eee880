-- The rows of an event, each with its line.
use Rattle.std.proofs.Common.{◌≡◌, ◌<◌, ◌≤◌, ℕ, zero, suc, ◌+◌, Bool, true, false, true≢false, List, [], ◌∷◌, ◌++◌, length, Ok, refl, sym, ap, ◌∙◌, append_assoc, arith}
use Rattle.std.proofs.lemmas.List.{append-nil}
use Rattle.rows_cells.specs.EventRows.{row_at}
use Rattle.rows_cells.specs.Images.{ColumnValue, ImageShape}
use Rattle.rows_cells.specs.RowViews.{IsBetweenRows, row_shape}
use Rattle.rows_cells.specs.declared.rows.RowsCursor.{RowsCursor}
use Rattle.rows_cells.proofs.RowLemmas.{row-shrinks}
use Rattle.rows_jsonb.specs.Items.{walk}
use Rattle.rows_jsonb.proofs.ItemLemmas.{walk_on, walk_done}
use Rattle.rows_table_map.specs.TableMaps.{TableMap}
use Rattle.rows_event_body.specs.EventShapes.{event_shapes}
use Rattle.rows_event_body.specs.RowsEvents.{RowsBody}
use Rattle.feed_text.specs.Buffers.{text_in}
use Rattle.feed_transactions.specs.CheckedRows.{rows_count}
use Rattle.feed_transactions.specs.MappedRows.{plan_by}
use Rattle.changes_statements.specs.ReadRows.{ReadsNext, ReadsRow}
use Rattle.changes_formats.specs.FormatLineTexts.{AddsLines, GoesOn, rows_by, rows_in}
use Rattle.changes_formats.specs.declared.lines.LineText.{LineText}

-- ---- texts that go on
pub goes_on_by : (old mid new end line : List ℕ) → mid ≡ old ++ end → new ≡ mid ++ line → GoesOn old new
goes_on_by old mid new end line e is = record { more = end ++ line; is = is ∙ ap (λ (t : List ℕ). t ++ line) e ∙ append_assoc old end line }

goes_on_more : (a b c : List ℕ) → GoesOn a b → GoesOn b c → GoesOn a c
goes_on_more a b c g h = goes_on_by a b c g.more h.more g.is h.is

pub no_lines : (s : LineText) → AddsLines 0 s s
no_lines s = record { text = record { more = []; is = sym (append-nil (text_in s.text)) }; rows = omega arith; format = refl }

pub line_more : (n m : ℕ) (old now new : LineText) → m ≡ n + 1 → AddsLines n old now → AddsLines 1 now new → AddsLines m old new
line_more n m old now new e g h =
    let first = g.rows in
    let second = h.rows in
    record { text = goes_on_more (text_in old.text) (text_in now.text) (text_in new.text) g.text h.text; rows = omega (arith, e, first, second); format = h.format ∙ g.format }

-- ---- rows that were read
-- so many rows were read before the rest
pub record CountedSoFar (shapes : List ImageShape) (bytes rest : List ℕ) (n : ℕ) : Type 0 where
  pub steps : ℕ
  pub enough : length rest ≤ steps
  pub counted : rows_count shapes bytes ≡ n + length (walk (row_at shapes) steps rest).items

none_counted : (shapes : List ImageShape) (bytes : List ℕ) → CountedSoFar shapes bytes bytes 0
none_counted shapes bytes = record { steps = length bytes; enough = omega arith; counted = omega arith }

all_counted : (shapes : List ImageShape) (bytes rest : List ℕ) (n : ℕ) → length rest ≡ 0 → CountedSoFar shapes bytes rest n → n ≡ rows_count shapes bytes
all_counted shapes bytes [] n none c =
    let last = ap (λ w. length w.items) (walk_done (row_at shapes) c.steps) in
    let counted = c.counted in
    omega (arith, counted, last)
all_counted shapes bytes (b ∷ rest) n none c = absurd (omega (arith, none))

row_counted : (shapes : List ImageShape) (bytes rest after : List ℕ) (row : List (List ColumnValue)) (n m : ℕ) → m ≡ n + 1 → row_at shapes rest ≡ Ok (row, after) → CountedSoFar shapes bytes rest n → CountedSoFar shapes bytes after m
row_counted shapes bytes rest after row n m more read c = on c.steps c.enough c.counted
  where
    less : length after < length rest
    less = row-shrinks shapes rest row after read

    on : (k : ℕ) → length rest ≤ k → rows_count shapes bytes ≡ n + length (walk (row_at shapes) k rest).items → CountedSoFar shapes bytes after m
    on zero le counted = absurd (omega (arith, le, less))
    on (suc k) le counted =
        let next = ap (λ w. length w.items) (walk_on (row_at shapes) k rest (Ok (row, after)) (omega (arith, less)) le read) in
        record { steps = k; enough = omega (arith, less, le); counted = omega (arith, counted, next, more) }

-- so many rows of the bytes were read, of a plan
pub record ReadSoFar (shapes : List ImageShape) (bytes : List ℕ) (cursor : RowsCursor) (n : ℕ) : Type 0 where
  pub rest : List ℕ
  pub between : IsBetweenRows cursor rest
  pub plan : row_shape cursor.plan ≡ shapes
  pub counted : CountedSoFar shapes bytes rest n

pub none_read : (cursor : RowsCursor) (bytes : List ℕ) → IsBetweenRows cursor bytes → ReadSoFar (row_shape cursor.plan) bytes cursor 0
none_read cursor bytes h = record { rest = bytes; between = h; plan = refl; counted = none_counted (row_shape cursor.plan) bytes }

pub one_read : (shapes : List ImageShape) (bytes : List ℕ) (old new : RowsCursor) (n m : ℕ) → m ≡ n + 1 → (h : ReadSoFar shapes bytes old n) → ReadsRow h.rest old new → ReadSoFar shapes bytes new m
one_read shapes bytes old new n m more h r = record {
  rest = r.rest;
  between = r.after;
  plan = ap row_shape r.plan ∙ h.plan;
  counted = row_counted shapes bytes h.rest r.rest r.row n m more (ap (λ s. row_at s h.rest) (sym h.plan) ∙ r.read) h.counted;
}

pub all_read : (shapes : List ImageShape) (bytes : List ℕ) (cursor : RowsCursor) (n : ℕ) → (h : ReadSoFar shapes bytes cursor n) → h.rest ≡ [] → n ≡ rows_count shapes bytes
all_read shapes bytes cursor n h none = all_counted shapes bytes h.rest n (ap length none) h.counted

-- the rows of an event
pub rows_are : (m : TableMap) (r : RowsBody) (shapes : List ImageShape) (n : ℕ) → event_shapes r (plan_by m) ≡ Ok shapes → n ≡ rows_count shapes r.rows_data → n ≡ rows_in m r
rows_are m r shapes n e h = h ∙ ap (λ s. rows_by s r.rows_data) (sym e)

none_left : (bytes : List ℕ) (old new : RowsCursor) (found : Bool) → found ≡ false → ReadsNext bytes old found new → bytes ≡ []
none_left bytes old new true e h = absurd (true≢false e)
none_left bytes old new false e h = h.0

one_left : (bytes : List ℕ) (old new : RowsCursor) (found : Bool) → found ≡ true → ReadsNext bytes old found new → ReadsRow bytes old new
one_left bytes old new true e h = h
one_left bytes old new false e h = absurd (true≢false (sym e))

-- no row was left: so many rows has the event
pub all_rows : (m : TableMap) (r : RowsBody) (first old new : RowsCursor) (found : Bool) (n : ℕ) → event_shapes r (plan_by m) ≡ Ok (row_shape first.plan) → ReadSoFar (row_shape first.plan) r.rows_data old n → found ≡ false → ((bytes : List ℕ) → IsBetweenRows old bytes → ReadsNext bytes old found new) → n ≡ rows_in m r
all_rows m r first old new found n shapes h none next = rows_are m r (row_shape first.plan) n shapes (all_read (row_shape first.plan) r.rows_data old n h (none_left h.rest old new found none (next h.rest h.between)))

-- a row was read
pub row_more : (shapes : List ImageShape) (bytes : List ℕ) (old new : RowsCursor) (found : Bool) (n : ℕ) → ReadSoFar shapes bytes old n → found ≡ true → ((rest : List ℕ) → IsBetweenRows old rest → ReadsNext rest old found new) → ReadSoFar shapes bytes new (n + 1)
row_more shapes bytes old new found n h is next = one_read shapes bytes old new n (n + 1) refl h (one_left h.rest old new found is (next h.rest h.between))
