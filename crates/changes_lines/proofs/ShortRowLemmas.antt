-- Rows of one image whose cells are all short.
use Rattle.std.proofs.Common.{◌≡◌, ◌≤◌, ◌<◌, ◌+◌, ◌*◌, ℕ, List, [], ◌∷◌, ◌++◌, length, take, refl, sym, ap, ◌∙◌, append_assoc, arith}
use Rattle.std.proofs.lemmas.List.{append-nil, length-append, length-drop, length-take, length-take-le, take-append-le, take-take}
use Rattle.rows_cells.specs.Images.{ColumnValue, ImageShape, image_at}
use Rattle.rows_cells.specs.declared.image.ImageColumn.{ImageColumn}
use Rattle.rows_cells.specs.ImageViews.{remaining_cells, columns_left, cells_count, next_column, IsNextField, HasNextFormat, SkipsField}
use Rattle.rows_cells.specs.declared.image.ImageCells.{ImageCells}
use Rattle.rows_cells.specs.declared.image.ImageField.{ImageField}
use Rattle.feed_text.specs.DocumentForms.{AppendsOne}
use Rattle.changes_tables.specs.ShownColumns.{ColumnView}
use Rattle.changes_cells.specs.FieldJson.{WritesCell}
use Rattle.changes_lines.specs.ReadRows.{ReadsRow}
use Rattle.changes_lines.specs.TextLists.{ended}
use Rattle.changes_lines.specs.RowJson.{CellJson, AreCellsJson, column_at, member_json, members_json, object_json}
use Rattle.changes_lines.specs.declared.members.Separator.TheVariants as brace
use Rattle.changes_lines.specs.ReadCells.{GivesJson, separator_after, separator_byte}
use Rattle.changes_lines.proofs.CellJsonLemmas.{members_both, members_one, separator_both}
use Rattle.changes_lines.specs.ShortMembers.{WritesMembers}
use Rattle.changes_lines.proofs.ReadCellLemmas.{gives_none, gives_both, gives_field, image_read}
use Rattle.changes_lines.proofs.ReadRowLemmas.{one_reads}

-- the members of some cells were written, and there is room for the others
pub record WritesSoFar (t : List ColumnView) (old left : ImageCells) (s : ℕ) (at : ℕ) (before after : List ℕ) (end : ℕ) : Type 0 where
  pub json : List CellJson
  pub gives : GivesJson t old left json
  pub from : at ≤ end
  pub room : end + 433 * cells_count left ≤ length after
  pub most : end + 433 * cells_count left ≤ at + 433 * cells_count old
  pub separator : s ≡ separator_byte (separator_after brace.Brace json)
  pub written : take end after ≡ take at before ++ members_json t json

pub none_so_far : (t : List ColumnView) (c : ImageCells) (at : ℕ) (before : List ℕ) → at + 433 * cells_count c ≤ length before → WritesSoFar t c c 123 at before before at
none_so_far t c at before room = record { json = []; gives = gives_none t c; from = omega arith; room = room; most = omega arith; separator = refl; written = sym (append-nil (take at before)) }

-- what is before the members is unchanged
pub before_members : (t : List ColumnView) (old left : ImageCells) (s : ℕ) (at : ℕ) (before after : List ℕ) (end : ℕ) → at ≤ length before → WritesSoFar t old left s at before after end → take at after ≡ take at before
before_members t old left s at before after end within w =
    sym (take-take at end after w.from)
    ∙ ap (take at) w.written
    ∙ take-append-le at (take at before) (members_json t w.json) (let n = length-take-le at before within in omega (arith, n))
    ∙ take-take at at before (omega arith)

-- the same after a separator, a label, and what was tried after it
pub before_label : (t : List ColumnView) (old left : ImageCells) (s : ℕ) (at : ℕ) (before one two three more : List ℕ) (end start : ℕ) → at ≤ length before → WritesSoFar t old left s at before one end → end ≤ start → take start two ≡ take end one ++ more → take start three ≡ take start two
    → take at three ≡ take at before
before_label t old left s at before one two three more end start within w le label kept =
    let from = w.from in
    let room = w.room in
    sym (take-take at start three (omega (arith, from, le)))
    ∙ ap (take at) (kept ∙ label)
    ∙ take-append-le at (take end one) more (let n = length-take-le end one (omega (arith, room)) in omega (arith, n, from))
    ∙ take-take at end one from
    ∙ before_members t old left s at before one end within w

-- an offset after a text isn't before that at its start
further : (start end : ℕ) (two three text : List ℕ) → take end three ≡ take start two ++ text → start ≤ length two → start ≤ end
further start end two three text is within =
    let long = length-take-le start two within in
    let sum = length-append (take start two) text in
    let same = ap length is in
    let most = length-take end three in
    omega (arith, long, sum, same, most)

-- one more member
pub member_so_far : (t : List ColumnView) (first old new : ImageCells) (s : ℕ) (at : ℕ) (before one two three : List ℕ) (end start after : ℕ) (f : ImageField) (rest : List ℕ) → WritesSoFar t first old s at before one end → IsNextField old f → HasNextFormat old f → start ≤ end + 33
    → take start two ≡ take end one ++ (s ∷ (column_at t f.column).key) → WritesCell (column_at t f.column) f.is_null f.format f.bytes.now start two three after rest → SkipsField old rest new → columns_left old ≡ next_column old ∷ columns_left new
    → end ≤ start → length two ≡ length one → length three ≡ length one → WritesSoFar t first new 44 at before three after
member_so_far t first old new s at before one two three end start after f rest w n format most label cell skips columns le alike same =
    let x : CellJson = record { column = f.column; json = cell.text.text } in
    let from = w.from in
    let room = w.room in
    let all = w.most in
    let one_less = skips.1 in
    let end_most = cell.text.most in
    let on : start ≤ after = further start after two three cell.text.text cell.text.written (omega (arith, room, most, one_less, alike)) in
    record {
      json = w.json ++ x ∷ [];
      gives = gives_both t first old new w.json (x ∷ []) w.gives (gives_field t old new f cell.value cell.text.text rest n format cell.read cell.text.such skips columns);
      from = omega (arith, from, le, on);
      room = omega (arith, room, one_less, most, end_most, same);
      most = omega (arith, all, one_less, most, end_most);
      separator = rw (separator_both brace.Brace w.json (x ∷ [])) refl;
      written =
          cell.text.written
          ∙ ap (λ (l : List ℕ). l ++ cell.text.text) (label ∙ ap (λ (l : List ℕ). l ++ (s ∷ (column_at t f.column).key)) w.written)
          ∙ append_assoc (take at before ++ members_json t w.json) (s ∷ (column_at t f.column).key) cell.text.text
          ∙ append_assoc (take at before) (members_json t w.json) (s ∷ member_json t x)
          ∙ ap (λ (k : ℕ). take at before ++ (members_json t w.json ++ (k ∷ member_json t x))) w.separator
          ∙ ap (λ (l : List ℕ). take at before ++ (members_json t w.json ++ l)) (sym (members_one t (separator_after brace.Brace w.json) x))
          ∙ ap (λ (l : List ℕ). take at before ++ l) (sym (members_both t brace.Brace w.json (x ∷ [])));
    }

-- all members
pub all_so_far : (t : List ColumnView) (old left : ImageCells) (s : ℕ) (at : ℕ) (before after rest : List ℕ) (end : ℕ) → WritesSoFar t old left s at before after end → cells_count left ≡ 0 → rest ≡ left.rest.now → WritesMembers t old at before after end rest
all_so_far t old left s at before after rest end w none is = record { json = w.json; left = left; gives = w.gives; none_left = none; rest_is = is; most = let most = w.most in omega (arith, most, none); written = w.written }

-- a row of these members is read
pub members_read : (t : List ColumnView) (s : ImageShape) (bytes rest : List ℕ) (cells : ImageCells) (at : ℕ) (before after : List ℕ) (end : ℕ) → remaining_cells cells ≡ image_at s bytes → columns_left cells ≡ s.columns → (w : WritesMembers t cells at before after end rest)
    → ReadsRow t (s ∷ []) bytes rest (object_json t w.json)
members_read t s bytes rest cells at before after end is columns w =
    let none = w.none_left in
    let read = image_read t s bytes cells w.left w.json is columns w.gives (omega (arith, none)) in
    rw w.rest_is (one_reads t s bytes w.left.rest.now read.0 w.json read.1 (w.json, read.2, refl))

-- cells that were all read have JSON
pub some_json : (t : List ColumnView) (cells left : ImageCells) (json : List CellJson) → GivesJson t cells left json → cells_count left ≡ 0 → 0 < cells_count cells → 0 < length json
unfolding AreCellsJson
some_json t cells left json g none some = of g.columns g.given json g.are g.split
  where
    of : (cs : List ImageColumn) (vs : List ColumnValue) (xs : List CellJson) → AreCellsJson t cs vs xs → columns_left cells ≡ cs ++ columns_left left → 0 < length xs
    of [] [] [] h split =
        let same = ap length split in
        let one = length-drop cells.index cells.columns.now in
        let two = length-drop left.index left.columns.now in
        absurd (omega (arith, same, one, two, none, some))
    of (c ∷ cs) (v ∷ vs) (x ∷ xs) h split = omega arith
    of [] (v ∷ vs) xs h split = absurd h
    of [] [] (x ∷ xs) h split = omega arith
    of (c ∷ cs) [] xs h split = absurd h
    of (c ∷ cs) (v ∷ vs) [] h split = absurd h

-- the members of an object, its end, and the end of its line
row_text : (t : List ColumnView) (xs : List CellJson) → 0 < length xs → members_json t xs ++ (125 ∷ 125 ∷ 10 ∷ []) ≡ ended (object_json t xs)
row_text t [] some = absurd (omega (arith, some))
row_text t (x ∷ xs) some = sym (append_assoc (members_json t (x ∷ xs)) (125 ∷ []) (125 ∷ 10 ∷ []))

pub appended_row : (Such : List ℕ → Type 0) (t : List ColumnView) (json : List CellJson) (at end r1 r2 r3 : ℕ) (before one two three four : List ℕ) → take end one ≡ take at before ++ members_json t json → 0 < length json
    → take r1 two ≡ take end one ++ 125 ∷ [] → take r2 three ≡ take r1 two ++ 125 ∷ [] → take r3 four ≡ take r2 three ++ 10 ∷ [] → Such (ended (object_json t json)) → AppendsOne Such (take at before) (take r3 four)
appended_row Such t json at end r1 r2 r3 before one two three four written some a b c such =
    let all : take r3 four ≡ take end one ++ (125 ∷ 125 ∷ 10 ∷ []) = c ∙ ap (λ (l : List ℕ). l ++ 10 ∷ []) (b ∙ ap (λ (l : List ℕ). l ++ 125 ∷ []) a) ∙ append_assoc (take end one ++ 125 ∷ []) (125 ∷ []) (10 ∷ []) ∙ append_assoc (take end one) (125 ∷ []) (125 ∷ 10 ∷ []) in
    record {
      text = ended (object_json t json);
      such = such;
      appended = all ∙ ap (λ (l : List ℕ). l ++ (125 ∷ 125 ∷ 10 ∷ [])) written ∙ append_assoc (take at before) (members_json t json) (125 ∷ 125 ∷ 10 ∷ []) ∙ ap (λ (l : List ℕ). take at before ++ l) (row_text t json some);
    }

-- nothing was written after these bytes
pub appended_none : (Such : List ℕ → Type 0) (at : ℕ) (old new : List ℕ) → take at new ≡ take at old → Such [] → AppendsOne Such (take at old) (take at new)
appended_none Such at old new same such = record { text = []; such = such; appended = same ∙ sym (append-nil (take at old)) }

-- what is before an object that was written but for its end is unchanged
pub before_object : (t : List ColumnView) (cells : ImageCells) (at : ℕ) (before after rest : List ℕ) (end : ℕ) → at ≤ length before → WritesMembers t cells at before after end rest → (at ≤ end) × (take at after ≡ take at before)
before_object t cells at before after rest end within w =
    let on : at ≤ end = further at end before after (members_json t w.json) w.written within in (
      on,
      sym (take-take at end after on)
          ∙ ap (take at) w.written
          ∙ take-append-le at (take at before) (members_json t w.json) (let n = length-take-le at before within in omega (arith, n))
          ∙ take-take at at before (omega arith),
    )
