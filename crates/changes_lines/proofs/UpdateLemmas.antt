-- An update: the members of the image before it, and what the row after it has of them.
use Rattle.std.proofs.Common.{◌≡◌, ◌<◌, ◌≤◌, ◌+◌, ◌-◌, ℕ, true, false, List, [], ◌∷◌, ◌++◌, length, take, Option, Some, None, refl, sym, ap, subst, ◌∙◌, append_assoc, arith}
use Rattle.std.specs.Prelude.{unwrap_or}
use Rattle.std.specs.Borrow.{Bor}
use Rattle.std.specs.List.{slice_range}
use Rattle.std.proofs.Math.Seq.{drop-append_seam}
use Rattle.std.proofs.lemmas.List.{append-nil, length-append, take-append-le, take_all}
use Rattle.std.specs.Slice.{IsGetRangeResult}
use Rattle.rows_cells.specs.Images.{ImageShape, image_at}
use Rattle.rows_cells.specs.ImageViews.{remaining_cells, columns_left, next_column, IsNextField, HasNextFormat, SkipsField}
use Rattle.rows_cells.specs.declared.image.ImageCells.{ImageCells}
use Rattle.rows_cells.specs.declared.image.ImageField.{ImageField}
use Rattle.changes_tables.specs.ShownColumns.{ColumnView}
use Rattle.changes_cells.specs.CellJson.{IsCellJson}
use Rattle.changes_cells.specs.FieldJson.{AppendsCell}
use Rattle.changes_lines.specs.RowJson.{CellJson, column_at, member_json, members_json, IsUpdate}
use Rattle.changes_lines.specs.RowJson as update
use Rattle.changes_lines.specs.ReadCells.{GivesJson, members_after, separator_after, separator_byte, separator_end}
use Rattle.changes_lines.specs.declared.members.Separator.{Separator}
use Rattle.changes_lines.specs.declared.members.Separator.TheVariants as before
use Rattle.changes_lines.specs.declared.updates.Before.{Before}
use Rattle.changes_lines.specs.declared.updates.Member.{Member}
use Rattle.feed_text.specs.Buffers.{text_in}
use Rattle.changes_lines.specs.Updates.{IsMember, AreMembers, ReadsCell, cell_of, KeepsMember, AreBefore, IsFrom, PutsFirst, PutsAll, Compares, StepsOver, HasBefore, ReadsBefore, AppendsAfter}
use Rattle.changes_lines.proofs.CellJsonLemmas.{members_both, members_one, separator_both, object_ends}
use Rattle.changes_lines.proofs.ReadCellLemmas.{gives_none, gives_both, gives_field, image_read}

-- ---- a member in a text

-- a part of a text
part_is : (first k last : List ℕ) → slice_range (first ++ (k ++ last)) (length first) (length first + length k) ≡ k
part_is first k last =
    ap (λ (l : List ℕ). take ((length first + length k) - length first) l) (drop-append_seam first (k ++ last))
    ∙ ap (λ (n : ℕ). take n (k ++ last)) (let e : (length first + length k) - length first ≡ length k = omega arith in e)
    ∙ take-append-le (length k) k last (omega arith)
    ∙ take_all (length k) k (omega arith)

-- the part between two offsets, if it is there
part_got : (text : List ℕ) (from to : ℕ) (o : Option (Bor (List ℕ))) (none got : Bor (List ℕ)) → IsGetRangeResult text from to o → got ≡ unwrap_or o none → from ≤ to → to ≤ length text → got.now ≡ slice_range text from to
part_got text from to (Some x) none got h is a b = ap (λ (r : Bor (List ℕ)). r.now) is ∙ h.0.2
part_got text from to None none got h is a b = absurd (let e : false ≡ true = h.1 (a, b) in cc)

pub part_there : (text first k last : List ℕ) (from to : ℕ) (o : Option (Bor (List ℕ))) (none got : Bor (List ℕ)) → text ≡ first ++ (k ++ last) → from ≡ length first → to ≡ length first + length k → IsGetRangeResult text from to o → got ≡ unwrap_or o none → got.now ≡ k
part_there text first k last from to o none got is f t h e =
    let one = length-append first (k ++ last) in
    let two = length-append k last in
    let all = ap length is in
    part_got text from to o none got h e (omega (arith, f, t)) (omega (arith, t, one, two, all))
    ∙ ap (λ (l : List ℕ). slice_range l from to) is
    ∙ ap (λ (n : ℕ). slice_range (first ++ (k ++ last)) n to) f
    ∙ ap (λ (n : ℕ). slice_range (first ++ (k ++ last)) (length first) n) t
    ∙ part_is first k last

-- a member: the key and the value
pub whole_is : (t : List ColumnView) (text : List ℕ) (m : Member) (x : CellJson) (o : Option (Bor (List ℕ))) (none got : Bor (List ℕ)) → IsMember t text m x → IsGetRangeResult text m.start m.end o → got ≡ unwrap_or o none → got.now ≡ member_json t x
whole_is t text m x o none got h range is =
    let key = (column_at t x.column).key in
    let value = h.value in
    let end = h.end in
    let long = length-append key x.json in
    part_there text h.first (key ++ x.json) h.last m.start m.end o none got (h.parts ∙ ap (λ (l : List ℕ). h.first ++ l) (sym (append_assoc key x.json h.last))) h.start (omega (arith, value, end, long)) range is

-- the value
pub value_is : (t : List ColumnView) (text : List ℕ) (m : Member) (x : CellJson) (o : Option (Bor (List ℕ))) (none got : Bor (List ℕ)) → IsMember t text m x → IsGetRangeResult text m.value m.end o → got ≡ unwrap_or o none → got.now ≡ x.json
value_is t text m x o none got h range is =
    let key = (column_at t x.column).key in
    let value = h.value in
    let end = h.end in
    let long = length-append h.first key in
    part_there text (h.first ++ key) x.json h.last m.value m.end o none got (h.parts ∙ sym (append_assoc h.first key (x.json ++ h.last))) (omega (arith, value, long)) (omega (arith, value, end, long)) range is

-- it is still there after more was appended
member_more : (t : List ColumnView) (text more : List ℕ) (m : Member) (x : CellJson) → IsMember t text m x → IsMember t (text ++ more) m x
member_more t text more m x h = record {
  first = h.first;
  last = h.last ++ more;
  parts = ap (λ (l : List ℕ). l ++ more) h.parts
      ∙ append_assoc h.first ((column_at t x.column).key ++ (x.json ++ h.last)) more
      ∙ ap (λ (l : List ℕ). h.first ++ l) (append_assoc (column_at t x.column).key (x.json ++ h.last) more ∙ ap (λ (l : List ℕ). (column_at t x.column).key ++ l) (append_assoc x.json h.last more));
  column = h.column;
  start = h.start;
  value = h.value;
  end = h.end;
}

members_more : (t : List ColumnView) (text more : List ℕ) (ms : List Member) (xs : List CellJson) → AreMembers t text ms xs → AreMembers t (text ++ more) ms xs
members_more t text more [] [] h = tt
members_more t text more (m ∷ ms) (x ∷ xs) h = (member_more t text more m x h.0, members_more t text more ms xs h.1)
members_more t text more [] (x ∷ xs) h = absurd h
members_more t text more (m ∷ ms) [] h = absurd h

members_one_more : (t : List ColumnView) (text : List ℕ) (ms : List Member) (xs : List CellJson) (m : Member) (x : CellJson) → AreMembers t text ms xs → IsMember t text m x → AreMembers t text (ms ++ m ∷ []) (xs ++ x ∷ [])
members_one_more t text [] [] m x h k = (k, tt)
members_one_more t text (n ∷ ms) (y ∷ xs) m x h k = (h.0, members_one_more t text ms xs m x h.1 k)
members_one_more t text [] (y ∷ xs) m x h k = absurd h
members_one_more t text (n ∷ ms) [] m x h k = absurd h

-- a member was appended and noted
pub member_kept : (t : List ColumnView) (c : ColumnView) (f : ImageField) (rest old one two : List ℕ) (ms more : List Member) (m : Member) → c ≡ column_at t f.column → one ≡ old ++ c.key → AppendsCell c f.is_null f.format f.bytes.now one two rest → more ≡ ms ++ m ∷ []
    → m.column ≡ f.column → m.start ≡ length old → m.value ≡ length one → m.end ≡ length two → KeepsMember t f rest old two ms more
member_kept t c f rest old one two ms more m is key cell pushed column start value end = record {
  json = cell.text.text;
  reads = record { value = cell.value; read = cell.read; is = subst (λ (v : ColumnView). IsCellJson v f.format cell.value cell.text.text) is cell.text.such };
  add = λ cells are. rw (pushed, appended) (members_one_more t (old ++ (c.key ++ cell.text.text)) ms cells m x (members_more t old (c.key ++ cell.text.text) ms cells are) there);
}
  where
    x : CellJson
    x = cell_of f cell.text.text

    appended : two ≡ old ++ (c.key ++ cell.text.text)
    appended = cell.text.appended ∙ ap (λ (l : List ℕ). l ++ cell.text.text) key ∙ append_assoc old c.key cell.text.text

    key_is : c.key ≡ (column_at t f.column).key
    key_is = ap (λ (v : ColumnView). v.key) is

    there : IsMember t (old ++ (c.key ++ cell.text.text)) m x
    there =
        let one_long = ap length key in
        let first_long = length-append old c.key in
        let two_long = ap length cell.text.appended in
        let second_long = length-append one cell.text.text in
        let keys = ap length key_is in
        record {
          first = old;
          last = [];
          parts = ap (λ (l : List ℕ). old ++ (c.key ++ l)) (sym (append-nil cell.text.text)) ∙ ap (λ (l : List ℕ). old ++ (l ++ (cell.text.text ++ []))) key_is;
          column = column;
          start = start;
          value = omega (arith, value, one_long, first_long, keys);
          end = omega (arith, end, value, two_long, second_long);
        }

-- ---- members that are appended

-- one member
pub one_put : (t : List ColumnView) (s : Separator) (x : CellJson) (old new : List ℕ) → new ≡ old ++ separator_byte s ∷ member_json t x → new ≡ old ++ members_after t s (x ∷ [])
one_put t s x old new is = is ∙ ap (λ (l : List ℕ). old ++ l) (sym (members_one t s x))

-- and more after it
members_then : (t : List ColumnView) (s : Separator) (xs : List CellJson) (x : CellJson) (old mid new : List ℕ) → mid ≡ old ++ members_after t s xs → new ≡ mid ++ separator_byte (separator_after s xs) ∷ member_json t x → new ≡ old ++ members_after t s (xs ++ x ∷ [])
members_then t s xs x old mid new first second =
    second
    ∙ ap (λ (l : List ℕ). l ++ separator_byte (separator_after s xs) ∷ member_json t x) first
    ∙ append_assoc old (members_after t s xs) (separator_byte (separator_after s xs) ∷ member_json t x)
    ∙ ap (λ (l : List ℕ). old ++ (members_after t s xs ++ l)) (sym (members_one t (separator_after s xs) x))
    ∙ ap (λ (l : List ℕ). old ++ l) (sym (members_both t s xs (x ∷ [])))

comma_after : (s : Separator) (xs : List CellJson) (x : CellJson) → before.Comma ≡ separator_after s (xs ++ x ∷ [])
comma_after s xs x = sym (separator_both s xs (x ∷ []))

-- what was appended so far of the members of these cells, and those that are left
pub record PutsSoFar (t : List ColumnView) (text : List ℕ) (s then : Separator) (left : List Member) (cells : List CellJson) (old new : List ℕ) : Type 0 where
  pub put : List CellJson
  pub others : List CellJson
  pub split : cells ≡ put ++ others
  pub members : AreMembers t text left others
  pub appended : new ≡ old ++ members_after t s put
  pub separator : then ≡ separator_after s put

nothing : (t : List ColumnView) (s : Separator) (old : List ℕ) → old ≡ old ++ members_after t s []
nothing t before.Brace old = sym (append-nil old)
nothing t before.Comma old = sym (append-nil old)

pub none_put_yet : (t : List ColumnView) (text : List ℕ) (s : Separator) (ms : List Member) (cells : List CellJson) (old : List ℕ) → AreMembers t text ms cells → PutsSoFar t text s s ms cells old old
none_put_yet t text s ms cells old are = record { put = []; others = cells; split = refl; members = are; appended = nothing t s old; separator = refl }

pub one_more_put : (t : List ColumnView) (text : List ℕ) (s then : Separator) (m : Member) (left : List Member) (cells : List CellJson) (old mid new : List ℕ) → PutsSoFar t text s then (m ∷ left) cells old mid
    → ((x : CellJson) → IsMember t text m x → new ≡ mid ++ separator_byte then ∷ member_json t x) → PutsSoFar t text s before.Comma left cells old new
one_more_put t text s then m left cells old mid new p puts = of p.others p.split p.members
  where
    of : (others : List CellJson) → cells ≡ p.put ++ others → AreMembers t text (m ∷ left) others → PutsSoFar t text s before.Comma left cells old new
    of [] split are = absurd are
    of (x ∷ xs) split are = record {
      put = p.put ++ x ∷ [];
      others = xs;
      split = split ∙ sym (append_assoc p.put (x ∷ []) xs);
      members = are.1;
      appended = members_then t s p.put x old mid new p.appended (subst (λ (k : Separator). new ≡ mid ++ separator_byte k ∷ member_json t x) p.separator (puts x are.0));
      separator = comma_after s p.put x;
    }

-- all were put
pub all_were_put : (t : List ColumnView) (text : List ℕ) (s then : Separator) (cells : List CellJson) (old new : List ℕ) → PutsSoFar t text s then [] cells old new → PutsAll t s then cells old new
all_were_put t text s then cells old new p = of p.others p.split p.members
  where
    of : (others : List CellJson) → cells ≡ p.put ++ others → AreMembers t text [] others → PutsAll t s then cells old new
    of [] split are = let all : cells ≡ p.put = split ∙ append-nil p.put in record { appended = rw all p.appended; separator = rw all p.separator }
    of (x ∷ xs) split are = absurd are

-- ---- the members that an update didn't set

-- the same of members that come before a column
pub record PutsFirstSoFar (t : List ColumnView) (text : List ℕ) (column : ℕ) (s then : Separator) (left : List Member) (cells : List CellJson) (old new : List ℕ) : Type 0 where
  pub puts : PutsSoFar t text s then left cells old new
  pub before : AreBefore column puts.put

are_before_one : (n : ℕ) (xs : List CellJson) (x : CellJson) → AreBefore n xs → x.column < n → AreBefore n (xs ++ x ∷ [])
are_before_one n [] x h less = (less, tt)
are_before_one n (y ∷ xs) x h less = (h.0, are_before_one n xs x h.1 less)

pub none_first_yet : (t : List ColumnView) (text : List ℕ) (column : ℕ) (s : Separator) (ms : List Member) (cells : List CellJson) (old : List ℕ) → AreMembers t text ms cells → PutsFirstSoFar t text column s s ms cells old old
none_first_yet t text column s ms cells old are = record { puts = record { put = []; others = cells; split = refl; members = are; appended = nothing t s old; separator = refl }; before = tt }

pub one_more_first : (t : List ColumnView) (text : List ℕ) (column : ℕ) (s then : Separator) (m : Member) (left : List Member) (cells : List CellJson) (old mid new : List ℕ) → PutsFirstSoFar t text column s then (m ∷ left) cells old mid → m.column < column
    → ((x : CellJson) → IsMember t text m x → new ≡ mid ++ separator_byte then ∷ member_json t x) → PutsFirstSoFar t text column s before.Comma left cells old new
one_more_first t text column s then m left cells old mid new p less puts = of p.puts.others p.puts.split p.puts.members
  where
    of : (others : List CellJson) → cells ≡ p.puts.put ++ others → AreMembers t text (m ∷ left) others → PutsFirstSoFar t text column s before.Comma left cells old new
    of [] split are = absurd are
    of (x ∷ xs) split are = record {
      puts = record {
        put = p.puts.put ++ x ∷ [];
        others = xs;
        split = split ∙ sym (append_assoc p.puts.put (x ∷ []) xs);
        members = are.1;
        appended = members_then t s p.puts.put x old mid new p.puts.appended (subst (λ (k : Separator). new ≡ mid ++ separator_byte k ∷ member_json t x) p.puts.separator (puts x are.0));
        separator = comma_after s p.puts.put x;
      };
      before = are_before_one column p.puts.put x p.before (let same = are.0.column in omega (arith, same, less));
    }

-- none is left
pub first_over : (t : List ColumnView) (text : List ℕ) (column : ℕ) (s then : Separator) (cells : List CellJson) (old new : List ℕ) → PutsFirstSoFar t text column s then [] cells old new → PutsFirst t text column s then [] cells old new
first_over t text column s then cells old new p = of p.puts.others p.puts.split p.puts.members
  where
    of : (others : List CellJson) → cells ≡ p.puts.put ++ others → AreMembers t text [] others → PutsFirst t text column s then [] cells old new
    of [] split are = record { unset = p.puts.put; others = []; split = split; before = p.before; from = tt; members = tt; appended = p.puts.appended; separator = p.puts.separator }
    of (x ∷ xs) split are = absurd are

-- the next doesn't come before the column
pub first_ends : (t : List ColumnView) (text : List ℕ) (column : ℕ) (s then : Separator) (m : Member) (left : List Member) (cells : List CellJson) (old new : List ℕ) → PutsFirstSoFar t text column s then (m ∷ left) cells old new → column ≤ m.column → PutsFirst t text column s then (m ∷ left) cells old new
first_ends t text column s then m left cells old new p from = of p.puts.others p.puts.split p.puts.members
  where
    of : (others : List CellJson) → cells ≡ p.puts.put ++ others → AreMembers t text (m ∷ left) others → PutsFirst t text column s then (m ∷ left) cells old new
    of [] split are = absurd are
    of (x ∷ xs) split are = record { unset = p.puts.put; others = x ∷ xs; split = split; before = p.before; from = (let same = are.0.column in omega (arith, same, from)); members = are; appended = p.puts.appended; separator = p.puts.separator }

-- ---- a value after the update, and that of its column before it

-- there is none before it
pub compares_none : (t : List ColumnView) (text : List ℕ) (y : CellJson) (cells changed : List CellJson) (now : List ℕ) → AreMembers t text [] cells → now ≡ members_json t changed → Compares t text y [] cells changed now
compares_none t text y [] changed now are is = record { others = []; more = []; members = tt; changes = is ∙ ap (members_json t) (sym (append-nil changed)); update = λ after newest old h. update.added tt h }
compares_none t text y (x ∷ cells) changed now are is = absurd are

-- the next is of a later column
pub compares_later : (t : List ColumnView) (text : List ℕ) (y : CellJson) (m : Member) (left : List Member) (cells changed : List CellJson) (now : List ℕ) → AreMembers t text (m ∷ left) cells → IsFrom y.column cells → (m.column ≡ y.column → ⊥) → now ≡ members_json t changed
    → Compares t text y (m ∷ left) cells changed now
compares_later t text y m left [] changed now are from isnt is = absurd are
compares_later t text y m left (x ∷ cells) changed now are from isnt is = record {
  others = x ∷ cells;
  more = [];
  members = are;
  changes = is ∙ ap (members_json t) (sym (append-nil changed));
  update = λ after newest old h. update.added (later are.0.column) h;
}
  where
    later : m.column ≡ x.column → y.column < x.column
    later same = less (λ e. isnt (same ∙ sym e))
      where
        less : (y.column ≡ x.column → ⊥) → y.column < x.column
        less h = omega (arith, from, h)

-- it is the same
pub compares_same : (t : List ColumnView) (text : List ℕ) (y : CellJson) (m : Member) (left : List Member) (cells changed : List CellJson) (value now : List ℕ) → AreMembers t text (m ∷ left) cells → m.column ≡ y.column → ((x : CellJson) → IsMember t text m x → value ≡ x.json) → value ≡ y.json
    → now ≡ members_json t changed → Compares t text y left cells changed now
compares_same t text y m left [] changed value now are column of_member alike is = absurd are
compares_same t text y m left (x ∷ cells) changed value now are column of_member alike is = record {
  others = cells;
  more = [];
  members = are.1;
  changes = is ∙ ap (members_json t) (sym (append-nil changed));
  update = λ after newest old h. update.same (sym are.0.column ∙ column) (sym (of_member x are.0) ∙ alike) h;
}

-- it is another
pub compares_other : (t : List ColumnView) (text : List ℕ) (y : CellJson) (m : Member) (left : List Member) (cells changed : List CellJson) (value before_it now : List ℕ) (s : Separator) → AreMembers t text (m ∷ left) cells → m.column ≡ y.column → ((x : CellJson) → IsMember t text m x → value ≡ x.json) → (value ≡ y.json → ⊥)
    → before_it ≡ members_json t changed → s ≡ separator_after before.Brace changed → ((x : CellJson) → IsMember t text m x → now ≡ before_it ++ separator_byte s ∷ member_json t x) → Compares t text y left cells changed now
compares_other t text y m left [] changed value before_it now s are column of_member other is sep puts = absurd are
compares_other t text y m left (x ∷ cells) changed value before_it now s are column of_member other is sep puts = record {
  others = cells;
  more = x ∷ [];
  members = are.1;
  changes = members_then t before.Brace changed x [] before_it now is (subst (λ (k : Separator). now ≡ before_it ++ separator_byte k ∷ member_json t x) sep (puts x are.0));
  update = λ after newest old h. update.changed (sym are.0.column ∙ column) (λ e. other (of_member x are.0 ∙ e)) h;
}

-- ---- the row after an update

-- the members that weren't set come first
unset_first : (y : CellJson) (xs others after newest old : List CellJson) → AreBefore y.column xs → IsUpdate others (y ∷ after) newest old → IsUpdate (xs ++ others) (y ∷ after) (xs ++ newest) old
unset_first y [] others after newest old before h = h
unset_first y (x ∷ xs) others after newest old before h = update.unset before.0 (unset_first y xs others after newest old before.1 h)

-- or last
unset_last : (xs : List CellJson) → IsUpdate xs [] xs []
unset_last [] = update.none
unset_last (x ∷ xs) = update.unset tt (unset_last xs)

-- the next cell of the row, after the members that weren't set
pub steps_over : (t : List ColumnView) (text : List ℕ) (f : ImageField) (json : List ℕ) (s then : Separator) (first_left left : List Member) (cells changed : List CellJson) (c : ColumnView) (old one two new changes : List ℕ) → (p : PutsFirst t text f.column s then first_left cells old one) → c ≡ column_at t f.column
    → two ≡ one ++ separator_byte then ∷ c.key → new ≡ two ++ json → Compares t text (cell_of f json) left p.others changed changes → StepsOver t text (cell_of f json) s left cells changed old new changes
steps_over t text f json s then first_left left cells changed c old one two new changes p is key value k = record {
  unset = p.unset;
  others = k.others;
  more = k.more;
  members = k.members;
  appended = members_then t s p.unset (cell_of f json) old one new p.appended member;
  changes_are = k.changes;
  update = λ after newest old h. rw p.split (unset_first (cell_of f json) p.unset p.others after (cell_of f json ∷ newest) (k.more ++ old) p.before (k.update after newest old h));
}
  where
    member : new ≡ one ++ separator_byte (separator_after s p.unset) ∷ member_json t (cell_of f json)
    member =
        value
        ∙ ap (λ (l : List ℕ). l ++ json) key
        ∙ append_assoc one (separator_byte then ∷ c.key) json
        ∙ ap (λ (v : ColumnView). one ++ separator_byte then ∷ (v.key ++ json)) is
        ∙ ap (λ (k : Separator). one ++ separator_byte k ∷ member_json t (cell_of f json)) p.separator

-- the row so far: the cells that were read, those of the row, and those that the update changed; and the members that are left
pub record UpdatesSoFar (t : List ColumnView) (text : List ℕ) (left : List Member) (s : Separator) (cells : List CellJson) (old new changes : List ℕ) (json : List CellJson) : Type 0 where
  pub others : List CellJson
  pub newest : List CellJson
  pub changed : List CellJson
  pub members : AreMembers t text left others
  pub appended : new ≡ old ++ members_json t newest
  pub separator : s ≡ separator_after before.Brace newest
  pub changes_are : changes ≡ members_json t changed
  pub update : (after more_new more_old : List CellJson) → IsUpdate others after more_new more_old → IsUpdate cells (json ++ after) (newest ++ more_new) (changed ++ more_old)

pub none_updated : (t : List ColumnView) (text : List ℕ) (ms : List Member) (cells : List CellJson) (old changes : List ℕ) → AreMembers t text ms cells → changes ≡ [] → UpdatesSoFar t text ms before.Brace cells old old changes []
none_updated t text ms cells old changes are none = record { others = cells; newest = []; changed = []; members = are; appended = sym (append-nil old); separator = refl; changes_are = none; update = λ after more_new more_old h. h }

pub one_updated : (t : List ColumnView) (text : List ℕ) (y : CellJson) (first_left left : List Member) (s : Separator) (cells : List CellJson) (old one two first_changes changes : List ℕ) (json : List CellJson) → (u : UpdatesSoFar t text first_left s cells old one first_changes json)
    → StepsOver t text y s left u.others u.changed one two changes → UpdatesSoFar t text left before.Comma cells old two changes (json ++ y ∷ [])
one_updated t text y first_left left s cells old one two first_changes changes json u k = record {
  others = k.others;
  newest = u.newest ++ (k.unset ++ y ∷ []);
  changed = u.changed ++ k.more;
  members = k.members;
  appended =
      k.appended
      ∙ ap (λ (l : List ℕ). l ++ members_after t s (k.unset ++ y ∷ [])) u.appended
      ∙ append_assoc old (members_json t u.newest) (members_after t s (k.unset ++ y ∷ []))
      ∙ ap (λ (z : Separator). old ++ (members_json t u.newest ++ members_after t z (k.unset ++ y ∷ []))) u.separator
      ∙ ap (λ (l : List ℕ). old ++ l) (sym (members_both t before.Brace u.newest (k.unset ++ y ∷ [])));
  separator = comma_after before.Brace (u.newest ++ k.unset) y ∙ ap (separator_after before.Brace) (append_assoc u.newest k.unset (y ∷ []));
  changes_are = k.changes_are;
  update = λ after more_new more_old h. rw (append_assoc json (y ∷ []) after, append_assoc u.newest (k.unset ++ y ∷ []) more_new, append_assoc k.unset (y ∷ []) more_new, append_assoc u.changed k.more more_old) (u.update (y ∷ after) (k.unset ++ y ∷ more_new) (k.more ++ more_old) (k.update after more_new more_old h));
}

-- the whole row
pub update_written : (t : List ColumnView) (text : List ℕ) (s : ImageShape) (bytes : List ℕ) (first left : ImageCells) (ms : List Member) (sep : Separator) (cells : List CellJson) (old one two changes : List ℕ) (json : List CellJson) → remaining_cells first ≡ image_at s bytes → columns_left first ≡ s.columns → GivesJson t first left json
    → length left.columns.now ≤ left.index → UpdatesSoFar t text ms sep cells old one changes json
    → ((rest : List CellJson) → AreMembers t text ms rest → two ≡ one ++ (members_after t sep rest ++ separator_end (separator_after sep rest))) → AppendsAfter t s bytes left.rest.now old two cells changes
update_written t text s bytes first left ms sep cells old one two changes json is columns gives none u last =
    let read = image_read t s bytes first left json is columns gives none in
    record {
      values = read.0;
      cells = json;
      newest = u.newest ++ u.others;
      changed = u.changed;
      read = read.1;
      are = read.2;
      update = rw (sym (append-nil json), sym (append-nil u.changed)) (u.update [] u.others [] (unset_last u.others));
      appended =
          last u.others u.members
          ∙ ap (λ (l : List ℕ). l ++ (members_after t sep u.others ++ separator_end (separator_after sep u.others))) u.appended
          ∙ append_assoc old (members_json t u.newest) (members_after t sep u.others ++ separator_end (separator_after sep u.others))
          ∙ ap (λ (z : Separator). old ++ (members_json t u.newest ++ (members_after t z u.others ++ separator_end (separator_after z u.others)))) u.separator
          ∙ ap (λ (l : List ℕ). old ++ l) (sym (append_assoc (members_json t u.newest) (members_after t (separator_after before.Brace u.newest) u.others) (separator_end (separator_after (separator_after before.Brace u.newest) u.others))))
          ∙ ap (λ (l : List ℕ). old ++ (l ++ separator_end (separator_after (separator_after before.Brace u.newest) u.others))) (sym (members_both t before.Brace u.newest u.others))
          ∙ ap (λ (z : Separator). old ++ (members_json t (u.newest ++ u.others) ++ separator_end z)) (sym (separator_both before.Brace u.newest u.others))
          ∙ ap (λ (l : List ℕ). old ++ l) (sym (object_ends t (u.newest ++ u.others)));
      changes_are = u.changes_are;
    }

-- ---- the image before an update

-- the cells so far were read, their members are kept, and none is known to be changed
pub record IsKeeping (t : List ColumnView) (first left : ImageCells) (b : Before) : Type 0 where
  pub json : List CellJson
  pub gives : GivesJson t first left json
  pub has : HasBefore t b json

pub none_kept : (t : List ColumnView) (cells : ImageCells) (b : Before) → text_in b.changed ≡ [] → b.members.items ≡ [] → IsKeeping t cells cells b
none_kept t cells b none empty = record { json = []; gives = gives_none t cells; has = record { members = rw empty tt; none = none } }

pub one_kept : (t : List ColumnView) (first left then : ImageCells) (f : ImageField) (rest : List ℕ) (b c : Before) → IsKeeping t first left b → IsNextField left f → HasNextFormat left f → KeepsMember t f rest (text_in b.text) (text_in c.text) b.members.items c.members.items → text_in c.changed ≡ text_in b.changed
    → SkipsField left rest then → columns_left left ≡ next_column left ∷ columns_left then → IsKeeping t first then c
one_kept t first left then f rest b c k n format m same skips columns = record {
  json = k.json ++ cell_of f m.json ∷ [];
  gives = gives_both t first left then k.json (cell_of f m.json ∷ []) k.gives (gives_field t left then f m.reads.value m.json rest n format m.reads.read m.reads.is skips columns);
  has = record { members = m.add k.json k.has.members; none = same ∙ k.has.none };
}

pub before_read : (t : List ColumnView) (s : ImageShape) (bytes : List ℕ) (first left : ImageCells) (b : Before) → remaining_cells first ≡ image_at s bytes → columns_left first ≡ s.columns → IsKeeping t first left b → length left.columns.now ≤ left.index → ReadsBefore t s bytes left.rest.now b
before_read t s bytes first left b is columns k none =
    let read = image_read t s bytes first left k.json is columns k.gives none in
    record { values = read.0; cells = k.json; read = read.1; are = read.2; has = k.has }

-- the cells after the update so far were read, and the members of the row so far appended
pub record IsUpdating (t : List ColumnView) (text : List ℕ) (first left : ImageCells) (ms : List Member) (s : Separator) (b : Before) (old new changes : List ℕ) : Type 0 where
  pub json : List CellJson
  pub gives : GivesJson t first left json
  pub updates : (cells : List CellJson) → HasBefore t b cells → UpdatesSoFar t text ms s cells old new changes json

pub none_updating : (t : List ColumnView) (text : List ℕ) (cells : ImageCells) (ms : List Member) (b : Before) (old : List ℕ) → text ≡ text_in b.text → ms ≡ b.members.items → IsUpdating t text cells cells ms before.Brace b old old (text_in b.changed)
none_updating t text cells ms b old same all = record { json = []; gives = gives_none t cells; updates = λ others h. none_updated t text ms others old (text_in b.changed) (rw (same, all) h.members) h.none }

pub one_updating : (t : List ColumnView) (text : List ℕ) (first left then : ImageCells) (f : ImageField) (rest json : List ℕ) (ms ms_then : List Member) (s : Separator) (b : Before) (old one two changes changes_then : List ℕ) → IsUpdating t text first left ms s b old one changes → IsNextField left f → HasNextFormat left f → ReadsCell t f rest json
    → ((cells changed : List CellJson) → AreMembers t text ms cells → changes ≡ members_json t changed → StepsOver t text (cell_of f json) s ms_then cells changed one two changes_then) → SkipsField left rest then → columns_left left ≡ next_column left ∷ columns_left then
    → IsUpdating t text first then ms_then before.Comma b old two changes_then
one_updating t text first left then f rest json ms ms_then s b old one two changes changes_then k n format reads steps skips columns = record {
  json = k.json ++ cell_of f json ∷ [];
  gives = gives_both t first left then k.json (cell_of f json ∷ []) k.gives (gives_field t left then f reads.value json rest n format reads.read reads.is skips columns);
  updates = λ cells h. let u = k.updates cells h in one_updated t text (cell_of f json) ms ms_then s cells old one two changes changes_then k.json u (steps u.others u.changed u.members u.changes_are);
}

-- no members are left
pub no_members : (ms : List Member) → length ms ≡ 0 → ms ≡ []
no_members [] none = refl
no_members (m ∷ ms) none = absurd (omega (arith, none))
