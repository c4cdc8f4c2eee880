-- The lines of rows of one image, in sequence.
use Rattle.std.proofs.Common.{◌≡◌, ◌≤◌, ◌<◌, ℕ, zero, suc, List, [], ◌∷◌, ◌++◌, length, take, drop, Ok, refl, sym, ap, ◌∙◌, append_assoc, arith, length-append}
use Rattle.std.proofs.lemmas.List.{append-nil, length-take-le, take-append-le, take-take}
use Rattle.std.specs.List.{flat_map}
use Rattle.rows_cells.specs.declared.image.ImageColumn.{ImageColumn}
use Rattle.rows_cells.specs.declared.image.ImageCells.{ImageCells}
use Rattle.rows_cells.specs.Images.{ImageShape, ColumnValue, image_at, cells_at}
use Rattle.rows_cells.specs.ImageViews.{remaining_cells, cells_count}
use Rattle.feed_text.specs.ImageText.{cells_then, WritesFields}
use Rattle.feed_text.specs.RowText.{IsRowText, AreRowTexts, row_line, WritesRow, AppendsRows}

-- no cell remains
none_remain : (c : ImageCells) → cells_count c ≡ 0 → remaining_cells c ≡ Ok ([], c.rest.now)
unfolding cells_at
none_remain c none = of (drop c.index c.columns.now) (all_dropped c.index c.columns.now (omega (arith, none)))
  where
    all_dropped : (n : ℕ) (l : List ImageColumn) → length l ≤ n → drop n l ≡ []
    all_dropped zero [] le = refl
    all_dropped zero (x ∷ l) le = absurd (omega (arith, le))
    all_dropped (suc n) [] le = refl
    all_dropped (suc n) (x ∷ l) le = all_dropped n l (omega (arith, le))

    of : (l : List ImageColumn) → l ≡ [] → cells_at c.bits.now c.nulls.now c.index l c.rest.now ≡ Ok ([], c.rest.now)
    of [] e = refl
    of (x ∷ l) e = absurd (omega (arith, ap length e))

-- the cells of a whole image were written after the start of a line, and then a line feed
pub row_written : (s : ImageShape) (start bytes : List ℕ) (old left : ImageCells) (at begun end new_end : ℕ) (before one two three : List ℕ) → remaining_cells old ≡ image_at s bytes → take begun one ≡ take at before ++ start
    → WritesFields old left begun one two end → cells_count left ≡ 0 → length left.rest.now < length bytes → take new_end three ≡ take end two ++ 10 ∷ [] → new_end ≤ length three → WritesRow s start bytes left.rest.now at before three new_end
row_written s start bytes old left at begun end new_end before one two three is first w none less last within = record {
  text = w.text;
  row = record {
    cells = w.gives.given;
    read = sym is ∙ w.gives.read ∙ ap (cells_then w.gives.given) (none_remain left none) ∙ ap (λ (l : List ColumnValue). Ok (l, left.rest.now)) (append-nil w.gives.given);
    is = w.gives.is;
    shorter = less;
  };
  within = within;
  written =
      last
      ∙ ap (λ (t : List ℕ). t ++ 10 ∷ []) (w.written ∙ ap (λ (t : List ℕ). t ++ w.text) first)
      ∙ ap (λ (t : List ℕ). t ++ 10 ∷ []) (append_assoc (take at before) start w.text)
      ∙ append_assoc (take at before) (start ++ w.text) (10 ∷ [])
      ∙ ap (λ (t : List ℕ). take at before ++ t) (append_assoc start w.text (10 ∷ []));
}

-- some cells were written after the start of a line: the text before is unchanged
pub start_stays : (start : List ℕ) (old left : ImageCells) (at begun end : ℕ) (before one two : List ℕ) → at ≤ length before → take begun one ≡ take at before ++ start → begun ≤ length one → WritesFields old left begun one two end → take at two ≡ take at before
start_stays start old left at begun end before one two room first le w =
    let whole : take end two ≡ take at before ++ (start ++ w.text) = w.written ∙ ap (λ (t : List ℕ). t ++ w.text) first ∙ append_assoc (take at before) start w.text in
    let size = length-take-le end two w.within in
    let own = length-take-le at before room in
    let long : at ≤ end = omega (arith, size, own, ap length whole, length-append (take at before) (start ++ w.text)) in
    sym (take-take at end two long) ∙ ap (take at) whole ∙ take-append-le at (take at before) (start ++ w.text) (omega (arith, own)) ∙ take-take at at before (omega arith)

-- one more row
texts_more : (s : ImageShape) (texts : List (List ℕ)) (text bytes rest after : List ℕ) → AreRowTexts s texts bytes rest → IsRowText s rest after text → AreRowTexts s (texts ++ text ∷ []) bytes after
texts_more s [] text bytes rest after are is = rw are (after, is, refl)
texts_more s (t ∷ texts) text bytes rest after (mid, first, more) is = (mid, first, texts_more s texts text mid rest after more is)

lines_append : (f : List ℕ → List ℕ) (texts : List (List ℕ)) (text : List ℕ) → flat_map f (texts ++ text ∷ []) ≡ flat_map f texts ++ f text
lines_append f [] text = append-nil (f text)
lines_append f (x ∷ texts) text = ap (λ (l : List ℕ). f x ++ l) (lines_append f texts text) ∙ sym (append_assoc (f x) (flat_map f texts) (f text))

pub rows_none : (s : ImageShape) (start bytes before : List ℕ) → AppendsRows s start bytes bytes before before
rows_none s start bytes before = record { texts = []; are = refl; appended = sym (append-nil before) }

pub rows_more : (s : ImageShape) (start bytes rest after before now new : List ℕ) (at end : ℕ) (items items_new : List ℕ) → AppendsRows s start bytes rest before now → now ≡ take at items → WritesRow s start rest after at items items_new end → new ≡ take end items_new
    → AppendsRows s start bytes after before new
rows_more s start bytes rest after before now new at end items items_new a is w e = record {
  texts = a.texts ++ w.text ∷ [];
  are = texts_more s a.texts w.text bytes rest after a.are w.row;
  appended =
      e ∙ w.written ∙ ap (λ (t : List ℕ). t ++ row_line start w.text) (sym is ∙ a.appended)
      ∙ append_assoc before (flat_map (row_line start) a.texts) (row_line start w.text)
      ∙ ap (λ (t : List ℕ). before ++ t) (sym (lines_append (row_line start) a.texts w.text));
}
