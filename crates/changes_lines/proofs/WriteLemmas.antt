-- Lines that are written piece by piece.
use Rattle.std.proofs.Common.{◌≡◌, ◌<◌, ◌≤◌, ◌+◌, ℕ, Bool, true, false, List, [], ◌∷◌, ◌++◌, length, map, Option, Result, Ok, Err, ◌-◌, refl, sym, ap, ap₂, subst, ◌∙◌, append_assoc, arith}
use Rattle.std.specs.Prelude.{codes, ⊤, IfErr, OnOk, IsErr, IsErrAnd, if◌then◌else◌}
use Rattle.std.specs.List.{flat_map}
use Rattle.std.proofs.KnownBytes.{Appends-nil, Appends-trans}
use Rattle.std.proofs.lemmas.Grind.{flat_map-append}
use Rattle.std.proofs.lemmas.List.{append-nil}
use Rattle.std.proofs.lemmas.Result.{err_from_is_err_and}
use Rattle.feed_checks.specs.declared.verdict.Verdict.{Verdict}
use Rattle.feed_transactions.specs.InterruptedWrites.{IsInterruptedWrite}
use Rattle.feed_transactions.specs.Waiting.{WritesSome}
use Rattle.feed_transactions.proofs.WaitingLemmas.{writes_none, interrupted_before, interrupted_after}
use Rattle.changes_origins.proofs.AppendLemmas.{appended_both}
use Rattle.std.proofs.lemmas.Bool.{false≢true}
use Rattle.changes_lines.specs.ChangeLines.{ChangeJson, change_objects, objects, end_by, with_ends}
use Rattle.changes_lines.specs.RecordedLines.{change_texts, HaveRows}
use Rattle.changes_lines.specs.TextLists.{AreLeft, ended}
use Rattle.feed_text.specs.DocumentForms.{AppendsOne}
use Rattle.changes_lines.specs.WrittenLines.{MayWriteLine, MayWriteRows, WritesFirst, Puts, has_texts, head_text, end_of, end_before, ends_before, rows_text, change_text}
use Rattle.changes_lines.specs.declared.lines.Ends.{Ends}
use Rattle.changes_lines.specs.declared.lines.Head.{Head}
use Rattle.changes_lines.specs.declared.lines.Line.{Line}
use Rattle.changes_lines.specs.declared.lines.RowsInRoom.{RowsInRoom}
use Rattle.changes_lines.specs.declared.text_list.Texts.{Texts}

-- ---- pieces

-- the result of a call that puts a text
pub puts_by : (a b : Option (List ℕ)) (w x : List ℕ) (f : Bool) (t : List ℕ) (r : Result ⊤ Verdict) → OnOk r (WritesSome a b w t x) → IfErr r (IsInterruptedWrite a b (w ++ t) f) → Puts a b w x f t r
puts_by a b w x f t (Ok y) ok err = ok
puts_by a b w x f t (Err v) ok err = err

-- an error is passed on
pub puts_error : (a b : Option (List ℕ)) (w x : List ℕ) (f : Bool) (t : List ℕ) (r : Result ⊤ Verdict) (v : Verdict) → IsErr r × IsErrAnd r (λ y. y ≡ v) → IsInterruptedWrite a b (w ++ t) f v → Puts a b w x f t r
puts_error a b w x f t r v h why = let e = err_from_is_err_and r h.1 in rw e.1 (subst (IsInterruptedWrite a b (w ++ t) f) (sym e.2) why)

pub writes_both : (a b c : Option (List ℕ)) (w x z t u : List ℕ) → WritesSome a b w t x → WritesSome b c x u z → WritesSome a c w (t ++ u) z
writes_both a b c w x z t u h k = record {
  bytes = h.bytes ++ k.bytes;
  written = Appends-trans a b c h.bytes k.bytes h.written k.written;
  joined = sym (append_assoc w t u) ∙ ap (λ (l : List ℕ). l ++ u) h.joined ∙ append_assoc h.bytes x u ∙ ap (λ (l : List ℕ). h.bytes ++ l) k.joined ∙ sym (append_assoc h.bytes k.bytes z);
}

-- the writer failed in the second of two texts
pub fails_then : (a b c : Option (List ℕ)) (w x t u : List ℕ) (f : Bool) (v : Verdict) → WritesSome a b w t x → IsInterruptedWrite b c (x ++ u) f v → IsInterruptedWrite a c (w ++ (t ++ u)) f v
fails_then a b c w x t u f v h why =
    rw (sym (append_assoc w t u) ∙ ap (λ (l : List ℕ). l ++ u) h.joined ∙ append_assoc h.bytes x u) (interrupted_after a b c h.bytes (x ++ u) f v h.written why)

-- in the first
pub fails_first : (a b : Option (List ℕ)) (w t u : List ℕ) (f : Bool) (v : Verdict) → IsInterruptedWrite a b (w ++ t) f v → IsInterruptedWrite a b (w ++ (t ++ u)) f v
fails_first a b w t u f v why = rw (sym (append_assoc w t u)) (interrupted_before a b (w ++ t) u f v why)

-- two texts
pub puts_then : (a b c : Option (List ℕ)) (w x z : List ℕ) (f : Bool) (t u : List ℕ) (r : Result ⊤ Verdict) → WritesSome a b w t x → Puts b c x z f u r → Puts a c w z f (t ++ u) r
puts_then a b c w x z f t u (Ok y) h k = writes_both a b c w x z t u h k
puts_then a b c w x z f t u (Err v) h k = fails_then a b c w x t u f v h k

-- the second is empty
pub puts_last : (a b : Option (List ℕ)) (w x : List ℕ) (f : Bool) (t u : List ℕ) (r : Result ⊤ Verdict) → u ≡ t → Puts a b w x f t r → Puts a b w x f u r
puts_last a b w x f t u r is h = rw is h

-- ---- a line at once

-- the parts of a line, in sequence
pub line_appended : (l : Line) (row end before one two three four five : List ℕ) → one ≡ before ++ l.head.front.now → two ≡ one ++ l.head.origin.now → three ≡ two ++ l.head.back.now → four ≡ three ++ row → five ≡ four ++ end
    → ((json : List ℕ) → l.row.now ≡ ended json → row ++ end ≡ json ++ end_of l.end) → AppendsOne (λ text. MayWriteLine l text true) before five
line_appended l row end before one two three four five a b c d e parts =
    let h = l.head in
    record {
      text = head_text h ++ (row ++ end);
      such = λ json is. ap (λ (t : List ℕ). head_text h ++ t) (parts json is);
      appended = appended_both before three five (head_text h) (row ++ end)
          (appended_both before one three h.front.now (h.origin.now ++ h.back.now) a (appended_both one two three h.origin.now h.back.now b c))
          (appended_both three four five row end d e);
    }

-- nothing was written
pub line_none : (l : Line) (old : List ℕ) → AppendsOne (λ text. MayWriteLine l text false) old old
line_none l old = record { text = []; such = refl; appended = sym (append-nil old) }

-- a text waits after the others
waits_more : (a : Option (List ℕ)) (before text after : List ℕ) → after ≡ before ++ text → WritesSome a a before text after
waits_more a before text after is = record { bytes = []; written = Appends-nil a; joined = sym is }

-- the line was written: it waits
pub line_puts : (l : Line) (a : Option (List ℕ)) (before after json : List ℕ) (failed done : Bool) → done ≡ true → AppendsOne (λ text. MayWriteLine l text done) before after → l.row.now ≡ ended json → Puts a a before after failed (head_text l.head ++ (json ++ end_of l.end)) (Ok tt)
line_puts l a before after json failed true is h row = waits_more a before _ after (h.appended ∙ ap (λ (t : List ℕ). before ++ t) (h.such json row))
line_puts l a before after json failed false is h row = absurd (false≢true is)

-- it was not: nothing changed
pub line_stays : (l : Line) (before after : List ℕ) (done : Bool) → done ≡ false → AppendsOne (λ text. MayWriteLine l text done) before after → after ≡ before
line_stays l before after false is h = h.appended ∙ ap (λ (t : List ℕ). before ++ t) h.such ∙ append-nil before
line_stays l before after true is h = absurd (false≢true (sym is))

-- the change has one row
pub one_row : (rows : List (List ℕ)) → 1 ≡ length rows → (json : List ℕ) × (rows ≡ json ∷ [])
one_row [] is = absurd (omega (arith, is))
one_row (row ∷ []) is = (row, refl)
one_row (row ∷ other ∷ rows) is = absurd (omega (arith, is))

-- the texts that are left then, after its front
pub one_left : (texts : Texts) (back : List ℕ) (more rows : List (List ℕ)) (json : List ℕ) → rows ≡ json ∷ [] → AreLeft texts (back ∷ (map ended rows ++ more)) → AreLeft texts (back ∷ ended json ∷ more)
one_left texts back more rows json single are = subst (λ (l : List (List ℕ)). AreLeft texts (back ∷ (map ended l ++ more))) single are

-- a fact that holds whatever the result is
pub on_ok_always : (P : Type 0) (r : Result ⊤ Verdict) → P → OnOk r P
on_ok_always P (Ok x) h = h
on_ok_always P (Err v) h = tt

-- its text
pub one_row_text : (origin : List ℕ) (e : Ends) (more : Bool) (x : ChangeJson) (json end : List ℕ) → x.rows ≡ json ∷ [] → end ≡ end_before (end_of e.each) e.last.now more [] → (x.front ++ (origin ++ [])) ++ ((x.back ++ json) ++ end) ≡ change_text origin e more x
unfolding ends_before
one_row_text origin e more x json end single is =
    let object = x.front ++ (origin ++ (x.back ++ json)) in
    append_assoc x.front (origin ++ []) ((x.back ++ json) ++ end)
    ∙ ap (λ (t : List ℕ). x.front ++ (t ++ ((x.back ++ json) ++ end))) (append-nil origin)
    ∙ ap (λ (t : List ℕ). x.front ++ t) (sym (append_assoc origin (x.back ++ json) end))
    ∙ sym (append_assoc x.front (origin ++ (x.back ++ json)) end)
    ∙ ap (λ (t : List ℕ). object ++ t) (is ∙ sym (append-nil (end_before (end_of e.each) e.last.now more [])))
    ∙ ap (λ (rows : List (List ℕ)). ends_before (end_of e.each) e.last.now more (map (λ row. x.front ++ (origin ++ (x.back ++ row))) rows)) (sym single)

-- ---- objects with their ends

ends_alike : (each last : List ℕ) (a b : List (List ℕ)) → end_by each last (a ++ b) ≡ end_before each last (has_texts b) a
ends_alike each last [] [] = refl
ends_alike each last [] (x ∷ b) = refl
ends_alike each last (o ∷ a) [] = refl
ends_alike each last (o ∷ a) (x ∷ b) = refl

-- some objects, and others
pub ends_both : (each last : List ℕ) (a b : List (List ℕ)) → with_ends each last (a ++ b) ≡ ends_before each last (has_texts b) a ++ with_ends each last b
unfolding with_ends ends_before
ends_both each last [] b = refl
ends_both each last (o ∷ a) b =
    ap (λ (l : List ℕ). o ++ (end_by each last (a ++ b) ++ l)) (ends_both each last a b)
    ∙ ap (λ (l : List ℕ). o ++ (l ++ (ends_before each last (has_texts b) a ++ with_ends each last b))) (ends_alike each last a b)
    ∙ ap (λ (l : List ℕ). o ++ l) (sym (append_assoc (end_before each last (has_texts b) a) (ends_before each last (has_texts b) a) (with_ends each last b)))
    ∙ sym (append_assoc o (end_before each last (has_texts b) a ++ ends_before each last (has_texts b) a) (with_ends each last b))

-- changes with rows have texts and objects
pub some_objects : (origin : List ℕ) (xs : List ChangeJson) → HaveRows xs → has_texts (flat_map change_texts xs) ≡ has_texts (objects origin xs)
some_objects origin [] some = refl
some_objects origin (x ∷ xs) some = of x.rows some.0
  where
    of : (rows : List (List ℕ)) → 0 < length rows → true ≡ has_texts (map (λ row. x.front ++ (origin ++ (x.back ++ row))) rows ++ objects origin xs)
    of [] less = absurd (omega (arith, less))
    of (row ∷ rows) less = refl

-- the objects of a change, and those of the others
pub change_first : (origin : List ℕ) (e : Ends) (x : ChangeJson) (xs : List ChangeJson) → HaveRows xs
    → with_ends (end_of e.each) e.last.now (objects origin (x ∷ xs)) ≡ change_text origin e (has_texts (flat_map change_texts xs)) x ++ with_ends (end_of e.each) e.last.now (objects origin xs)
change_first origin e x xs some =
    ends_both (end_of e.each) e.last.now (change_objects origin x) (objects origin xs)
    ∙ ap (λ (b : Bool). ends_before (end_of e.each) e.last.now b (change_objects origin x) ++ with_ends (end_of e.each) e.last.now (objects origin xs)) (sym (some_objects origin xs some))

-- the rows of a change, after what they begin with
pub rows_of_change : (head : List ℕ) (e : Ends) (more : Bool) (origin : List ℕ) (x : ChangeJson) → head ≡ x.front ++ (origin ++ x.back) → ends_before (end_of e.each) e.last.now more (map (λ row. head ++ row) x.rows) ≡ change_text origin e more x
rows_of_change head e more origin x is = ap (ends_before (end_of e.each) e.last.now more) (of x.rows)
  where
    of : (rows : List (List ℕ)) → map (λ row. head ++ row) rows ≡ map (λ row. x.front ++ (origin ++ (x.back ++ row))) rows
    of [] = refl
    of (row ∷ rows) =
        ap (λ (l : List ℕ). (l ++ row) ∷ map (λ row. head ++ row) rows) is
        ∙ ap (λ (l : List ℕ). l ∷ map (λ row. head ++ row) rows) (append_assoc x.front (origin ++ x.back) row ∙ ap (λ (l : List ℕ). x.front ++ l) (append_assoc origin x.back row))
        ∙ ap (λ (ls : List (List ℕ)). (x.front ++ (origin ++ (x.back ++ row))) ∷ ls) (of rows)

-- ---- rows, one after the other

-- some rows were written, and these are left
pub record WritesRows (h : Head) (e : Ends) (json more : List (List ℕ)) (old new : Option (List ℕ)) (before after : List ℕ) (texts : Texts) (counter : ℕ) : Type 0 where
  pub left : List (List ℕ)
  pub count : length json ≡ counter + length left
  pub texts_are : AreLeft texts (map ended left ++ more)
  pub text : List ℕ
  pub written : WritesSome old new before text after
  pub rest : rows_text h e (has_texts more) json ≡ text ++ rows_text h e (has_texts more) left

pub no_row_yet : (h : Head) (e : Ends) (json more : List (List ℕ)) (old : Option (List ℕ)) (before : List ℕ) (texts : Texts) → AreLeft texts (map ended json ++ more) → WritesRows h e json more old old before before texts 0
no_row_yet h e json more old before texts are = record { left = json; count = omega arith; texts_are = are; text = []; written = writes_none old before; rest = refl }

-- the next row
pub record NextRow (h : Head) (e : Ends) (more : List (List ℕ)) (row : List ℕ) (texts : Texts) (left : List (List ℕ)) : Type 0 where
  pub json : List ℕ
  pub others : List (List ℕ)
  pub split : left ≡ json ∷ others
  pub row_is : row ≡ ended json
  pub texts_are : AreLeft texts (map ended others ++ more)

pub next_row : (h : Head) (e : Ends) (json more : List (List ℕ)) (old new : Option (List ℕ)) (before after row : List ℕ) (texts texts_then : Texts) (counter rows : ℕ) → (w : WritesRows h e json more old new before after texts counter) → rows ≡ length json → counter < rows
    → ((text : List ℕ) (others : List (List ℕ)) → AreLeft texts (text ∷ others) → (row ≡ text) × AreLeft texts_then others) → NextRow h e more row texts_then w.left
next_row h e json more old new before after row texts texts_then counter rows w is less takes = of w.left w.count w.texts_are
  where
    of : (left : List (List ℕ)) → length json ≡ counter + length left → AreLeft texts (map ended left ++ more) → NextRow h e more row texts_then left
    of [] count are = absurd (omega (arith, is, less, count))
    of (x ∷ xs) count are = let t = takes (ended x) (map ended xs ++ more) are in record { json = x; others = xs; split = refl; row_is = t.0; texts_are = t.1 }

-- the end of a row: that of the last if no text follows it
pub end_is : (e : Ends) (texts : Texts) (more others : List (List ℕ)) (none : Bool) (end : List ℕ) → AreLeft texts (map ended others ++ more) → (AreLeft texts [] → none ≡ true) → ((t : List ℕ) (ts : List (List ℕ)) → AreLeft texts (t ∷ ts) → none ≡ false) → end ≡ (if none then e.last.now else end_of e.each)
    → end ≡ end_before (end_of e.each) e.last.now (has_texts more) (map (λ row. row) others)
end_is e texts [] [] none end are empty some h = h ∙ rw (empty are) refl
end_is e texts (t ∷ more) [] none end are empty some h = h ∙ rw (some t more are) refl
end_is e texts [] (o ∷ others) none end are empty some h = h ∙ rw (some (ended o) (map ended others ++ []) are) refl
end_is e texts (t ∷ more) (o ∷ others) none end are empty some h = h ∙ rw (some (ended o) (map ended others ++ t ∷ more) are) refl

row_end : (each last : List ℕ) (more : Bool) (f : List ℕ → List ℕ) (others : List (List ℕ)) → end_before each last more (map (λ row. row) others) ≡ end_before each last more (map f others)
row_end each last true f others = refl
row_end each last false f [] = refl
row_end each last false f (o ∷ others) = refl

-- the text of the rows that are left: the next row, its end, and the others
pub rows_first : (h : Head) (e : Ends) (more : List (List ℕ)) (json : List ℕ) (others left : List (List ℕ)) (end : List ℕ) → left ≡ json ∷ others → end ≡ end_before (end_of e.each) e.last.now (has_texts more) (map (λ row. row) others)
    → rows_text h e (has_texts more) left ≡ (head_text h ++ (json ++ end)) ++ rows_text h e (has_texts more) others
unfolding ends_before
rows_first h e more json others left end split is =
    let f = λ (row : List ℕ). head_text h ++ row in
    let all = rows_text h e (has_texts more) others in
    ap (rows_text h e (has_texts more)) split
    ∙ ap (λ (l : List ℕ). (head_text h ++ json) ++ (l ++ all)) (sym (row_end (end_of e.each) e.last.now (has_texts more) f others) ∙ sym is)
    ∙ append_assoc (head_text h) json (end ++ all)
    ∙ ap (λ (l : List ℕ). head_text h ++ l) (sym (append_assoc json end all))
    ∙ sym (append_assoc (head_text h) (json ++ end) all)

-- one more row
pub one_more_row : (h : Head) (e : Ends) (json more : List (List ℕ)) (old mid new : Option (List ℕ)) (before one two row end : List ℕ) (texts texts_then : Texts) (counter counter_then : ℕ) → (w : WritesRows h e json more old mid before one texts counter) → (n : NextRow h e more row texts_then w.left)
    → counter_then ≡ counter + 1 → end ≡ end_before (end_of e.each) e.last.now (has_texts more) (map (λ row. row) n.others) → WritesSome mid new one (head_text h ++ (n.json ++ end)) two → WritesRows h e json more old new before two texts_then counter_then
one_more_row h e json more old mid new before one two row end texts texts_then counter counter_then w n next is written = record {
  left = n.others;
  count = (let count = w.count in let long = ap length n.split in omega (arith, count, long, next));
  texts_are = n.texts_are;
  text = w.text ++ (head_text h ++ (n.json ++ end));
  written = writes_both old mid new before one two w.text (head_text h ++ (n.json ++ end)) w.written written;
  rest = w.rest ∙ ap (λ (l : List ℕ). w.text ++ l) (rows_first h e more n.json n.others w.left end n.split is) ∙ sym (append_assoc w.text (head_text h ++ (n.json ++ end)) (rows_text h e (has_texts more) n.others));
}

-- the writer failed at it
pub row_failed : (h : Head) (e : Ends) (json more : List (List ℕ)) (old mid new : Option (List ℕ)) (before one row end : List ℕ) (texts texts_then : Texts) (counter : ℕ) (f : Bool) (v : Verdict) → (w : WritesRows h e json more old mid before one texts counter) → (n : NextRow h e more row texts_then w.left)
    → end ≡ end_before (end_of e.each) e.last.now (has_texts more) (map (λ row. row) n.others) → IsInterruptedWrite mid new (one ++ (head_text h ++ (n.json ++ end))) f v → IsInterruptedWrite old new (before ++ rows_text h e (has_texts more) json) f v
row_failed h e json more old mid new before one row end texts texts_then counter f v w n is why =
    rw (w.rest, rows_first h e more n.json n.others w.left end n.split is)
    (fails_then old mid new before one w.text ((head_text h ++ (n.json ++ end)) ++ rows_text h e (has_texts more) n.others) f v w.written (fails_first mid new one (head_text h ++ (n.json ++ end)) (rows_text h e (has_texts more) n.others) f v why))

-- all rows
pub all_rows : (h : Head) (e : Ends) (json more : List (List ℕ)) (old new : Option (List ℕ)) (before after : List ℕ) (texts : Texts) (counter rows : ℕ) → WritesRows h e json more old new before after texts counter → rows ≡ length json → rows ≤ counter → WritesSome old new before (rows_text h e (has_texts more) json) after × AreLeft texts more
unfolding ends_before
all_rows h e json more old new before after texts counter rows w is over = of w.left w.count w.texts_are w.rest
  where
    of : (left : List (List ℕ)) → length json ≡ counter + length left → AreLeft texts (map ended left ++ more) → rows_text h e (has_texts more) json ≡ w.text ++ rows_text h e (has_texts more) left → WritesSome old new before (rows_text h e (has_texts more) json) after × AreLeft texts more
    of [] count are rest = (rw (rest, append-nil w.text) w.written, are)
    of (x ∷ xs) count are rest = absurd (omega (arith, is, count, over))

-- ---- many rows at once

-- none of them yet
pub none_first : (w : RowsInRoom) (old : List ℕ) → AppendsOne (λ text. MayWriteRows w text (w.rows, w.texts)) old old
none_first w old = record {
  text = [];
  such = record { most = omega arith; rows = λ rows more is are. record { first = []; others = rows; split = refl; some = λ h. h; count = is; texts = are; text_is = refl } };
  appended = sym (append-nil old);
}

-- the next of them
next_first : (head row text : List ℕ) (rows more : List (List ℕ)) (n left : ℕ) (texts after : Texts) → (w : WritesFirst head rows more text (n, texts)) → 1 < n → left ≡ n - 1
    → ((t : List ℕ) (ts : List (List ℕ)) → AreLeft texts (t ∷ ts) → (row ≡ t) × AreLeft after ts) → WritesFirst head rows more (text ++ (head ++ row)) (left, after)
next_first head row text rows more n left texts after w many less takes = of w.others w.split w.count w.texts
  where
    of : (others : List (List ℕ)) → rows ≡ w.first ++ others → n ≡ length others → AreLeft texts (map ended others ++ more) → WritesFirst head rows more (text ++ (head ++ row)) (left, after)
    of [] split count are = absurd (omega (arith, many, count))
    of (x ∷ []) split count are = absurd (omega (arith, many, count))
    of (x ∷ y ∷ xs) split count are =
        let t = takes (ended x) (ended y ∷ (map ended xs ++ more)) are in
        record {
          first = w.first ++ x ∷ [];
          others = y ∷ xs;
          split = split ∙ sym (append_assoc w.first (x ∷ []) (y ∷ xs));
          some = λ h. omega arith;
          count = omega (arith, less, count);
          texts = t.1;
          text_is = ap₂ (λ (a b : List ℕ). a ++ (head ++ b)) w.text_is t.0
              ∙ sym (flat_map-append (λ (r : List ℕ). head ++ ended r) w.first (x ∷ []) ∙ ap (λ (l : List ℕ). flat_map (λ (r : List ℕ). head ++ ended r) w.first ++ l) (append-nil (head ++ ended x)));
        }

pub one_first : (w : RowsInRoom) (row old one two three : List ℕ) (n left : ℕ) (texts after : Texts) → AppendsOne (λ text. MayWriteRows w text (n, texts)) old one → 1 < n → left ≡ n - 1
    → ((t : List ℕ) (ts : List (List ℕ)) → AreLeft texts (t ∷ ts) → (row ≡ t) × AreLeft after ts) → two ≡ one ++ w.head.now → three ≡ two ++ row → AppendsOne (λ text. MayWriteRows w text (left, after)) old three
one_first w row old one two three n left texts after h many less takes a b = record {
  text = h.text ++ (w.head.now ++ row);
  such = record { most = (let most = h.such.most in omega (arith, most, less)); rows = λ rows more is are. next_first w.head.now row h.text rows more n left texts after (h.such.rows rows more is are) many less takes };
  appended = b ∙ ap (λ (l : List ℕ). l ++ row) a ∙ append_assoc one w.head.now row ∙ ap (λ (l : List ℕ). l ++ (w.head.now ++ row)) h.appended ∙ append_assoc old h.text (w.head.now ++ row);
}

-- the end of a row that others follow is that of a row
end_kept : (e : Ends) (h : Head) (more : List (List ℕ)) (xs : List (List ℕ)) → end_before (end_of e.each) e.last.now (has_texts (map ended xs ++ more)) [] ≡ end_before (end_of e.each) e.last.now (has_texts more) (map (λ row. head_text h ++ row) xs)
end_kept e h more [] = refl
end_kept e h [] (x ∷ xs) = refl
end_kept e h (t ∷ more) (x ∷ xs) = refl

end_between : (e : Ends) (more : Bool) (first : List (List ℕ)) (x : List ℕ) (xs : List (List ℕ)) (f : List ℕ → List ℕ) → end_before (end_of e.each) e.last.now more (map f (first ++ x ∷ xs)) ≡ end_of e.each
end_between e true first x xs f = refl
end_between e false [] x xs f = refl
end_between e false (y ∷ first) x xs f = refl

-- the text of the first rows, of the next, and of the others
pub rows_split : (h : Head) (e : Ends) (more first : List (List ℕ)) (x : List ℕ) (xs : List (List ℕ)) → head_text h ≡ h.front.now → end_of e.each ≡ codes "}\n"
    → rows_text h e (has_texts more) (first ++ x ∷ xs) ≡ flat_map (λ row. h.front.now ++ ended row) first ++ (rows_text h e (has_texts (map ended xs ++ more)) (x ∷ []) ++ rows_text h e (has_texts more) xs)
unfolding ends_before
rows_split h e more [] x xs single kept =
    let others = rows_text h e (has_texts more) xs in
    let end = end_before (end_of e.each) e.last.now (has_texts (map ended xs ++ more)) [] in
    ap (λ (l : List ℕ). (head_text h ++ x) ++ (l ++ others)) (sym (end_kept e h more xs))
    ∙ sym (append_assoc (head_text h ++ x) end others)
    ∙ ap (λ (l : List ℕ). ((head_text h ++ x) ++ l) ++ others) (sym (append-nil end))
rows_split h e more (y ∷ first) x xs single kept =
    let f = λ (row : List ℕ). head_text h ++ row in
    let all = rows_text h e (has_texts more) (first ++ x ∷ xs) in
    let rest = rows_text h e (has_texts (map ended xs ++ more)) (x ∷ []) ++ rows_text h e (has_texts more) xs in
    let done = flat_map (λ (row : List ℕ). h.front.now ++ ended row) first in
    ap (λ (l : List ℕ). (head_text h ++ y) ++ (l ++ all)) (end_between e (has_texts more) first x xs f ∙ kept)
    ∙ sym (append_assoc (head_text h ++ y) (codes "}\n") all)
    ∙ ap (λ (l : List ℕ). l ++ all) (append_assoc (head_text h) y (codes "}\n") ∙ ap (λ (l : List ℕ). l ++ ended y) single)
    ∙ ap (λ (l : List ℕ). (h.front.now ++ ended y) ++ l) (rows_split h e more first x xs single kept)
    ∙ sym (append_assoc (h.front.now ++ ended y) done rest)

-- the first rows wait, and the next is about to be written
pub record NextOf (h : Head) (e : Ends) (rows more : List (List ℕ)) (text : List ℕ) (texts : Texts) (left : ℕ) : Type 0 where
  pub row : List ℕ
  pub others : List (List ℕ)
  pub count : left ≡ length others + 1
  pub texts_are : AreLeft texts (map ended (row ∷ []) ++ (map ended others ++ more))
  pub is : rows_text h e (has_texts more) rows ≡ text ++ (rows_text h e (has_texts (map ended others ++ more)) (row ∷ []) ++ rows_text h e (has_texts more) others)

pub next_of : (h : Head) (e : Ends) (rows more : List (List ℕ)) (text : List ℕ) (texts : Texts) (left : ℕ) → WritesFirst h.front.now rows more text (left, texts) → 0 < length rows → head_text h ≡ h.front.now → end_of e.each ≡ codes "}\n" → NextOf h e rows more text texts left
next_of h e rows more text texts left w some single kept = of w.others w.split (w.some some) w.count w.texts
  where
    of : (others : List (List ℕ)) → rows ≡ w.first ++ others → 0 < length others → left ≡ length others → AreLeft texts (map ended others ++ more) → NextOf h e rows more text texts left
    of [] split less count are = absurd (omega (arith, less))
    of (x ∷ xs) split less count are = record {
      row = x;
      others = xs;
      count = omega (arith, count);
      texts_are = are;
      is = ap (rows_text h e (has_texts more)) split ∙ rows_split h e more w.first x xs single kept
          ∙ ap (λ (l : List ℕ). l ++ (rows_text h e (has_texts (map ended xs ++ more)) (x ∷ []) ++ rows_text h e (has_texts more) xs)) (sym w.text_is);
    }

-- and it was written
pub rows_written : (h : Head) (e : Ends) (json more : List (List ℕ)) (old mid new : Option (List ℕ)) (before one two three text : List ℕ) (texts next after : Texts) (n left counter now : ℕ)
    → (w : WritesRows h e json more old mid before one texts counter) → two ≡ one ++ text → (k : NextOf h e w.left more text next n)
    → WritesSome mid new two (rows_text h e (has_texts (map ended k.others ++ more)) (k.row ∷ [])) three → AreLeft after (map ended k.others ++ more) → now + left ≡ length json → left + 1 ≡ n → WritesRows h e json more old new before three after now
rows_written h e json more old mid new before one two three text texts next after n left counter now w waits k written are counts less =
    let piece = rows_text h e (has_texts (map ended k.others ++ more)) (k.row ∷ []) in
    let others = rows_text h e (has_texts more) k.others in
    record {
      left = k.others;
      count = (let c = k.count in omega (arith, counts, less, c));
      texts_are = are;
      text = w.text ++ (text ++ piece);
      written = writes_both old mid new before one three w.text (text ++ piece) w.written (writes_both mid mid new one two three text piece (waits_more mid one text two waits) written);
      rest = w.rest ∙ ap (λ (l : List ℕ). w.text ++ l) (k.is ∙ sym (append_assoc text piece others)) ∙ sym (append_assoc w.text (text ++ piece) others);
    }

-- or the writer failed at it
pub rows_failed : (h : Head) (e : Ends) (json more : List (List ℕ)) (old mid new : Option (List ℕ)) (before one two text : List ℕ) (texts next : Texts) (n counter : ℕ) (f : Bool) (v : Verdict)
    → (w : WritesRows h e json more old mid before one texts counter) → two ≡ one ++ text → (k : NextOf h e w.left more text next n)
    → IsInterruptedWrite mid new (two ++ rows_text h e (has_texts (map ended k.others ++ more)) (k.row ∷ [])) f v → IsInterruptedWrite old new (before ++ rows_text h e (has_texts more) json) f v
rows_failed h e json more old mid new before one two text texts next n counter f v w waits k why =
    let piece = rows_text h e (has_texts (map ended k.others ++ more)) (k.row ∷ []) in
    let others = rows_text h e (has_texts more) k.others in
    rw (w.rest, k.is)
    (fails_then old mid new before one w.text (text ++ (piece ++ others)) f v w.written
    (fails_then mid mid new one two text (piece ++ others) f v (waits_more mid one text two waits) (fails_first mid new two piece others f v why)))

-- ---- changes, one after the other

-- the changes so far were written, and these are left
pub record WritesChanges (origin : List ℕ) (e : Ends) (xs : List ChangeJson) (old new : Option (List ℕ)) (before after : List ℕ) (texts : Texts) (rows : List ℕ) : Type 0 where
  pub left : List ChangeJson
  pub rows_are : rows ≡ map (λ x. length x.rows) left
  pub some : HaveRows left
  pub texts_are : AreLeft texts (flat_map change_texts left)
  pub text : List ℕ
  pub written : WritesSome old new before text after
  pub rest : with_ends (end_of e.each) e.last.now (objects origin xs) ≡ text ++ with_ends (end_of e.each) e.last.now (objects origin left)

pub no_change_yet : (origin : List ℕ) (e : Ends) (xs : List ChangeJson) (old : Option (List ℕ)) (before : List ℕ) (texts : Texts) (rows : List ℕ) → rows ≡ map (λ x. length x.rows) xs → HaveRows xs → AreLeft texts (flat_map change_texts xs)
    → WritesChanges origin e xs old old before before texts rows
no_change_yet origin e xs old before texts rows is some are = record { left = xs; rows_are = is; some = some; texts_are = are; text = []; written = writes_none old before; rest = refl }

-- the next change
pub record NextChange (texts : Texts) (count : ℕ) (rows : List ℕ) (left : List ChangeJson) : Type 0 where
  pub change : ChangeJson
  pub others : List ChangeJson
  pub split : left ≡ change ∷ others
  pub count_is : count ≡ length change.rows
  pub rows_are : rows ≡ map (λ x. length x.rows) others
  pub some : HaveRows others
  pub texts_are : AreLeft texts (change_texts change ++ flat_map change_texts others)

pub next_change : (texts : Texts) (count : ℕ) (all rows : List ℕ) (left : List ChangeJson) → all ≡ map (λ x. length x.rows) left → all ≡ count ∷ rows → HaveRows left → AreLeft texts (flat_map change_texts left) → NextChange texts count rows left
next_change texts count all rows [] is split some are = absurd (let e : (let none : List ℕ = [] in none ≡ count ∷ rows) = sym is ∙ split in cc)
next_change texts count all rows (x ∷ xs) is split some are =
    let e : count ∷ rows ≡ length x.rows ∷ map (λ x. length x.rows) xs = sym split ∙ is in
    record { change = x; others = xs; split = refl; count_is = cc; rows_are = cc; some = some.1; texts_are = are }

-- one more change
pub one_more_change : (origin : List ℕ) (e : Ends) (xs : List ChangeJson) (old mid new : Option (List ℕ)) (before one two : List ℕ) (texts texts_then : Texts) (count : ℕ) (all rows : List ℕ) → (w : WritesChanges origin e xs old mid before one texts all) → (n : NextChange texts count rows w.left)
    → WritesSome mid new one (change_text origin e (has_texts (flat_map change_texts n.others)) n.change) two → AreLeft texts_then (flat_map change_texts n.others) → WritesChanges origin e xs old new before two texts_then rows
one_more_change origin e xs old mid new before one two texts texts_then count all rows w n written are =
    let piece = change_text origin e (has_texts (flat_map change_texts n.others)) n.change in
    record {
      left = n.others;
      rows_are = n.rows_are;
      some = n.some;
      texts_are = are;
      text = w.text ++ piece;
      written = writes_both old mid new before one two w.text piece w.written written;
      rest = w.rest
          ∙ ap (λ (l : List ChangeJson). w.text ++ with_ends (end_of e.each) e.last.now (objects origin l)) n.split
          ∙ ap (λ (l : List ℕ). w.text ++ l) (change_first origin e n.change n.others n.some)
          ∙ sym (append_assoc w.text piece (with_ends (end_of e.each) e.last.now (objects origin n.others)));
    }

-- the writer failed at it
pub change_failed : (origin : List ℕ) (e : Ends) (xs : List ChangeJson) (old mid new : Option (List ℕ)) (before one : List ℕ) (texts : Texts) (count : ℕ) (all rows : List ℕ) (f : Bool) (v : Verdict) → (w : WritesChanges origin e xs old mid before one texts all) → (n : NextChange texts count rows w.left)
    → IsInterruptedWrite mid new (one ++ change_text origin e (has_texts (flat_map change_texts n.others)) n.change) f v → IsInterruptedWrite old new (before ++ with_ends (end_of e.each) e.last.now (objects origin xs)) f v
change_failed origin e xs old mid new before one texts count all rows f v w n why =
    let piece = change_text origin e (has_texts (flat_map change_texts n.others)) n.change in
    let more = with_ends (end_of e.each) e.last.now (objects origin n.others) in
    rw (w.rest ∙ ap (λ (l : List ChangeJson). w.text ++ with_ends (end_of e.each) e.last.now (objects origin l)) n.split ∙ ap (λ (l : List ℕ). w.text ++ l) (change_first origin e n.change n.others n.some))
    (fails_then old mid new before one w.text (piece ++ more) f v w.written (fails_first mid new one piece more f v why))

-- all changes
pub all_changes : (origin : List ℕ) (e : Ends) (xs : List ChangeJson) (old new : Option (List ℕ)) (before after : List ℕ) (texts : Texts) (rows : List ℕ) → WritesChanges origin e xs old new before after texts rows → rows ≡ []
    → WritesSome old new before (with_ends (end_of e.each) e.last.now (objects origin xs)) after
unfolding with_ends
all_changes origin e xs old new before after texts rows w none = of w.left (sym w.rows_are ∙ none) w.rest
  where
    of : (left : List ChangeJson) → map (λ x. length x.rows) left ≡ [] → with_ends (end_of e.each) e.last.now (objects origin xs) ≡ w.text ++ with_ends (end_of e.each) e.last.now (objects origin left) → WritesSome old new before (with_ends (end_of e.each) e.last.now (objects origin xs)) after
    of [] is rest = rw (rest, append-nil w.text) w.written
    of (x ∷ left) is rest = absurd (cc)

-- a list without elements
pub none_of : (l : List ℕ) → length l ≡ 0 → l ≡ []
none_of [] none = refl
none_of (x ∷ l) none = absurd (omega (arith, none))
