-- The text of rows, printed image after image, is that of the specification.
use Rattle.std.proofs.Common.{◌≡◌, ◌⊎◌, inl, inr, ◌≤◌, ◌<◌, ℕ, zero, suc, Bool, true, false, List, [], ◌∷◌, ◌++◌, length, Option, Some, None, Ok, Err, refl, sym, ap, subst, ◌∙◌, append_assoc, arith}
use Rattle.std.specs.Borrow.{Bor}
use Rattle.std.specs.Prelude.{codes, nat_lt, option_map, if◌then◌else◌, IfOk, IfErr, OnOk, Result}
use Rattle.std.proofs.lemmas.Bool.Decides.{nat_tests}
use Rattle.std.specs.List.{flat_map}
use Rattle.std.proofs.lemmas.Bool.{lt-ltb}
use Rattle.std.proofs.lemmas.List.{append-nil}
use Rattle.rows_cells.specs.Images.{ColumnValue, ImageShape, image_at}
use Rattle.rows_cells.specs.EventRows.{images_at, takes_some, row_at}
use Rattle.rows_cells.specs.ImageViews.{remaining_cells}
use Rattle.rows_cells.specs.declared.image.ImageCells.{ImageCells}
use Rattle.rows_jsonb.specs.Items.{Walked, prepend_item, walk, items_at}
use Rattle.rows_jsonb.specs.JsonParsing.{IsNone, Parses}
use Rattle.rows_errors.specs.Readings.{Reading, ◌>>=◌}
use Rattle.rows_jsonb.proofs.ItemLemmas.{walk_on, walk_done}
use Rattle.rows_errors.specs.declared.fault.RowsError.{RowsError}
use Rattle.rows_errors.specs.declared.fault.RowsError.TheVariants as fault
use Rattle.std.specs.Bool.{⊤}
use Rattle.rows_event_body.specs.ImageShapes.{TablePlan}
use Rattle.rows_event_body.specs.EventShapes.{event_shapes, row_read}
use Rattle.rows_event_body.specs.RowsEvents.{RowsBody}
use Rattle.feed_text.specs.CellText.{cell_text}
use Rattle.feed_text.specs.ImageText.{cells_text, Cells, cells_then, PutsCells, StopsAt, IsCellsError}
use Rattle.feed_text.specs.RowText.{AreRowTexts, row_line}
use Rattle.feed_checks.specs.declared.verdict.Verdict.{Verdict}
use Rattle.feed_transactions.specs.MappedRows.{image_texts, row_texts, value_or_none, walked_texts, event_texts}
use Rattle.feed_transactions.specs.RowLines.{row_verdict, IsRowError, with_text, image_text_at, with_texts, images_texts_at, row_texts_at, rows_texts_at, PutsImage, PutsImages, PutsRow, PutsLines, PutsRows, IsRowsError, IsAppendedSoFar, line_of}
use Rattle.feed_transactions.specs.KnownImages.{IsColumnsError}
use Rattle.feed_transactions.specs.RowTexts.{images_text}

-- ---- readings without a value

none_then : {A B : Type 0} (o : Reading A) (f : A → Reading B) → ((a : A) → IsNone (f a)) → IsNone (o >>= f)
none_then (Ok a) f h = h a
none_then (Err e) f h = tt

none_first : {A B : Type 0} (o : Reading A) (f : A → Reading B) → IsNone o → IsNone (o >>= f)
none_first (Ok a) f h = absurd h
none_first (Err e) f h = tt

-- a reading has no value if the result of a total function on it has none
none_before : {A B : Type 0} (o : Reading A) (f : A → B) → IsNone (o >>= λ a. Ok (f a)) → IsNone o
none_before (Ok a) f h = h
none_before (Err e) f h = tt

-- ---- cells

texts_none : (given : List ColumnValue) (v : ColumnValue) (more : List ColumnValue) → IsNone (cell_text v.column v.value) → IsNone (cells_text (given ++ v ∷ more))
unfolding cells_text
texts_none [] v more h = none_first (cell_text v.column v.value) (λ first. cells_text more >>= λ t. Ok (first ++ t)) h
texts_none (w ∷ given) v more h =
    none_then (cell_text w.column w.value) (λ first. cells_text (given ++ v ∷ more) >>= λ t. Ok (first ++ t)) (λ first. none_first (cells_text (given ++ v ∷ more)) (λ t. Ok (first ++ t)) (texts_none given v more h))

parse_none : (e : RowsError) (found : Reading (List ℕ)) → Parses (λ t. t) (Err e) found → (e ≡ fault.Memory) ⊎ IsNone found
parse_none fault.Memory found h = inl refl
parse_none (fault.Jsonb None) found h = inr h
parse_none (fault.Jsonb (Some e)) found h = inr (rw h tt)
parse_none _ found h = absurd h

stops_none : (e : RowsError) (given : List ColumnValue) (left : Reading Cells) → StopsAt e left → (e ≡ fault.Memory) ⊎ IsNone (cells_then given left >>= with_text)
stops_none e given left (inl m) = inl m
stops_none e given left (inr (inl h)) = inr (rw h tt)
stops_none e given left (inr (inr (v, more, split, parses))) = elim (parse_none e (cell_text v.column v.value) parses) [
  | inl m ↦ inl m
  | inr none ↦ inr (rw split (with_more more none))
]
  where
    with_more : (o : Reading Cells) → IsNone (cell_text v.column v.value) → IsNone (cells_then given (cells_then (v ∷ []) o) >>= with_text)
    with_more (Ok x) h = none_first (cells_text (given ++ v ∷ x.0)) (λ t. Ok (t, x.1)) (texts_none given v x.0 h)
    with_more (Err e) h = tt

-- ---- an image

pub image_put : (s : ImageShape) (bytes before after : List ℕ) (old new : ImageCells) → remaining_cells old ≡ image_at s bytes → PutsCells old new before after → PutsImage s bytes new.rest.now before after
image_put s bytes before after old new e p = record { cells = p.given; text = p.text; read = sym e ∙ p.read; is = p.is; appended = p.appended }

failed_by : {A : Type 0} (reading : Reading A) (e : RowsError) → (e ≡ fault.Memory) ⊎ IsNone reading → IsRowError reading (row_verdict e)
failed_by reading e (inl m) = rw m (inr refl)
failed_by reading e (inr none) = either e none
  where
    either : (e : RowsError) → IsNone reading → IsRowError reading (row_verdict e)
    either fault.Memory none = inr refl
    either fault.EndOfBody none = inl (refl, none)
    either fault.RemainingBytes none = inl (refl, none)
    either fault.UnknownNumber none = inl (refl, none)
    either fault.Metadata none = inl (refl, none)
    either fault.Cell none = inl (refl, none)
    either (fault.Jsonb j) none = inl (refl, none)
    either fault.Decimal none = inl (refl, none)
    either fault.EmptyPair none = inl (refl, none)
    either fault.Read none = inl (refl, none)

-- the image can't be read
pub image_unread : (s : ImageShape) (bytes : List ℕ) (e : RowsError) (v : Verdict) → v ≡ row_verdict e → image_at s bytes ≡ Err e → IsRowError (image_text_at s bytes) v
image_unread s bytes e v is h = rw is (failed_by (image_text_at s bytes) e (inr (rw h tt)))

-- a cell can't be read, or has no text
pub image_untold : (s : ImageShape) (bytes before after : List ℕ) (old new : ImageCells) (e : RowsError) (v : Verdict) → v ≡ row_verdict e → remaining_cells old ≡ image_at s bytes → IsCellsError e old new before after
    → IsRowError (image_text_at s bytes) v
image_untold s bytes before after old new e v is same r =
    let split : image_at s bytes ≡ cells_then r.given r.left = sym same ∙ r.read in
    rw is (failed_by (image_text_at s bytes) e (subst (λ (o : Reading Cells). (e ≡ fault.Memory) ⊎ IsNone (o >>= with_text)) (sym split) (stops_none e r.given r.left r.why)))

-- ---- the images of a row

pub one_image : (s : ImageShape) (bytes rest before after : List ℕ) → PutsImage s bytes rest before after → PutsImages (s ∷ []) bytes rest before after
unfolding images_at image_texts
one_image s bytes rest before after p = record {
  images = p.cells ∷ [];
  texts = p.text ∷ [];
  read = rw p.read refl;
  is = rw p.is refl;
  appended = p.appended ∙ ap (λ (t : List ℕ). before ++ t) (sym (append-nil p.text));
}

pub two_images : (s t : ImageShape) (bytes mid rest before first second after : List ℕ) → PutsImage s bytes mid before first → second ≡ first ++ codes " to" → PutsImage t mid rest second after → PutsImages (s ∷ t ∷ []) bytes rest before after
unfolding images_at image_texts
two_images s t bytes mid rest before first second after p to q = record {
  images = p.cells ∷ q.cells ∷ [];
  texts = p.text ∷ q.text ∷ [];
  read = rw (p.read, q.read) refl;
  is = rw (p.is, q.is) refl;
  appended = q.appended ∙ ap (λ (l : List ℕ). l ++ q.text) (to ∙ ap (λ (l : List ℕ). l ++ codes " to") p.appended)
      ∙ ap (λ (l : List ℕ). l ++ q.text) (append_assoc before p.text (codes " to")) ∙ append_assoc before (p.text ++ codes " to") q.text
      ∙ ap (λ (l : List ℕ). before ++ l) (append_assoc p.text (codes " to") q.text ∙ ap (λ (l : List ℕ). p.text ++ l) (sym (append-nil (codes " to" ++ q.text))));
}

-- the first image has no text, whatever follows it
first_none : (s : ImageShape) (ss : List ImageShape) (bytes : List ℕ) → IsNone (image_text_at s bytes) → IsNone (images_texts_at (s ∷ ss) bytes)
unfolding images_at image_texts
first_none s ss bytes h = of_image (image_at s bytes) h
  where
    of_more : (x : Cells) (m : Reading (List (List ColumnValue) × List ℕ)) → IsNone (cells_text x.0) → IsNone ((m >>= λ more. Ok (x.0 ∷ more.0, more.1)) >>= with_texts)
    of_more x (Ok y) none =
        none_first (cells_text x.0 >>= λ text. image_texts y.0 >>= λ texts. Ok (text ∷ texts)) (λ ts. Ok (ts, y.1)) (none_first (cells_text x.0) (λ text. image_texts y.0 >>= λ texts. Ok (text ∷ texts)) none)
    of_more x (Err e) none = tt

    of_image : (o : Reading Cells) → IsNone (o >>= with_text) → IsNone ((o >>= λ first. images_at ss first.1 >>= λ more. Ok (first.0 ∷ more.0, more.1)) >>= with_texts)
    of_image (Ok x) none = of_more x (images_at ss x.1) (none_before (cells_text x.0) (λ t. (t, x.1)) none)
    of_image (Err e) none = tt

-- the second image has none
second_none : (s : ImageShape) (ss : List ImageShape) (bytes rest before after : List ℕ) → PutsImage s bytes rest before after → IsNone (images_texts_at ss rest) → IsNone (images_texts_at (s ∷ ss) bytes)
unfolding images_at image_texts
second_none s ss bytes rest before after p h = rw p.read (of_more (images_at ss rest) h)
  where
    of_more : (m : Reading (List (List ColumnValue) × List ℕ)) → IsNone (m >>= with_texts) → IsNone ((m >>= λ more. Ok (p.cells ∷ more.0, more.1)) >>= with_texts)
    of_more (Ok y) none =
        none_first (cells_text p.cells >>= λ text. image_texts y.0 >>= λ texts. Ok (text ∷ texts)) (λ ts. Ok (ts, y.1))
        (none_then (cells_text p.cells) (λ text. image_texts y.0 >>= λ texts. Ok (text ∷ texts)) (λ text. none_first (image_texts y.0) (λ texts. Ok (text ∷ texts)) (none_before (image_texts y.0) (λ ts. (ts, y.1)) none)))
    of_more (Err e) none = tt

-- the same for errors
wider : {A B : Type 0} (o : Reading A) (p : Reading B) (v : Verdict) → (IsNone o → IsNone p) → IsRowError o v → IsRowError p v
wider o p v f (inl h) = inl (h.0, f h.1)
wider o p v f (inr m) = inr m

pub first_failed : (s : ImageShape) (ss : List ImageShape) (bytes : List ℕ) (v : Verdict) → IsRowError (image_text_at s bytes) v → IsRowError (images_texts_at (s ∷ ss) bytes) v
first_failed s ss bytes v h = wider (image_text_at s bytes) (images_texts_at (s ∷ ss) bytes) v (first_none s ss bytes) h

pub second_failed : (s t : ImageShape) (bytes rest before after : List ℕ) (v : Verdict) → PutsImage s bytes rest before after → IsRowError (image_text_at t rest) v → IsRowError (images_texts_at (s ∷ t ∷ []) bytes) v
second_failed s t bytes rest before after v p h =
    wider (image_text_at t rest) (images_texts_at (s ∷ t ∷ []) bytes) v (λ none. second_none s (t ∷ []) bytes rest before after p (first_none t [] rest none)) h

-- ---- a row

pub row_put : (shapes : List ImageShape) (bytes rest before after : List ℕ) → PutsImages shapes bytes rest before after → length rest < length bytes → PutsRow shapes bytes rest before after
unfolding row_at
row_put shapes bytes rest before after p less =
    record { images = p.images; texts = p.texts; read = rw (p.read, lt-ltb (length rest) (length bytes) less) refl; is = p.is; appended = p.appended; shorter = less }

row_none : (shapes : List ImageShape) (bytes : List ℕ) → IsNone (images_texts_at shapes bytes) → IsNone (row_texts_at shapes bytes)
unfolding row_at
row_none shapes bytes h = of (images_at shapes bytes) h
  where
    of_test : (x : List (List ColumnValue) × List ℕ) (b : Bool) → IsNone (with_texts x) → IsNone ((if b then Ok x else Err fault.EmptyPair) >>= with_texts)
    of_test x true none = none
    of_test x false none = tt

    of : (o : Reading (List (List ColumnValue) × List ℕ)) → IsNone (o >>= with_texts) → IsNone ((o >>= takes_some (length bytes)) >>= with_texts)
    of (Ok x) none = of_test x (nat_lt (length x.1) (length bytes)) none
    of (Err e) none = tt

pub row_failed : (shapes : List ImageShape) (bytes : List ℕ) (v : Verdict) → IsRowError (images_texts_at shapes bytes) v → IsRowError (row_texts_at shapes bytes) v
row_failed shapes bytes v h = wider (images_texts_at shapes bytes) (row_texts_at shapes bytes) v (row_none shapes bytes) h

-- it takes no bytes
pub row_empty : (shapes : List ImageShape) (bytes rest before after : List ℕ) → PutsImages shapes bytes rest before after → nat_lt (length rest) (length bytes) ≡ false → IsNone (row_texts_at shapes bytes)
unfolding row_at
row_empty shapes bytes rest before after p none = rw (p.read, none) tt

-- ---- rows

walked_more : (images : List (List ColumnValue)) (texts : List (List ℕ)) (w : Walked (List (List ColumnValue))) → image_texts images ≡ Ok texts
    → walked_texts (prepend_item images w) ≡ option_map (λ m. texts ∷ m) (walked_texts w)
unfolding row_texts
walked_more images texts w is = of_fault w.fault
  where
    of_items : (o : Reading (List (List (List ℕ)))) → value_or_none (o >>= λ more. Ok (texts ∷ more)) ≡ option_map (λ m. texts ∷ m) (value_or_none o)
    of_items (Ok x) = refl
    of_items (Err e) = refl

    of_fault : (o : Option RowsError) → (elim o [ None ↦ value_or_none (row_texts (images ∷ w.items)) | Some e ↦ None ]) ≡ option_map (λ m. texts ∷ m) (elim o [ None ↦ value_or_none (row_texts w.items) | Some e ↦ None ])
    of_fault None = rw is (of_items (row_texts w.items))
    of_fault (Some e) = refl

module _ (shapes : List ImageShape) (start bytes before : List ℕ) where
  -- no line yet
  pub none_put : (whole : List ℕ) → whole ≡ bytes → IsAppendedSoFar shapes start bytes whole before before
  none_put whole e = rw e (record { texts = []; steps = length bytes; enough = omega arith; are = sym (same (walked_texts (walk (row_at shapes) (length bytes) bytes))); appended = sym (append-nil before) })
    where
      same : (o : Option (List (List (List ℕ)))) → option_map (λ m. [] ++ m) o ≡ o
      same (Some m) = refl
      same None = refl

  both_maps : (one two : List (List (List ℕ))) (o : Option (List (List (List ℕ)))) → option_map (λ m. one ++ m) (option_map (λ m. two ++ m) o) ≡ option_map (λ m. (one ++ two) ++ m) o
  both_maps one two (Some m) = ap (λ (l : List (List (List ℕ))). Some l) (sym (append_assoc one two m))
  both_maps one two None = refl

  lines_append : (f : List (List ℕ) → List ℕ) (one : List (List (List ℕ))) (texts : List (List ℕ)) → flat_map f (one ++ texts ∷ []) ≡ flat_map f one ++ f texts
  lines_append f [] texts = append-nil (f texts)
  lines_append f (x ∷ one) texts = ap (λ (l : List ℕ). f x ++ l) (lines_append f one texts) ∙ sym (append_assoc (f x) (flat_map f one) (f texts))

  -- one more line
  pub more_put : (rest after now begun put new : List ℕ) → 0 < length rest → IsAppendedSoFar shapes start bytes rest before now → begun ≡ now ++ start → PutsRow shapes rest after begun put → new ≡ put ++ 10 ∷ []
      → IsAppendedSoFar shapes start bytes after before new
  more_put rest after now begun put new some u e p f = on u.steps u.enough u.are
    where
      text_is : new ≡ before ++ flat_map (line_of start) (u.texts ++ p.texts ∷ [])
      text_is =
          let line = line_of start p.texts in
          let own : new ≡ now ++ line =
          f ∙ ap (λ (l : List ℕ). l ++ 10 ∷ []) (p.appended ∙ ap (λ (l : List ℕ). l ++ images_text p.texts) e ∙ append_assoc now start (images_text p.texts)) ∙ append_assoc now (start ++ images_text p.texts) (10 ∷ []) in
          own ∙ ap (λ (l : List ℕ). l ++ line) u.appended ∙ append_assoc before (flat_map (line_of start) u.texts) line ∙ ap (λ (l : List ℕ). before ++ l) (sym (lines_append (line_of start) u.texts p.texts))

      on : (n : ℕ) → length rest ≤ n → walked_texts (walk (row_at shapes) (length bytes) bytes) ≡ option_map (λ m. u.texts ++ m) (walked_texts (walk (row_at shapes) n rest)) → IsAppendedSoFar shapes start bytes after before new
      on zero le are = absurd (omega (arith, le, some))
      on (suc n) le are = record {
        texts = u.texts ++ p.texts ∷ [];
        steps = n;
        enough = omega (arith, p.shorter, le);
        are = are ∙ ap (λ (o : Option (List (List (List ℕ)))). option_map (λ m. u.texts ++ m) o)
            (ap walked_texts (walk_on (row_at shapes) n rest (Ok (p.images, after)) some le p.read) ∙ walked_more p.images p.texts (walk (row_at shapes) n after) p.is)
            ∙ both_maps u.texts (p.texts ∷ []) (walked_texts (walk (row_at shapes) n after));
        appended = text_is;
      }

  -- lines of rows that have one image each
  pub short_put : (s : ImageShape) → shapes ≡ s ∷ [] → (texts : List (List ℕ)) (rest after now new : List ℕ) → IsAppendedSoFar shapes start bytes rest before now → AreRowTexts s texts rest after → new ≡ now ++ flat_map (row_line start) texts
      → IsAppendedSoFar shapes start bytes after before new
  short_put s one [] rest after now new u are is = rw (is, append-nil now, sym are) u
  short_put s one (text ∷ texts) rest after now new u (mid, row, more) is =
      let line : now ++ row_line start text ≡ (now ++ start) ++ (text ++ 10 ∷ []) = sym (append_assoc now start (text ++ 10 ∷ [])) in
      let put : PutsRow shapes rest mid (now ++ start) ((now ++ start) ++ text) =
      rw one (row_put (s ∷ []) rest mid (now ++ start) ((now ++ start) ++ text) (one_image s rest mid (now ++ start) ((now ++ start) ++ text) (record { cells = row.cells; text = text; read = row.read; is = row.is; appended = refl })) row.shorter) in
      let next = more_put rest mid now (now ++ start) ((now ++ start) ++ text) (now ++ row_line start text) (omega (arith, row.shorter)) u refl put (line ∙ sym (append_assoc (now ++ start) text (10 ∷ []))) in
      short_put s one texts mid after (now ++ row_line start text) new next more (is ∙ sym (append_assoc now (row_line start text) (flat_map (row_line start) texts)))

  -- all lines
  pub all_put : (rest now : List ℕ) → length rest ≡ 0 → IsAppendedSoFar shapes start bytes rest before now → PutsLines shapes start bytes before now
  unfolding row_texts
  all_put [] now e u = record {
    texts = u.texts;
    are = u.are ∙ ap (λ (w : Walked (List (List ColumnValue))). option_map (λ m. u.texts ++ m) (walked_texts w)) (walk_done (row_at shapes) u.steps) ∙ ap (λ (l : List (List (List ℕ))). Some l) (append-nil u.texts);
    appended = u.appended;
  }
  all_put (b ∷ rest) now e u = absurd (omega (arith, e))

  -- a row without a text
  stops_at : (n : ℕ) (rest : List ℕ) → 0 < length rest → length rest ≤ n → IsNone (row_texts_at shapes rest) → walked_texts (walk (row_at shapes) n rest) ≡ None
  unfolding row_texts
  stops_at zero rest some le none = absurd (omega (arith, some, le))
  stops_at (suc n) rest some le none = of (row_at shapes rest) refl none
    where
      of_item : (images : List (List ColumnValue)) (w : Walked (List (List ColumnValue))) → IsNone (image_texts images) → walked_texts (prepend_item images w) ≡ None
      of_item images w h = of_fault w.fault (image_texts images) h
        where
          of_fault : (o : Option RowsError) (q : Reading (List (List ℕ))) → IsNone q → ◌≡◌ {A = Option (List (List (List ℕ)))} (elim o [ None ↦ value_or_none (q >>= λ texts. row_texts w.items >>= λ more. Ok (texts ∷ more)) | Some e ↦ None ]) None
          of_fault None (Ok x) h = absurd h
          of_fault None (Err e) h = refl
          of_fault (Some e) q h = refl

      of : (o : Reading (List (List ColumnValue) × List ℕ)) → row_at shapes rest ≡ o → IsNone (o >>= with_texts) → walked_texts (walk (row_at shapes) (suc n) rest) ≡ None
      of (Ok x) h k = ap walked_texts (walk_on (row_at shapes) n rest (Ok x) some le h) ∙ of_item x.0 (walk (row_at shapes) n x.1) (none_before (image_texts x.0) (λ ts. (ts, x.1)) k)
      of (Err e) h k = ap walked_texts (walk_on (row_at shapes) n rest (Err e) some le h)

  pub lines_failed : (rest now : List ℕ) (v : Verdict) → 0 < length rest → IsAppendedSoFar shapes start bytes rest before now → IsRowError (row_texts_at shapes rest) v
      → IsRowsError (walked_texts (walk (row_at shapes) (length bytes) bytes)) v
  lines_failed rest now v some u (inl h) =
      inl (h.0, u.are ∙ ap (λ (o : Option (List (List (List ℕ)))). option_map (λ m. u.texts ++ m) o) (stops_at u.steps rest some u.enough h.1))
  lines_failed rest now v some u (inr m) = inr m

-- rows take bytes
pub rows_shorter : (s : ImageShape) (texts : List (List ℕ)) (bytes rest : List ℕ) → AreRowTexts s texts bytes rest → length rest ≤ length bytes
rows_shorter s [] bytes rest are = omega (arith, ap length are)
rows_shorter s (text ∷ texts) bytes rest (mid, row, more) = omega (arith, rows_shorter s texts mid rest more, row.shorter)

-- the results of the code's calls
pub second_put : (s t : ImageShape) (bytes mid before first second after : List ℕ) (r : Result (Bor (List ℕ)) Verdict) → PutsImage s bytes mid before first → second ≡ first ++ codes " to"
    → IfOk r (λ rest. PutsImage t mid rest.now second after) → IfOk r (λ rest. PutsImages (s ∷ t ∷ []) bytes rest.now before after)
second_put s t bytes mid before first second after (Ok x) p to q = two_images s t bytes mid x.now before first second after p to q
second_put s t bytes mid before first second after (Err e) p to q = tt

pub second_not_put : (s t : ImageShape) (bytes mid before first : List ℕ) (r : Result (Bor (List ℕ)) Verdict) → PutsImage s bytes mid before first → IfErr r (IsRowError (image_text_at t mid)) → IfErr r (IsRowError (images_texts_at (s ∷ t ∷ []) bytes))
second_not_put s t bytes mid before first (Ok x) p q = tt
second_not_put s t bytes mid before first (Err v) p q = second_failed s t bytes mid before first v p q

pub not_shorter : (n m : ℕ) → m ≤ n → nat_lt n m ≡ false
not_shorter n m h = grind (arith, nat_tests)

-- ---- the rows of an event

-- the columns of its images have no plan
pub rows_unread : (r : RowsBody) (p : TablePlan) (e : RowsError) → 0 < length r.rows_data → event_shapes r p ≡ Err e → event_texts r p ≡ None
rows_unread r p e some h = of (length r.rows_data) refl
  where
    of : (n : ℕ) → n ≡ length r.rows_data → walked_texts (walk (row_read r p) n r.rows_data) ≡ None
    of zero same = absurd (omega (arith, same, some))
    of (suc n) same =
        let read : row_read r p r.rows_data ≡ Err e = ap (λ (o : Reading (List ImageShape)). o >>= λ shapes. row_at shapes r.rows_data) h in
        ap walked_texts (walk_on (row_read r p) n r.rows_data (Err e) some (omega (arith, same)) read)

texts_by : (r : RowsBody) (p : TablePlan) (shapes : List ImageShape) → event_shapes r p ≡ Ok shapes → event_texts r p ≡ walked_texts (items_at (row_at shapes) r.rows_data)
texts_by r p shapes h = ap (λ (o : Reading (List ImageShape)). walked_texts (items_at (λ bytes. o >>= λ s. row_at s bytes) r.rows_data)) h

pub rows_put : (r : RowsBody) (p : TablePlan) (shapes : List ImageShape) (start before after : List ℕ) → event_shapes r p ≡ Ok shapes → PutsLines shapes start r.rows_data before after → PutsRows r p start before after
rows_put r p shapes start before after h l = record { texts = l.texts; are = texts_by r p shapes h ∙ l.are; appended = l.appended }

-- an error of the columns is one of the rows
pub columns_error : (shapes : Reading (List ImageShape)) (e : RowsError) (v : Verdict) → v ≡ row_verdict e → (e ≡ fault.Memory) ⊎ (shapes ≡ Err e) → IsColumnsError shapes v
columns_error shapes e v is (inl m) = rw (is, m) (inr refl)
columns_error shapes e v is (inr h) = inl (e, is, h)

pub columns_failed : (r : RowsBody) (p : TablePlan) (v : Verdict) → 0 < length r.rows_data → IsColumnsError (event_shapes r p) v → IsRowsError (event_texts r p) v
columns_failed r p v some (inr m) = inr m
columns_failed r p v some (inl h) =
    elim (failed_by (event_shapes r p) h.0 (inr (rw h.2 tt))) as (λ _. IsRowsError (event_texts r p) v) [
      | inl row ↦ rw h.1 (inl (row.0, rows_unread r p h.0 some h.2))
      | inr m ↦ rw h.1 (inr m)
    ]

-- the result of the code's call
pub lines_put : (r : RowsBody) (p : TablePlan) (shapes : List ImageShape) (start bytes before after : List ℕ) (a : Result ⊤ Verdict) → event_shapes r p ≡ Ok shapes → bytes ≡ r.rows_data → OnOk a (PutsLines shapes start bytes before after)
    → OnOk a (PutsRows r p start before after)
lines_put r p shapes start bytes before after (Ok x) h e l = rows_put r p shapes start before after h (subst (λ (b : List ℕ). PutsLines shapes start b before after) e l)
lines_put r p shapes start bytes before after (Err v) h e l = tt

pub lines_unput : (r : RowsBody) (p : TablePlan) (shapes : List ImageShape) (bytes : List ℕ) (a : Result ⊤ Verdict) → event_shapes r p ≡ Ok shapes → bytes ≡ r.rows_data → IfErr a (IsRowsError (rows_texts_at shapes bytes)) → IfErr a (IsRowsError (event_texts r p))
lines_unput r p shapes bytes a h e l =
    let P : Option (List (List (List ℕ))) → Type 0 = λ texts. IfErr a (IsRowsError texts) in
    subst P (ap (λ (b : List ℕ). rows_texts_at shapes b) e ∙ sym (texts_by r p shapes h)) l
