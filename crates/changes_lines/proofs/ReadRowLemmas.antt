-- Rows, read one after the other, and the texts of their JSON.
use Rattle.std.proofs.Common.{◌≡◌, ◌<◌, ◌≤◌, ℕ, zero, suc, List, [], ◌∷◌, ◌++◌, length, map, Result, Ok, Err, refl, sym, ap, subst, ◌∙◌, append_assoc, arith}
use Rattle.std.specs.Prelude.{IfOk, codes}
use Rattle.std.specs.Borrow.{Bor}
use Rattle.std.proofs.lemmas.List.{append-nil, map-append}
use Rattle.std.proofs.lemmas.Bool.{lt-ltb}
use Rattle.feed_text.specs.Buffers.{text_in}
use Rattle.rows_errors.specs.declared.fault.RowsError.{RowsError}
use Rattle.rows_cells.specs.Images.{ColumnValue, ImageShape, image_at}
use Rattle.rows_cells.specs.EventRows.{images_at, row_at}
use Rattle.rows_jsonb.specs.Items.{Walked, walk, items_at}
use Rattle.rows_jsonb.proofs.ItemLemmas.{walk_on, walk_done}
use Rattle.feed_transactions.specs.MappedRows.{image_texts}
use Rattle.feed_transactions.specs.RowTexts.{images_text}
use Rattle.feed_transactions.specs.CheckedRows.{HasImageTexts}
use Rattle.changes_tables.specs.ShownColumns.{ColumnView}
use Rattle.changes_lines.specs.RowJson.{CellJson, IsRowJson, AreRowsJson, object_json}
use Rattle.changes_lines.specs.ReadCells.{AppendsImage}
use Rattle.changes_lines.specs.ReadRows.{ReadsRow, AppendsRow, after_rows, ReadsRows, AddsRead, AddsAllRead}
use Rattle.changes_lines.specs.TextLists.{HasTexts, ended}
use Rattle.changes_lines.specs.Updates.{ReadsBefore, AppendsAfter}
use Rattle.changes_lines.specs.declared.text_list.TextList.{TextList}
use Rattle.changes_lines.specs.declared.updates.Before.{Before}
use Rattle.changes_lines.proofs.ReadCellLemmas.{cells_have_text}
use Rattle.changes_lines.proofs.TextListLemmas.{more_open}

-- ---- one row

images_text_of : (t : List ColumnView) (shapes : List ImageShape) (images : List (List ColumnValue)) (json : List ℕ) → IsRowJson t shapes images json → (texts : List (List ℕ)) × (image_texts images ≡ Ok texts)
unfolding image_texts
images_text_of t (s ∷ []) (v ∷ []) json h = let a = cells_have_text t s.columns v h.0 h.1 in (a.0 ∷ [], rw a.1 refl)
images_text_of t (s ∷ u ∷ []) (v ∷ w ∷ []) json h =
    let a = cells_have_text t s.columns v h.0 h.2 in
    let b = cells_have_text t u.columns w h.1 h.3 in
    (a.0 ∷ b.0 ∷ [], rw (a.1, b.1) refl)
images_text_of t [] images json h = absurd h
images_text_of t (s ∷ []) [] json h = absurd h
images_text_of t (s ∷ []) (v ∷ w ∷ more) json h = absurd h
images_text_of t (s ∷ u ∷ []) [] json h = absurd h
images_text_of t (s ∷ u ∷ []) (v ∷ []) json h = absurd h
images_text_of t (s ∷ u ∷ []) (v ∷ w ∷ x ∷ more) json h = absurd h
images_text_of t (s ∷ u ∷ r ∷ others) images json h = absurd h

-- a row with JSON has texts in the feed
pub row_has_texts : (t : List ColumnView) (shapes : List ImageShape) (bytes rest json : List ℕ) → ReadsRow t shapes bytes rest json → HasImageTexts shapes bytes rest
row_has_texts t shapes bytes rest json r =
    let x = images_text_of t shapes r.images json r.is in
    (images_text x.0, record { images = r.images; texts = x.0; read = r.read; is = x.1; appended = refl })

-- a row of one image
pub one_reads : (t : List ColumnView) (s : ImageShape) (bytes rest : List ℕ) (values : List ColumnValue) (cells : List CellJson) → image_at s bytes ≡ Ok (values, rest) → IsRowJson t (s ∷ []) (values ∷ []) (object_json t cells) → ReadsRow t (s ∷ []) bytes rest (object_json t cells)
unfolding images_at
one_reads t s bytes rest values cells read is = record { images = values ∷ []; read = rw read refl; is = is }

pub one_appends : (t : List ColumnView) (s : ImageShape) (bytes before after : List ℕ) (r : Result (Bor (List ℕ)) RowsError) → IfOk r (λ rest. AppendsImage t s bytes rest.now before after) → IfOk r (λ rest. AppendsRow t (s ∷ []) bytes rest.now before after)
one_appends t s bytes before after (Ok x) h = record { json = object_json t h.json; reads = one_reads t s bytes x.now h.values h.json h.read (h.json, h.are, refl); appended = h.appended }
one_appends t s bytes before after (Err e) h = tt

-- an update
pub update_appends : (t : List ColumnView) (s u : ImageShape) (bytes middle rest old mid new changes : List ℕ) (b : Before) (first : ReadsBefore t s bytes middle b) → (second : AppendsAfter t u middle rest old mid first.cells changes) → new ≡ mid ++ (codes ",\"old\":" ++ object_json t second.changed) → AppendsRow t (s ∷ u ∷ []) bytes rest old new
unfolding images_at
update_appends t s u bytes middle rest old mid new changes b first second is = record {
  json = object_json t second.newest ++ (codes ",\"old\":" ++ object_json t second.changed);
  reads = record {
    images = first.values ∷ second.values ∷ [];
    read = rw (first.read, second.read) refl;
    is = (first.cells, second.cells, first.are, second.are, record { newest = second.newest; old = second.changed; are = second.update; is = refl });
  };
  appended = is ∙ ap (λ (l : List ℕ). l ++ (codes ",\"old\":" ++ object_json t second.changed)) second.appended ∙ append_assoc old (object_json t second.newest) (codes ",\"old\":" ++ object_json t second.changed);
}

-- ---- rows

are_one : (t : List ColumnView) (shapes : List ImageShape) (rows : List (List (List ColumnValue))) (row : List (List ColumnValue)) (xs : List (List ℕ)) (x : List ℕ) → AreRowsJson t shapes rows xs → IsRowJson t shapes row x → AreRowsJson t shapes (rows ++ row ∷ []) (xs ++ x ∷ [])
unfolding AreRowsJson
are_one t shapes [] row [] x h k = (k, tt)
are_one t shapes (r ∷ rows) row (y ∷ xs) x h k = (h.0, are_one t shapes rows row xs x h.1 k)
are_one t shapes [] row (y ∷ xs) x h k = absurd h
are_one t shapes (r ∷ rows) row [] x h k = absurd h

-- none yet
pub none_read_yet : (t : List ColumnView) (shapes : List ImageShape) (bytes : List ℕ) → ReadsRows t shapes bytes bytes []
unfolding AreRowsJson
none_read_yet t shapes bytes = record { rows = []; steps = length bytes; enough = omega arith; walked = refl; are = tt }

row_found : (shapes : List ImageShape) (bytes rest : List ℕ) (images : List (List ColumnValue)) → images_at shapes bytes ≡ Ok (images, rest) → length rest < length bytes → row_at shapes bytes ≡ Ok (images, rest)
unfolding row_at
row_found shapes bytes rest images read less = rw (read, lt-ltb (length rest) (length bytes) less) refl

-- one more
pub row_read : (t : List ColumnView) (shapes : List ImageShape) (bytes rest after json : List ℕ) (before : List (List ℕ)) → 0 < length rest → ReadsRow t shapes rest after json → length after < length rest → ReadsRows t shapes bytes rest before → ReadsRows t shapes bytes after (before ++ json ∷ [])
row_read t shapes bytes rest after json before some r less u = on u.steps u.enough u.walked
  where
    row : row_at shapes rest ≡ Ok (r.images, after)
    row = row_found shapes rest after r.images r.read less

    on : (n : ℕ) → length rest ≤ n → walk (row_at shapes) (length bytes) bytes ≡ after_rows u.rows (walk (row_at shapes) n rest) → ReadsRows t shapes bytes after (before ++ json ∷ [])
    on zero le walked = absurd (omega (arith, le, some))
    on (suc n) le walked = record {
      rows = u.rows ++ r.images ∷ [];
      steps = n;
      enough = omega (arith, less, le);
      walked = walked
          ∙ ap (after_rows u.rows) (walk_on (row_at shapes) n rest (Ok (r.images, after)) some le row)
          ∙ ap (λ (l : List (List (List ColumnValue))). let w : Walked (List (List ColumnValue)) = record { items = l; fault = (walk (row_at shapes) n after).fault } in w) (sym (append_assoc u.rows (r.images ∷ []) (walk (row_at shapes) n after).items));
      are = are_one t shapes u.rows r.images before json u.are r.is;
    }

-- all
pub all_read : (t : List ColumnView) (shapes : List ImageShape) (bytes rest : List ℕ) (json : List (List ℕ)) → length rest ≡ 0 → ReadsRows t shapes bytes rest json → AreRowsJson t shapes (items_at (row_at shapes) bytes).items json
all_read t shapes bytes [] json none u =
    rw (u.walked ∙ ap (after_rows u.rows) (walk_done (row_at shapes) u.steps), append-nil u.rows) u.are
all_read t shapes bytes (b ∷ rest) json none u = absurd (omega (arith, none))

-- ---- their texts

-- none was added
pub adds_none : (t : List ColumnView) (shapes : List ImageShape) (texts : TextList) (rest : List ℕ) → AddsRead t shapes texts rest rest texts
adds_none t shapes texts rest = record {
  json = [];
  reads = λ bytes before h. subst (λ (l : List (List ℕ)). ReadsRows t shapes bytes rest l) (sym (append-nil before)) h;
  adds = λ before h. subst (λ (l : List (List ℕ)). HasTexts texts l []) (sym (append-nil before)) h;
}

-- some, and others
pub adds_both : (t : List ColumnView) (shapes : List ImageShape) (old mid new : TextList) (a b c : List ℕ) → AddsRead t shapes old a b mid → AddsRead t shapes mid b c new → AddsRead t shapes old a c new
adds_both t shapes old mid new a b c g h = record {
  json = g.json ++ h.json;
  reads = λ bytes before k. subst (λ (l : List (List ℕ)). ReadsRows t shapes bytes c l) (append_assoc before g.json h.json) (h.reads bytes (before ++ g.json) (g.reads bytes before k));
  adds = λ before k. subst (λ (l : List (List ℕ)). HasTexts new l []) (append_assoc before (map ended g.json) (map ended h.json) ∙ ap (λ (l : List (List ℕ)). before ++ l) (sym (map-append ended g.json h.json))) (h.adds (before ++ map ended g.json) (g.adds before k));
}

-- a row was added, and its end
pub adds_row : (t : List ColumnView) (shapes : List ImageShape) (old mid new : TextList) (rest after : List ℕ) → 0 < length rest → AppendsRow t shapes rest after (text_in old.buffer) (text_in mid.buffer) → length after < length rest → mid.ends ≡ old.ends
    → ((before : List (List ℕ)) (json : List ℕ) → HasTexts mid before json → HasTexts new (before ++ ended json ∷ []) []) → AddsRead t shapes old rest after new
adds_row t shapes old mid new rest after some r less same end = record {
  json = r.json ∷ [];
  reads = λ bytes before h. row_read t shapes bytes rest after r.json before some r.reads less h;
  adds = λ before h. end before r.json (more_open old mid before [] r.json r.appended same h);
}

-- a row was added at once, with its end
pub adds_short : (t : List ColumnView) (shapes : List ImageShape) (old mid new : TextList) (rest after text json : List ℕ) → 0 < length rest → text ≡ ended json → ReadsRow t shapes rest after json → length after < length rest → text_in mid.buffer ≡ text_in old.buffer ++ text → mid.ends ≡ old.ends
    → ((texts : List (List ℕ)) (last : List ℕ) → HasTexts mid texts last → HasTexts new (texts ++ last ∷ []) []) → AddsRead t shapes old rest after new
adds_short t shapes old mid new rest after text json some is r less appended same close = record {
  json = json ∷ [];
  reads = λ bytes before h. row_read t shapes bytes rest after json before some r less h;
  adds = λ before h. rw (← is) (close before text (more_open old mid before [] text appended same h));
}

-- nothing was appended after them
pub adds_nothing : (t : List ColumnView) (shapes : List ImageShape) (old mid new : TextList) (rest after text : List ℕ) → text ≡ [] → text_in new.buffer ≡ text_in mid.buffer ++ text → new.ends ≡ mid.ends → AddsRead t shapes old rest after mid → AddsRead t shapes old rest after new
adds_nothing t shapes old mid new rest after text none appended same a = record {
  json = a.json;
  reads = a.reads;
  adds = λ before h. subst (λ (l : List ℕ). HasTexts new (before ++ map ended a.json) l) none (more_open mid new (before ++ map ended a.json) [] text appended same (a.adds before h));
}

-- all rows were added
pub adds_all : (t : List ColumnView) (shapes : List ImageShape) (old new : TextList) (bytes rest : List ℕ) → length rest ≡ 0 → AddsRead t shapes old bytes rest new → AddsAllRead t shapes bytes old new
adds_all t shapes old new bytes rest none a =
    record { json = a.json; are = all_read t shapes bytes rest a.json none (a.reads bytes [] (none_read_yet t shapes bytes)); adds = a.adds }
