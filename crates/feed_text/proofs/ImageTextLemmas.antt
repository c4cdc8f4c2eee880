-- The texts of cells, in sequence.
use Rattle.std.proofs.Common.{◌≡◌, ◌⊎◌, ◌≤◌, ◌+◌, ◌*◌, subst, false, true, ℕ, suc, List, [], ◌∷◌, ◌++◌, length, take, Option, Some, None, Result, Ok, Err, inl, inr, refl, sym, ap, ◌∙◌, append_assoc, arith}
use Rattle.std.proofs.lemmas.List.{append-nil, length-take-le, take-append-le, take-take}
use Rattle.rows_errors.specs.Readings.{Reading, ◌>>=◌}
use Rattle.std.proofs.Math.Seq.{take-append_seam}
use Rattle.std.specs.Prelude.{IsSome}
use Rattle.rows_errors.specs.declared.fault.RowsError.{RowsError}
use Rattle.rows_errors.specs.declared.fault.RowsError.TheVariants.{Decimal}
use Rattle.rows_jsonb.specs.JsonParsing.{Parses}
use Rattle.rows_cells.specs.declared.cell.CellRef.{CellRef}
use Rattle.rows_cells.specs.declared.cell.CellRef.TheVariants as ref
use Rattle.rows_cells.specs.CellViews.{cell_value, IsReadable}
use Rattle.rows_cells.specs.declared.image.ImageCells.{ImageCells}
use Rattle.rows_cells.specs.declared.image.ImageField.{ImageField}
use Rattle.rows_cells.specs.Images.{ColumnValue}
use Rattle.rows_cells.proofs.FieldLemmas.{bind-ok}
use Rattle.rows_cells.specs.ImageViews.{remaining_cells, cells_count, ReturnsCell, IsNextField, SkipsField}
use Rattle.feed_text.specs.CellText.{label, cell_text, Appends, IsCellError, PacksNone}
use Rattle.feed_text.specs.FieldText.{WritesField}
use Rattle.feed_text.specs.ImageText.{Cells, cells_then, cells_text, Gives, WritesFields, AppendsFields, PutsCells, StopsWithin, IsCellsError}

abbrev text_after : List ℕ → List ℕ → Reading (List ℕ)
text_after first more = Ok (first ++ more)

abbrev texts_after : List ColumnValue → List ℕ → Reading (List ℕ)
texts_after vs first = cells_text vs >>= text_after first

-- cells, and more of them
texts_both : (vs ws : List ColumnValue) (s t : List ℕ) → cells_text vs ≡ Ok s → cells_text ws ≡ Ok t → cells_text (vs ++ ws) ≡ Ok (s ++ t)
unfolding cells_text
texts_both [] ws s t h e = let none : (let n : List ℕ = [] in n ≡ s) = cc in rw (← none) e
texts_both (w ∷ vs) ws s t h e =
    let a = bind-ok (cell_text w.column w.value) (texts_after vs) s h in
    let b = bind-ok (cells_text vs) (text_after a.0) s a.2 in
    let whole : a.0 ++ b.0 ≡ s = let found : (let x : Reading (List ℕ) = Ok (a.0 ++ b.0) in x ≡ Ok s) = b.2 in cc in
    rw (a.1, texts_both vs ws b.0 t b.1 e) (ap (λ (l : List ℕ). Ok l) (sym (append_assoc a.0 b.0 t) ∙ ap (λ (l : List ℕ). l ++ t) whole))

after_both : (vs ws : List ColumnValue) (one two three : Reading Cells) → one ≡ cells_then vs two → two ≡ cells_then ws three → one ≡ cells_then (vs ++ ws) three
after_both vs ws one two (Ok x) h e = h ∙ rw e (ap (λ (l : List ColumnValue). Ok (l, x.1)) (sym (append_assoc vs ws x.0)))
after_both vs ws one two (Err f) h e = h ∙ rw e refl

gives_both : (old mid new : ImageCells) (s t : List ℕ) → Gives old mid s → Gives mid new t → Gives old new (s ++ t)
gives_both old mid new s t g h = record {
  given = g.given ++ h.given;
  read = after_both g.given h.given (remaining_cells old) (remaining_cells mid) (remaining_cells new) g.read h.read;
  is = texts_both g.given h.given s t g.is h.is;
  fewer = let a = g.fewer in let b = h.fewer in omega (arith, a, b);
}

-- one cell
gives_one : (mid new : ImageCells) (t : List ℕ) (v : ColumnValue) → remaining_cells mid ≡ cells_then (v ∷ []) (remaining_cells new) → cells_count mid ≡ suc (cells_count new) → cell_text v.column v.value ≡ Ok t → Gives mid new t
unfolding cells_text
gives_one mid new t v left count is = record { given = v ∷ []; read = left; is = rw is (ap (λ (l : List ℕ). Ok l) (append-nil t)); fewer = omega (arith, count) }

-- no cell was consumed yet
pub none_given : (c : ImageCells) → Gives c c []
unfolding cells_text
none_given c = record { given = []; read = same (remaining_cells c); is = refl; fewer = omega arith }
  where
    same : (o : Reading Cells) → o ≡ cells_then [] o
    same (Ok x) = refl
    same (Err e) = refl

-- a field was written after its label
pub field_written : (old mid new : ImageCells) (f : ImageField) (at end start after : ℕ) (before one two three rest : List ℕ) → WritesFields old mid at before one end → IsNextField mid f
    → take start two ≡ take end one ++ label f.column → WritesField f.is_null f.format f.bytes.now start two three after rest → SkipsField mid rest new → after ≤ length three → WritesFields old new at before three after
field_written old mid new f at end start after before one two three rest w n l s p within = record {
  text = w.text ++ (label f.column ++ s.text);
  gives = gives_both old mid new w.text (label f.column ++ s.text) w.gives (gives_one mid new (label f.column ++ s.text) (record { column = f.column; value = s.value }) (rw n.column (p.0 s.value (sym n.value ∙ s.read))) p.1 (rw s.is refl));
  within = within;
  written =
      s.written
      ∙ ap (λ (t : List ℕ). t ++ s.text) (l ∙ ap (λ (t : List ℕ). t ++ label f.column) w.written)
      ∙ append_assoc (take at before ++ w.text) (label f.column) s.text
      ∙ append_assoc (take at before) w.text (label f.column ++ s.text);
}

-- a label was written and no field after it: the text before is unchanged
pub prefix_stays : (old mid : ImageCells) (at end start column : ℕ) (before one two three : List ℕ) → WritesFields old mid at before one end → end ≤ start → take start two ≡ take end one ++ label column → take start three ≡ take start two → end ≤ length three
    → WritesFields old mid at before three end
prefix_stays old mid at end start column before one two three w le l s room = record {
  text = w.text;
  gives = w.gives;
  within = room;
  written =
      sym (take-take end start three le)
      ∙ ap (take end) (s ∙ l)
      ∙ take-append-le end (take end one) (label column) (let k = w.within in let n = length-take-le end one k in omega (arith, n))
      ∙ take-take end end one (omega arith)
      ∙ w.written;
}

-- nothing was written yet
pub none_written : (c : ImageCells) (at : ℕ) (before : List ℕ) → at ≤ length before → WritesFields c c at before before at
none_written c at before le = record { text = []; gives = none_given c; within = le; written = sym (append-nil (take at before)) }

-- the text of some cells was written, and there is room for the others
pub record WritesWithRoom (old left : ImageCells) (at : ℕ) (before after : List ℕ) (end : ℕ) : Type 0 where
  pub writes : WritesFields old left at before after end
  pub room : end + 216 * cells_count left ≤ length after

-- nothing was appended yet
pub none_appended : (c : ImageCells) (before : List ℕ) → AppendsFields c c before before
none_appended c before = record { text = []; gives = none_given c; appended = sym (append-nil before) }

-- more was appended
pub more_appended : (old mid new : ImageCells) (before one two : List ℕ) → AppendsFields old mid before one → AppendsFields mid new one two → AppendsFields old new before two
more_appended old mid new before one two a b = record {
  text = a.text ++ b.text;
  gives = gives_both old mid new a.text b.text a.gives b.gives;
  appended = b.appended ∙ ap (λ (t : List ℕ). t ++ b.text) a.appended ∙ append_assoc before a.text b.text;
}

-- a cell was appended
pub cell_appended : (mid new : ImageCells) (column : ℕ) (cell : CellRef) (one two : List ℕ) → ReturnsCell mid (Ok (Some (column, cell))) new → Appends (cell_text column (cell_value cell)) one two → AppendsFields mid new one two
cell_appended mid new column cell one two t a = either (cell_text column (cell_value cell)) refl a
  where
    either : (o : Reading (List ℕ)) → o ≡ cell_text column (cell_value cell) → Appends o one two → AppendsFields mid new one two
    either (Err e) h b = absurd b
    either (Ok text) h b = record { text = text; gives = gives_one mid new text (record { column = column; value = cell_value cell }) t.0 t.1 (sym h); appended = b }

-- all cells were consumed
pub all_put : (old mid new : ImageCells) (before after : List ℕ) → AppendsFields old mid before after → (let none : Option (ℕ × CellRef) = None in ReturnsCell mid (Ok none) new) → PutsCells old new before after
all_put old mid new before after a t = rw t.2 (record {
  given = a.gives.given;
  text = a.text;
  read = a.gives.read ∙ ap (cells_then a.gives.given) t.0 ∙ ap (λ (l : List ColumnValue). Ok (l, mid.rest.now)) (append-nil a.gives.given);
  is = a.gives.is;
  appended = a.appended;
  none_left = t.0;
  count = t.1;
})

-- a cell can't be read
pub stops_unread : (e : RowsError) (old mid new : ImageCells) (before after : List ℕ) → AppendsFields old mid before after → (let fault : Result (Option (ℕ × CellRef)) RowsError = Err e in ReturnsCell mid fault new) → StopsWithin e old before after
stops_unread e old mid new before after a t = record { given = a.gives.given; text = a.text; left = remaining_cells mid; read = a.gives.read; is = a.gives.is; why = inr (inl t.0); appended = a.appended }

-- a decimal that was read is a packed decimal
packs_some : (cell : CellRef) → IsReadable cell → PacksNone cell → ⊥
packs_some (ref.Decimal precision scale b) readable none = let clash : false ≡ true = subst (λ (o : Option (List ℕ)). IsSome o) none readable in absurd cc
packs_some _ readable none = absurd none

-- so the only error of a cell that was read is that of its JSON document
document_alone : (e : RowsError) (column : ℕ) (cell : CellRef) → IsReadable cell → ((e ≡ Decimal) × PacksNone cell) ⊎ Parses (λ (t : List ℕ). t) (Err e) (cell_text column (cell_value cell))
    → Parses (λ (t : List ℕ). t) (Err e) (cell_text column (cell_value cell))
document_alone e column cell readable (inl none) = absurd (packs_some cell readable none.1)
document_alone e column cell readable (inr why) = why

-- a cell has no text, or out of memory
pub stops_unwritten : (e : RowsError) (old mid new : ImageCells) (column : ℕ) (cell : CellRef) (before one two : List ℕ) → AppendsFields old mid before one → ReturnsCell mid (Ok (Some (column, cell))) new → IsCellError e cell (cell_text column (cell_value cell)) one two → StopsWithin e old before two
stops_unwritten e old mid new column cell before one two a t r = record {
  given = a.gives.given;
  text = a.text;
  left = remaining_cells mid;
  read = a.gives.read;
  is = a.gives.is;
  why = inr (inr (record { column = column; value = cell_value cell }, remaining_cells new, t.0, document_alone e column cell t.2 r.0));
  appended = r.1 ∙ a.appended;
}

-- what was appended is removed
pub forgotten : (e : RowsError) (old new : ImageCells) (before one two : List ℕ) (n : ℕ) → StopsWithin e old before one → n ≡ length before → two ≡ take n one → new ≡ old → IsCellsError e old new before two
forgotten e old new before one two n s len cut same = record {
  given = s.given;
  text = s.text;
  left = s.left;
  read = s.read;
  is = s.is;
  why = s.why;
  cells = same;
  unchanged = cut ∙ rw (len, s.appended) (take-append_seam before s.text);
}
