-- A row that is read part by part.
use Rattle.std.proofs.Common.{◌≡◌, ◌⊎◌, ℕ, List, [], ◌∷◌, Ok, Err, Some, Result, refl, sym, ap, ◌∙◌, subst, arith, inl, inr}
use Rattle.rows_errors.specs.declared.fault.RowsError.{RowsError}
use Rattle.rows_errors.specs.Readings.{Reading, ◌>>=◌}
use Rattle.rows_cells.specs.EventRows.{row_at}
use Rattle.rows_cells.specs.Images.{ColumnValue}
use Rattle.rows_cells.specs.CellViews.{cell_value}
use Rattle.rows_cells.specs.RowViews.{IsBetweenRows, IsInRow, ReturnsPart, RowAndRest, remaining_row, row_by, row_shape, with_cell}
use Rattle.rows_cells.specs.declared.rows.RowPart.{RowPart}
use Rattle.rows_cells.specs.declared.rows.RowPart.TheVariants as part
use Rattle.rows_cells.specs.declared.rows.RowsCursor.{RowsCursor}
use Rattle.rows_cells.specs.declared.rows.Stage.{Stage}
use Rattle.rows_cells.specs.declared.rows.Stage.TheVariants.{Start}
use Rattle.changes_statements.specs.ReadRows.{ReadsRow}

abbrev Row : Type 0
Row = List (List ColumnValue)

abbrev pub with : (Row → Row) → Reading RowAndRest → Reading RowAndRest
with f r = r >>= λ x. Ok (f x.0, x.1)

-- some parts of the row were read, and the others remain
pub record RowSoFar (old now : RowsCursor) : Type 0 where
  pub parts : Row → Row
  pub left : remaining_row old ≡ with parts (remaining_row now)
  pub plan : now.plan ≡ old.plan
  pub is_at : (now ≡ old) ⊎ IsInRow now

same : (r : Reading RowAndRest) → r ≡ with (λ row. row) r
same (Ok x) = refl
same (Err e) = refl

both : (f g : Row → Row) (r : Reading RowAndRest) → with f (with g r) ≡ with (λ row. f (g row)) r
both f g (Ok x) = refl
both f g (Err e) = refl

pub none_so_far : (c : RowsCursor) → RowSoFar c c
none_so_far c = record { parts = λ row. row; left = same (remaining_row c); plan = refl; is_at = inl refl }

part_read : (old now new : RowsCursor) (f : Row → Row) → remaining_row now ≡ with f (remaining_row new) → IsInRow new → new.plan ≡ now.plan → RowSoFar old now → RowSoFar old new
part_read old now new f e inside plan h = record {
  parts = λ row. h.parts (f row);
  left = h.left ∙ ap (with h.parts) e ∙ both h.parts f (remaining_row new);
  plan = plan ∙ h.plan;
  is_at = inr inside;
}

pub kept : (old now new : RowsCursor) (x : RowPart) → ReturnsPart now (Ok (Some x)) new → (x ≡ part.EndOfRow → ⊥) → RowSoFar old now → RowSoFar old new
kept old now new (part.Cell column cell) r other h = part_read old now new (with_cell (record { column = column; value = cell_value cell })) r.1.0 r.1.2 r.3 h
kept old now new part.NextImage r other h = part_read old now new (λ row. [] ∷ row) r.1.0 r.1.1 r.3 h
kept old now new part.EndOfRow r other h = absurd (other refl)

begun : (c : RowsCursor) (bytes : List ℕ) → IsBetweenRows c bytes → remaining_row c ≡ row_at (row_shape c.plan) bytes
begun c bytes h = ap (λ (s : Stage). row_by s c) h.0 ∙ ap (row_at (row_shape c.plan)) h.1

pub row_read : (old now new : RowsCursor) (bytes : List ℕ) (x : RowPart) → x ≡ part.EndOfRow → ReturnsPart now (Ok (Some x)) new → IsBetweenRows old bytes → RowSoFar old now → ReadsRow bytes old new
row_read old now new bytes (part.Cell column cell) e r at h = let no : ⊥ = grind (arith, e) in absurd no
row_read old now new bytes part.NextImage e r at h = let no : ⊥ = grind (arith, e) in absurd no
row_read old now new bytes part.EndOfRow e r at h = record {
  row = h.parts ([] ∷ []);
  rest = new.cells.rest.now;
  read = sym (begun old bytes at) ∙ h.left ∙ ap (with h.parts) r.1.0;
  after = r.1.1;
  plan = r.3 ∙ h.plan;
}

pub no_row : (old now : RowsCursor) (bytes : List ℕ) → IsBetweenRows old bytes → IsBetweenRows now [] → RowSoFar old now → (bytes ≡ []) × (now ≡ old)
no_row old now bytes at none h = go h.is_at
  where
    go : (now ≡ old) ⊎ IsInRow now → (bytes ≡ []) × (now ≡ old)
    go (inl e) = (sym at.1 ∙ ap (λ (c : RowsCursor). c.cells.rest.now) (sym e) ∙ none.1, e)
    go (inr inside) = absurd (inside none.0)
