-- The values of an image, in order.
use Rattle.std.proofs.Common.{◌≡◌, ℕ, List, [], ◌∷◌, ◌++◌, Option, Some, Ok, Err, refl, sym, ap, ◌∙◌, append_assoc}
use Rattle.std.specs.List.{AllZip}
use Rattle.rows_errors.specs.declared.fault.RowsError.{RowsError}
use Rattle.rows_errors.specs.Readings.{Reading, ◌>>=◌}
use Rattle.rows_cells.specs.CellViews.{cell_value, Holds}
use Rattle.rows_cells.specs.Images.{ColumnValue}
use Rattle.rows_cells.specs.ImageViews.{remaining_cells}
use Rattle.rows_cells.specs.declared.cell.CellRef.{CellRef}
use Rattle.rows_cells.specs.declared.image.ImageCells.{ImageCells}
use Rattle.rows_cells.specs.declared.binlog_value.BinlogValue.{BinlogValue}
use Rattle.rows_event_body.specs.RowImages.{IsHeld, ReadsValues}

-- cells, and the bytes after them
abbrev pub Cells : Type 0
Cells = List ColumnValue × List ℕ

-- these cells before the remaining ones
abbrev pub after : List ColumnValue → Cells → Reading Cells
after cells left = Ok (cells ++ left.0, left.1)

-- the values so far, and the remaining cells
pub record HasRead (old : ImageCells) (values : List (Option BinlogValue)) (now : ImageCells) : Type 0 where
  pub cells : List ColumnValue
  pub held : AllZip IsHeld cells values
  pub left : remaining_cells old ≡ (remaining_cells now >>= after cells)

no_cells : (o : Reading Cells) → o ≡ (o >>= after [])
no_cells (Ok x) = refl
no_cells (Err e) = refl

pub none_read : (old : ImageCells) (values : List (Option BinlogValue)) → values ≡ [] → HasRead old values old
none_read old values h = record { cells = []; held = rw h tt; left = no_cells (remaining_cells old) }

one_held : (cells : List ColumnValue) (values : List (Option BinlogValue)) (cell : ColumnValue) (v : BinlogValue) → AllZip IsHeld cells values → Holds cell.value v → AllZip IsHeld (cells ++ cell ∷ []) (values ++ Some v ∷ [])
one_held [] [] cell v h is = (is, tt)
one_held (c ∷ cells) (w ∷ values) cell v h is = (h.0, one_held cells values cell v h.1 is)
one_held [] (w ∷ values) cell v h is = absurd h
one_held (c ∷ cells) [] cell v h is = absurd h

one_left : (cells : List ColumnValue) (cell : ColumnValue) (o : Reading Cells) → ((o >>= after (cell ∷ [])) >>= after cells) ≡ (o >>= after (cells ++ cell ∷ []))
one_left cells cell (Ok x) = ap (λ (l : List ColumnValue). placed l x.1) (sym (append_assoc cells (cell ∷ []) x.0))
  where
    placed : List ColumnValue → List ℕ → Reading Cells
    placed l rest = Ok (l, rest)
one_left cells cell (Err e) = refl

-- one more cell
pub one_read : (old now new : ImageCells) (values : List (Option BinlogValue)) (column_index : ℕ) (c : CellRef) (v : BinlogValue) → HasRead old values now
    → remaining_cells now ≡ (remaining_cells new >>= after (record { column = column_index; value = cell_value c } ∷ [])) → Holds (cell_value c) v → HasRead old (values ++ Some v ∷ []) new
one_read old now new values column_index c v h takes is =
    let cell : ColumnValue = record { column = column_index; value = cell_value c } in
    record {
      cells = h.cells ++ cell ∷ [];
      held = one_held h.cells values cell v h.held is;
      left = h.left ∙ ap (λ (o : Reading Cells). o >>= after h.cells) takes ∙ one_left h.cells cell (remaining_cells new);
    }

-- all cells were read
pub all_read : (old now : ImageCells) (values : List (Option BinlogValue)) → HasRead old values now → remaining_cells now ≡ Ok ([], now.rest.now) → ReadsValues old values now
all_read old now values h none = record { cells = h.cells; read = h.left ∙ rw none (ap (λ (l : List ColumnValue). placed l now.rest.now) (no_more h.cells)); held = h.held }
  where
    placed : List ColumnValue → List ℕ → Reading Cells
    placed l rest = Ok (l, rest)

    no_more : (l : List ColumnValue) → l ++ [] ≡ l
    no_more [] = refl
    no_more (x ∷ l) = ap (λ t. x ∷ t) (no_more l)

-- the next cell can't be read
pub none_more : (old now : ImageCells) (values : List (Option BinlogValue)) (e : RowsError) → HasRead old values now → remaining_cells now ≡ Err e → remaining_cells old ≡ Err e
none_more old now values e h f = h.left ∙ rw f refl
