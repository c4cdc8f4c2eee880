use Rattle.std.proofs.Common.{inr, sym}
use Rattle.rows_cells.specs.CellViews.{cell_value}
use Rattle.rows_cells.proofs.KeptLemmas.{kept_of, kept_read, kept_failed}
use Rattle.rows_cells.proofs.value_field.BinlogValueMyDeserialize.deserialize.Goals as goal

pub returns-in-Ok-to_value-clause-ok : goal.returns-in-Ok-to_value-clause-ok
returns-in-Ok-to_value-clause-ok c =
    kept_read _ (cell_value c.in-Ok.cell) _ _ _ (rw c.format.ensures at (sym c.in-Ok.ensures.value)) (kept_of _ _ c.in-Ok-to_value.ensures.ok)

pub returns-in-Err-clause-err : goal.returns-in-Err-clause-err
returns-in-Err-clause-err c = inr (kept_failed _ _ _ (rw c.format.ensures at (sym c.in-Err.ensures.value)))
