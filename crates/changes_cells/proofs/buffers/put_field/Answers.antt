use Rattle.std.proofs.Common.{codes, refl}
use Rattle.rows_cells.specs.CellValues.{null}
use Rattle.changes_cells.specs.CellJson.{IsCellJson}
use Rattle.changes_cells.proofs.buffers.put_field.Goals as goal

pub returns-in-Ok-clause-ok : goal.returns-in-Ok-clause-ok
unfolding IsCellJson
returns-in-Ok-clause-ok g c = record {
  value = null;
  read = rw c.if-field.true refl;
  text = record { text = codes "null"; such = refl; appended = c.in-Ok.ensures.ok };
}
