use Rattle.changes_tables.specs.ShownColumns.{column_view}
use Rattle.changes_cells.proofs.fields.put_next_field.Goals as goal

pub returns-in_default : goal.returns-in_default
returns-in_default c = c.put_next_fixed.ensures (column_view c.args.column.now)
