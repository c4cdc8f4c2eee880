use Rattle.std.proofs.Common.{sym}
use Rattle.rows_table_map.proofs.TypeNumberLemmas.{type_known, type_unknown}
use Rattle.rows_table_map.proofs.columns.column_type.Goals as goal

pub returns-in-Ok : goal.returns-in-Ok
returns-in-Ok c = sym (type_known _ _ c.in-Ok.ensures)

pub returns-in-Err : goal.returns-in-Err
returns-in-Err c = sym (type_unknown _ c.in-Err.ensures.1)
