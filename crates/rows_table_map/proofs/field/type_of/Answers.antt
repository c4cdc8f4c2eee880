use Rattle.std.proofs.Common.{sym}
use Rattle.rows_table_map.proofs.KnownLemmas.{field_known, field_unknown}
use Rattle.rows_table_map.proofs.field.type_of.Goals as goal

pub returns-in-Ok : goal.returns-in-Ok
returns-in-Ok c = sym (field_known _ _ c.in-Ok.ensures)

pub returns-in-Err : goal.returns-in-Err
returns-in-Err c = sym (field_unknown _ c.in-Err.ensures.1)
