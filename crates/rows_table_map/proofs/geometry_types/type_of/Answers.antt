use Rattle.std.proofs.Common.{sym}
use Rattle.rows_table_map.proofs.KnownLemmas.{geometry_known, geometry_unknown}
use Rattle.rows_table_map.proofs.geometry_types.type_of.Goals as goal

pub returns-in-Ok : goal.returns-in-Ok
returns-in-Ok c = sym (geometry_known _ _ c.in-Ok.ensures)

pub returns-in-Err : goal.returns-in-Err
returns-in-Err c = sym (geometry_unknown _ c.in-Err.ensures.1)
