use Rattle.std.proofs.Common.{sym}
use Rattle.rows_jsonb.proofs.TypeLemmas.{type_found, type_missing}
use Rattle.rows_jsonb.proofs.types.JsonbType.of_byte.Goals as goal

pub returns-in-Ok : goal.returns-in-Ok
returns-in-Ok c = sym (type_found _ _ c.in-Ok.ensures)

pub returns-in-Err : goal.returns-in-Err
returns-in-Err c = sym (type_missing _ c.in-Err.ensures.1)
