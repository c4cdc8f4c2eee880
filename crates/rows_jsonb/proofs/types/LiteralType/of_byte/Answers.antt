use Rattle.std.proofs.Common.{sym}
use Rattle.rows_jsonb.proofs.TypeLemmas.{literal_found, literal_missing}
use Rattle.rows_jsonb.proofs.types.LiteralType.of_byte.Goals as goal

pub returns-in-Ok : goal.returns-in-Ok
returns-in-Ok c = sym (literal_found _ _ c.in-Ok.ensures)

pub returns-in-Err : goal.returns-in-Err
returns-in-Err c = sym (literal_missing _ c.in-Err.ensures.1)
