use Rattle.std.proofs.Common.{sym, ◌∙◌}
use Rattle.rows_table_map.proofs.NumericLemmas.{numeric_known, numeric_unknown}
use Rattle.table_schemas.proofs.signs.is_numeric.Goals as goal

pub returns-in-Ok : goal.returns-in-Ok
returns-in-Ok c = c.is_numeric_type.ensures ∙ sym (numeric_known _ _ c.in-Ok.ensures)

pub returns-in-Err : goal.returns-in-Err
returns-in-Err c = sym (numeric_unknown _ c.in-Err.ensures.1)
