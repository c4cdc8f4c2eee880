use Rattle.std.proofs.Common.{ap, sym, ◌∙◌}
use Rattle.changes_tables.specs.ColumnParts.{type_or_unknown}
use Rattle.changes_tables.proofs.types.type_of.Goals as goal

pub returns-in-Ok : goal.returns-in-Ok
returns-in-Ok c = ap type_or_unknown (sym c.in-Ok.is ∙ c.real_type.ensures)

pub returns-in-Err : goal.returns-in-Err
returns-in-Err c = ap type_or_unknown (sym c.in-Err.is ∙ c.real_type.ensures)
