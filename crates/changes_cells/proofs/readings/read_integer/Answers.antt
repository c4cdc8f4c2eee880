use Rattle.std.proofs.Common.{IfNone, sym, subst}
use Rattle.changes_cells.specs.FieldJson.{LacksInteger}
use Rattle.changes_cells.proofs.readings.read_integer.Goals as goal

pub returns-then-is_int-clause-none : goal.returns-then-is_int-clause-none
returns-then-is_int-clause-none c = subst (λ f. IfNone c.read_int.result (LacksInteger f c.args.bytes.now)) (sym c.if-is_int.ensures) c.read_int.ensures.none
