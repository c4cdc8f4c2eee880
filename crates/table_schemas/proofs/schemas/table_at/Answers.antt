use Rattle.std.proofs.Common.{sym, ap, ◌∙◌}
use Rattle.std.specs.Option.{option_copied}
use Rattle.table_schemas.proofs.StartLemmas.{found_at, missed_at, none_copied}
use Rattle.table_schemas.proofs.schemas.table_at.Goals as goal

pub returns-in-Some : goal.returns-in-Some
returns-in-Some c =
    found_at c.args.names.now c.args.event.now c.args.schemas.now c.loop-from.from-index c.from-item.result c.in-Some.table.now c.loop-from-test.true c.from-item.is
    (sym c.table_at.ensures ∙ ap option_copied c.in-Some.is) c.loop-from.invariant

pub loop-from-preserved : goal.loop-from-preserved
loop-from-preserved c =
    missed_at c.args.names.now c.args.event.now c.args.schemas.now c.loop-from.from-index c.from-item.result c.loop-from-test.true c.from-item.is
    (sym c.table_at.ensures ∙ none_copied c.table_at.result c.in_default.not-Some) c.loop-from.invariant
