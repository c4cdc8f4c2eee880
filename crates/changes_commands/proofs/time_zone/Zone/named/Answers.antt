use Rattle.std.proofs.Common.{rules, sym, ◌∙◌}
use Rattle.changes_commands.proofs.ZoneLemmas.{named_table, no_offset}
use Rattle.changes_commands.proofs.time_zone.Zone.named.Goals as goal

pub returns-in-None : goal.returns-in-None
returns-in-None g c = named_table c.args.name.now c.table.result (no_offset c.args.name.now (sym c.eq.ensures ∙ c.if-eq.false) (search rules)) c.table.ensures
