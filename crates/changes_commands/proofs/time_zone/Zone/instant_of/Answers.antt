use Rattle.std.proofs.Common.{refl}
use Rattle.changes_commands.proofs.ZoneLemmas.{table_read}
use Rattle.changes_commands.proofs.time_zone.Zone.instant_of.Goals as goal

pub returns-in-Table-clause-some : goal.returns-in-Table-clause-some
returns-in-Table-clause-some c = (table_read c.args.self.now c.in-Table.table _ _ c.args.time _ c.ok-in-Table.result c.in-Table.is c.tzif.ensures refl c.to_timestamp-in-Table.ensures c.ok-in-Table.ensures.value).0

pub returns-in-Table-clause-none : goal.returns-in-Table-clause-none
returns-in-Table-clause-none c = (table_read c.args.self.now c.in-Table.table _ _ c.args.time _ c.ok-in-Table.result c.in-Table.is c.tzif.ensures refl c.to_timestamp-in-Table.ensures c.ok-in-Table.ensures.value).1
