use Rattle.mysql_binlog_events.proofs.NewestLemmas.{description_newest, table_map_newest}
use Rattle.mysql_binlog_events.proofs.laws.readers_know_the_newest.Goals as goal

pub returns-clause-description : goal.returns-clause-description
returns-clause-description c = λ first r said. description_newest first said r

pub returns-clause-table_map : goal.returns-clause-table_map
returns-clause-table_map c = λ version id r said. table_map_newest version id said r
