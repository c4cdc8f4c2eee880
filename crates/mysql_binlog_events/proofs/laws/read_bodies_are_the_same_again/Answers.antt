use Rattle.std.proofs.Common.{refl}
use Rattle.rows_table_map.proofs.MapLawLemmas.{map_whole}
use Rattle.events_bodies.proofs.BodyLemmas.{incident_whole}
use Rattle.events_bodies.proofs.QueryLemmas.{query_whole}
use Rattle.events_bodies.proofs.LoadQueryLemmas.{load_query_whole}
use Rattle.mysql_binlog_events.proofs.PlainBodyLemmas.{one_incident, one_user_var, one_table_map, user_var_whole}
use Rattle.mysql_binlog_events.proofs.StatementOneLemmas.{one_query, one_load_query}
use Rattle.mysql_binlog_events.proofs.OneWayLemmas.{same_again}
use Rattle.mysql_binlog_events.proofs.DescriptionOneLemmas.{description_same}
use Rattle.mysql_binlog_events.proofs.RowsOneLemmas.{rows_same}
use Rattle.mysql_binlog_events.proofs.laws.read_bodies_are_the_same_again.Goals as goal

pub returns-clause-incident : goal.returns-clause-incident
returns-clause-incident c = same_again _ _ _ _ tt one_incident incident_whole

pub returns-clause-user_var : goal.returns-clause-user_var
returns-clause-user_var c = same_again _ _ _ _ refl one_user_var user_var_whole

pub returns-clause-description : goal.returns-clause-description
returns-clause-description c = description_same

pub returns-clause-query : goal.returns-clause-query
returns-clause-query c = same_again _ _ _ _ refl one_query query_whole

pub returns-clause-load_query : goal.returns-clause-load_query
returns-clause-load_query c = same_again _ _ _ _ refl one_load_query load_query_whole

pub returns-clause-table_map : goal.returns-clause-table_map
returns-clause-table_map c = same_again _ _ _ _ refl (one_table_map 8) map_whole

pub returns-clause-rows : goal.returns-clause-rows
returns-clause-rows c = rows_same
