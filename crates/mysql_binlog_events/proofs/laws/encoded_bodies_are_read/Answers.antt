use Rattle.mysql_binlog_events.proofs.PlainBodyLemmas.{one_rotate, one_xid, one_rand, one_intvar, one_block, one_incident, one_rows_query, one_user_var, one_table_map}
use Rattle.mysql_binlog_events.proofs.StatementOneLemmas.{one_query, one_load_query}
use Rattle.mysql_binlog_events.proofs.GtidOneLemmas.{one_gtid}
use Rattle.mysql_binlog_events.proofs.DescriptionOneLemmas.{one_description}
use Rattle.mysql_binlog_events.proofs.RowsOneLemmas.{one_rows_event}
use Rattle.mysql_binlog_events.proofs.laws.encoded_bodies_are_read.Goals as goal

pub returns-clause-rotate : goal.returns-clause-rotate
returns-clause-rotate c = one_rotate

pub returns-clause-xid : goal.returns-clause-xid
returns-clause-xid c = one_xid

pub returns-clause-rand : goal.returns-clause-rand
returns-clause-rand c = one_rand

pub returns-clause-intvar : goal.returns-clause-intvar
returns-clause-intvar c = one_intvar

pub returns-clause-begin_load_query : goal.returns-clause-begin_load_query
returns-clause-begin_load_query c = one_block

pub returns-clause-incident : goal.returns-clause-incident
returns-clause-incident c = one_incident

pub returns-clause-rows_query : goal.returns-clause-rows_query
returns-clause-rows_query c = one_rows_query

pub returns-clause-user_var : goal.returns-clause-user_var
returns-clause-user_var c = one_user_var

pub returns-clause-description : goal.returns-clause-description
returns-clause-description c = one_description

pub returns-clause-query : goal.returns-clause-query
returns-clause-query c = one_query

pub returns-clause-load_query : goal.returns-clause-load_query
returns-clause-load_query c = one_load_query

pub returns-clause-gtid : goal.returns-clause-gtid
returns-clause-gtid c = one_gtid

pub returns-clause-table_map : goal.returns-clause-table_map
returns-clause-table_map c = one_table_map

pub returns-clause-rows : goal.returns-clause-rows
returns-clause-rows c = one_rows_event
