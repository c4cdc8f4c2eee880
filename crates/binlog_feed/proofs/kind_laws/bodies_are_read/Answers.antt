use Rattle.feed_checks.proofs.BodyLemmas.{query_body, rotate_body, xid_body, table_map_body, rows_event_body}
use Rattle.binlog_feed.proofs.kind_laws.bodies_are_read.Goals as goal

pub returns-clause-query : goal.returns-clause-query
returns-clause-query c = query_body

pub returns-clause-rotate : goal.returns-clause-rotate
returns-clause-rotate c = rotate_body

pub returns-clause-xid : goal.returns-clause-xid
returns-clause-xid c = xid_body

pub returns-clause-table_map : goal.returns-clause-table_map
returns-clause-table_map c = table_map_body

pub returns-clause-rows_event : goal.returns-clause-rows_event
returns-clause-rows_event c = rows_event_body
