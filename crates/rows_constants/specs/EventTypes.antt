-- The types of binary log events: the fifth byte of an event header (MySQL's `Log_event_type`).
use Rattle.std.specs.Prelude.{ℕ}
use Rattle.rows_constants.specs.declared.event_type.EventType.{EventType}
use Rattle.rows_constants.specs.declared.event_type.EventType.TheVariants.{UNKNOWN_EVENT, START_EVENT_V3, QUERY_EVENT, STOP_EVENT, ROTATE_EVENT, INTVAR_EVENT, LOAD_EVENT, SLAVE_EVENT, CREATE_FILE_EVENT, APPEND_BLOCK_EVENT, EXEC_LOAD_EVENT, DELETE_FILE_EVENT, NEW_LOAD_EVENT, RAND_EVENT, USER_VAR_EVENT, FORMAT_DESCRIPTION_EVENT, XID_EVENT, BEGIN_LOAD_QUERY_EVENT, EXECUTE_LOAD_QUERY_EVENT, TABLE_MAP_EVENT, PRE_GA_WRITE_ROWS_EVENT, PRE_GA_UPDATE_ROWS_EVENT, PRE_GA_DELETE_ROWS_EVENT, WRITE_ROWS_EVENT_V1, UPDATE_ROWS_EVENT_V1, DELETE_ROWS_EVENT_V1, INCIDENT_EVENT, HEARTBEAT_EVENT, IGNORABLE_EVENT, ROWS_QUERY_EVENT, WRITE_ROWS_EVENT, UPDATE_ROWS_EVENT, DELETE_ROWS_EVENT, GTID_EVENT, ANONYMOUS_GTID_EVENT, PREVIOUS_GTIDS_EVENT, TRANSACTION_CONTEXT_EVENT, VIEW_CHANGE_EVENT, XA_PREPARE_LOG_EVENT, PARTIAL_UPDATE_ROWS_EVENT, TRANSACTION_PAYLOAD_EVENT, GTID_TAGGED_LOG_EVENT}

-- the number of an event type
abbrev pub event_type_number : EventType → ℕ
event_type_number UNKNOWN_EVENT = 0x0
event_type_number START_EVENT_V3 = 0x1
event_type_number QUERY_EVENT = 0x2
event_type_number STOP_EVENT = 0x3
event_type_number ROTATE_EVENT = 0x4
event_type_number INTVAR_EVENT = 0x5
event_type_number LOAD_EVENT = 0x6
event_type_number SLAVE_EVENT = 0x7
event_type_number CREATE_FILE_EVENT = 0x8
event_type_number APPEND_BLOCK_EVENT = 0x9
event_type_number EXEC_LOAD_EVENT = 0xa
event_type_number DELETE_FILE_EVENT = 0xb
event_type_number NEW_LOAD_EVENT = 0xc
event_type_number RAND_EVENT = 0xd
event_type_number USER_VAR_EVENT = 0xe
event_type_number FORMAT_DESCRIPTION_EVENT = 0xf
event_type_number XID_EVENT = 0x10
event_type_number BEGIN_LOAD_QUERY_EVENT = 0x11
event_type_number EXECUTE_LOAD_QUERY_EVENT = 0x12
event_type_number TABLE_MAP_EVENT = 0x13
event_type_number PRE_GA_WRITE_ROWS_EVENT = 0x14
event_type_number PRE_GA_UPDATE_ROWS_EVENT = 0x15
event_type_number PRE_GA_DELETE_ROWS_EVENT = 0x16
event_type_number WRITE_ROWS_EVENT_V1 = 0x17
event_type_number UPDATE_ROWS_EVENT_V1 = 0x18
event_type_number DELETE_ROWS_EVENT_V1 = 0x19
event_type_number INCIDENT_EVENT = 0x1a
event_type_number HEARTBEAT_EVENT = 0x1b
event_type_number IGNORABLE_EVENT = 0x1c
event_type_number ROWS_QUERY_EVENT = 0x1d
event_type_number WRITE_ROWS_EVENT = 0x1e
event_type_number UPDATE_ROWS_EVENT = 0x1f
event_type_number DELETE_ROWS_EVENT = 0x20
event_type_number GTID_EVENT = 0x21
event_type_number ANONYMOUS_GTID_EVENT = 0x22
event_type_number PREVIOUS_GTIDS_EVENT = 0x23
event_type_number TRANSACTION_CONTEXT_EVENT = 0x24
event_type_number VIEW_CHANGE_EVENT = 0x25
event_type_number XA_PREPARE_LOG_EVENT = 0x26
event_type_number PARTIAL_UPDATE_ROWS_EVENT = 0x27
event_type_number TRANSACTION_PAYLOAD_EVENT = 0x28
event_type_number GTID_TAGGED_LOG_EVENT = 0x2a
