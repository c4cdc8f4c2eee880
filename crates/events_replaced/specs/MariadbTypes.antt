-- The types of events that only MariaDB's servers write (MariaDB knowledge base: 2-Binlog Event Header).
use Rattle.std.specs.Prelude.{ℕ, Bool, ◌&&◌, nat_le}
use Rattle.events_replaced.specs.declared.mariadb_type.MariadbType.{MariadbType}
use Rattle.events_replaced.specs.declared.mariadb_type.MariadbType.TheVariants.{ANNOTATE_ROWS_EVENT, BINLOG_CHECKPOINT_EVENT, GTID_EVENT, GTID_LIST_EVENT, START_ENCRYPTION_EVENT, QUERY_COMPRESSED_EVENT, WRITE_ROWS_COMPRESSED_EVENT_V1, UPDATE_ROWS_COMPRESSED_EVENT_V1, DELETE_ROWS_COMPRESSED_EVENT_V1, WRITE_ROWS_COMPRESSED_EVENT, UPDATE_ROWS_COMPRESSED_EVENT, DELETE_ROWS_COMPRESSED_EVENT}

-- whether a type is MariaDB's own
abbrev pub is_mariadb_number : ℕ → Bool
is_mariadb_number number = nat_le 160 number && nat_le number 171

-- the number of a type
abbrev pub mariadb_number : MariadbType → ℕ
mariadb_number ANNOTATE_ROWS_EVENT = 160
mariadb_number BINLOG_CHECKPOINT_EVENT = 161
mariadb_number GTID_EVENT = 162
mariadb_number GTID_LIST_EVENT = 163
mariadb_number START_ENCRYPTION_EVENT = 164
mariadb_number QUERY_COMPRESSED_EVENT = 165
mariadb_number WRITE_ROWS_COMPRESSED_EVENT_V1 = 166
mariadb_number UPDATE_ROWS_COMPRESSED_EVENT_V1 = 167
mariadb_number DELETE_ROWS_COMPRESSED_EVENT_V1 = 168
mariadb_number WRITE_ROWS_COMPRESSED_EVENT = 169
mariadb_number UPDATE_ROWS_COMPRESSED_EVENT = 170
mariadb_number DELETE_ROWS_COMPRESSED_EVENT = 171
