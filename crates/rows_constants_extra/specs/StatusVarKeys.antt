-- The keys of a query event's status variables (MySQL's `Query_event::Query_event_status_vars`).
use Rattle.std.specs.Prelude.{ℕ}
use Rattle.rows_constants_extra.specs.declared.status_var_key.StatusVarKey.{StatusVarKey}
use Rattle.rows_constants_extra.specs.declared.status_var_key.StatusVarKey.TheVariants.{Flags2, SqlMode, Catalog, AutoIncrement, Charset, TimeZone, CatalogNz, LcTimeNames, CharsetDatabase, TableMapForUpdate, MasterDataWritten, Invoker, UpdatedDbNames, Microseconds, CommitTs, CommitTs2, ExplicitDefaultsForTimestamp, DdlLoggedWithXid, DefaultCollationForUtf8mb4, SqlRequirePrimaryKey, DefaultTableEncryption}

abbrev pub status_var_key_number : StatusVarKey → ℕ
status_var_key_number Flags2 = 0
status_var_key_number SqlMode = 1
status_var_key_number Catalog = 2
status_var_key_number AutoIncrement = 3
status_var_key_number Charset = 4
status_var_key_number TimeZone = 5
status_var_key_number CatalogNz = 6
status_var_key_number LcTimeNames = 7
status_var_key_number CharsetDatabase = 8
status_var_key_number TableMapForUpdate = 9
status_var_key_number MasterDataWritten = 10
status_var_key_number Invoker = 11
status_var_key_number UpdatedDbNames = 12
status_var_key_number Microseconds = 13
status_var_key_number CommitTs = 14
status_var_key_number CommitTs2 = 15
status_var_key_number ExplicitDefaultsForTimestamp = 16
status_var_key_number DdlLoggedWithXid = 17
status_var_key_number DefaultCollationForUtf8mb4 = 18
status_var_key_number SqlRequirePrimaryKey = 19
status_var_key_number DefaultTableEncryption = 20
