-- Tables as JSON lines show them (MySQL's source: Table_map_event).
use Rattle.std.specs.Prelude.{◌≡◌, ℕ, ◌==◌, ◌&&◌, Bool, List, [], ◌∷◌, ◌++◌, map, length, codes}
use Rattle.std.specs.List.{AllZip, list_any}
use Rattle.wire_constants.specs.ColumnTypes.{column_type_number}
use Rattle.wire_constants.specs.declared.column_type.ColumnType.{ColumnType}
use Rattle.wire_constants.specs.declared.column_type.ColumnType.TheVariants.{MYSQL_TYPE_TINY, MYSQL_TYPE_SHORT, MYSQL_TYPE_INT24, MYSQL_TYPE_LONG, MYSQL_TYPE_LONGLONG, MYSQL_TYPE_STRING, MYSQL_TYPE_VAR_STRING, MYSQL_TYPE_VARCHAR, MYSQL_TYPE_BLOB}
use Rattle.rows_table_map.specs.TableMaps.{TableMap}
use Rattle.changes_tables.specs.declared.columns.TableOptions.{TableOptions}
use Rattle.changes_tables.specs.declared.tables.Lacks.{Lacks}
use Rattle.changes_tables.specs.declared.tables.ShownTable.{ShownTable}
use Rattle.changes_tables.specs.ShownColumns.{column_view}
use Rattle.changes_tables.specs.UsedMetadata.{used_metadata}
use Rattle.changes_tables.specs.PrimaryKeys.{key_columns, key_member}
use Rattle.changes_tables.specs.ColumnParts.{column_names, column_parts}
use Rattle.changes_tables.specs.ColumnsShown.{IsColumn}
use Rattle.changes_tables.specs.MemberTexts.{utf8_json}

-- `"database":..,"table":..`
abbrev pub names_member : TableMap → List ℕ
names_member m = codes "\"database\":" ++ (utf8_json m.database ++ (codes ",\"table\":" ++ utf8_json m.table))

-- the integer types, whose signs the optional metadata has
abbrev pub integer_types : List ColumnType
integer_types = MYSQL_TYPE_TINY ∷ MYSQL_TYPE_SHORT ∷ MYSQL_TYPE_INT24 ∷ MYSQL_TYPE_LONG ∷ MYSQL_TYPE_LONGLONG ∷ []

-- the types of text, whose character sets the optional metadata has; a table map has ENUM and SET as STRING
abbrev pub text_types : List ColumnType
text_types = MYSQL_TYPE_STRING ∷ MYSQL_TYPE_VAR_STRING ∷ MYSQL_TYPE_VARCHAR ∷ MYSQL_TYPE_BLOB ∷ []

-- whether the number is that of one of these types
abbrev pub is_type_of : List ColumnType → ℕ → Bool
is_type_of types n = list_any (λ t. n == column_type_number t) types

-- without optional metadata a table map doesn't say which integers are unsigned, nor the character sets of text
abbrev pub lacks_of : TableMap → Lacks
lacks_of m = record {
  signs = (length m.optional_metadata == 0) && list_any (is_type_of integer_types) m.column_types;
  character_sets = (length m.optional_metadata == 0) && list_any (is_type_of text_types) m.column_types;
}

-- the table with this table map, shown by these options
pub record IsShownTable (options : TableOptions) (m : TableMap) (table : ShownTable) : Type 0 where
  pub columns : AllZip (IsColumn options) (column_parts m) (map column_view table.columns.items)
  pub names : table.names.items ≡ names_member m
  pub key : table.key.items ≡ key_member (column_names m) (key_columns (length m.column_types) (used_metadata m).key)
  pub lacks : table.lacks ≡ lacks_of m
