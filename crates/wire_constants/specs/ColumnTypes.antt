-- MySQL's column types (`enum_field_types`): their numbers, and the kinds that a table map's optional metadata distinguishes.
use Rattle.std.specs.Prelude.{ℕ, Bool, true, false}
use Rattle.wire_constants.specs.declared.column_type.ColumnType.{ColumnType}
use Rattle.wire_constants.specs.declared.column_type.ColumnType.TheVariants.{MYSQL_TYPE_DECIMAL, MYSQL_TYPE_TINY, MYSQL_TYPE_SHORT, MYSQL_TYPE_LONG, MYSQL_TYPE_FLOAT, MYSQL_TYPE_DOUBLE, MYSQL_TYPE_NULL, MYSQL_TYPE_TIMESTAMP, MYSQL_TYPE_LONGLONG, MYSQL_TYPE_INT24, MYSQL_TYPE_DATE, MYSQL_TYPE_TIME, MYSQL_TYPE_DATETIME, MYSQL_TYPE_YEAR, MYSQL_TYPE_NEWDATE, MYSQL_TYPE_VARCHAR, MYSQL_TYPE_BIT, MYSQL_TYPE_TIMESTAMP2, MYSQL_TYPE_DATETIME2, MYSQL_TYPE_TIME2, MYSQL_TYPE_TYPED_ARRAY, MYSQL_TYPE_VECTOR, MYSQL_TYPE_UNKNOWN, MYSQL_TYPE_JSON, MYSQL_TYPE_NEWDECIMAL, MYSQL_TYPE_ENUM, MYSQL_TYPE_SET, MYSQL_TYPE_TINY_BLOB, MYSQL_TYPE_MEDIUM_BLOB, MYSQL_TYPE_LONG_BLOB, MYSQL_TYPE_BLOB, MYSQL_TYPE_VAR_STRING, MYSQL_TYPE_STRING, MYSQL_TYPE_GEOMETRY}

-- the number of a column type
abbrev pub column_type_number : ColumnType → ℕ
column_type_number MYSQL_TYPE_DECIMAL = 0
column_type_number MYSQL_TYPE_TINY = 1
column_type_number MYSQL_TYPE_SHORT = 2
column_type_number MYSQL_TYPE_LONG = 3
column_type_number MYSQL_TYPE_FLOAT = 4
column_type_number MYSQL_TYPE_DOUBLE = 5
column_type_number MYSQL_TYPE_NULL = 6
column_type_number MYSQL_TYPE_TIMESTAMP = 7
column_type_number MYSQL_TYPE_LONGLONG = 8
column_type_number MYSQL_TYPE_INT24 = 9
column_type_number MYSQL_TYPE_DATE = 10
column_type_number MYSQL_TYPE_TIME = 11
column_type_number MYSQL_TYPE_DATETIME = 12
column_type_number MYSQL_TYPE_YEAR = 13
column_type_number MYSQL_TYPE_NEWDATE = 14
column_type_number MYSQL_TYPE_VARCHAR = 15
column_type_number MYSQL_TYPE_BIT = 16
column_type_number MYSQL_TYPE_TIMESTAMP2 = 17
column_type_number MYSQL_TYPE_DATETIME2 = 18
column_type_number MYSQL_TYPE_TIME2 = 19
column_type_number MYSQL_TYPE_TYPED_ARRAY = 20
column_type_number MYSQL_TYPE_VECTOR = 242
column_type_number MYSQL_TYPE_UNKNOWN = 243
column_type_number MYSQL_TYPE_JSON = 245
column_type_number MYSQL_TYPE_NEWDECIMAL = 246
column_type_number MYSQL_TYPE_ENUM = 247
column_type_number MYSQL_TYPE_SET = 248
column_type_number MYSQL_TYPE_TINY_BLOB = 249
column_type_number MYSQL_TYPE_MEDIUM_BLOB = 250
column_type_number MYSQL_TYPE_LONG_BLOB = 251
column_type_number MYSQL_TYPE_BLOB = 252
column_type_number MYSQL_TYPE_VAR_STRING = 253
column_type_number MYSQL_TYPE_STRING = 254
column_type_number MYSQL_TYPE_GEOMETRY = 255

-- the types whose columns the signedness field has a bit for
abbrev pub is_numeric : ColumnType → Bool
is_numeric MYSQL_TYPE_TINY = true
is_numeric MYSQL_TYPE_SHORT = true
is_numeric MYSQL_TYPE_INT24 = true
is_numeric MYSQL_TYPE_LONG = true
is_numeric MYSQL_TYPE_LONGLONG = true
is_numeric MYSQL_TYPE_FLOAT = true
is_numeric MYSQL_TYPE_DOUBLE = true
is_numeric MYSQL_TYPE_NEWDECIMAL = true
is_numeric _ = false

-- the types whose columns have a character set
abbrev pub is_character : ColumnType → Bool
is_character MYSQL_TYPE_STRING = true
is_character MYSQL_TYPE_VAR_STRING = true
is_character MYSQL_TYPE_VARCHAR = true
is_character MYSQL_TYPE_BLOB = true
is_character _ = false

-- ENUM and SET, whose columns have their own list of character sets
abbrev pub is_enum_or_set : ColumnType → Bool
is_enum_or_set MYSQL_TYPE_ENUM = true
is_enum_or_set MYSQL_TYPE_SET = true
is_enum_or_set _ = false

abbrev pub is_enum : ColumnType → Bool
is_enum MYSQL_TYPE_ENUM = true
is_enum _ = false

abbrev pub is_set : ColumnType → Bool
is_set MYSQL_TYPE_SET = true
is_set _ = false

abbrev pub is_geometry : ColumnType → Bool
is_geometry MYSQL_TYPE_GEOMETRY = true
is_geometry _ = false

abbrev pub is_vector : ColumnType → Bool
is_vector MYSQL_TYPE_VECTOR = true
is_vector _ = false
