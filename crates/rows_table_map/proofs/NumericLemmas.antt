-- Which numbers are those of numeric types.
use Rattle.std.proofs.Common.{◌≡◌, ℕ, false, refl, subst, ap}
use Rattle.wire_constants.specs.ColumnTypes.{column_type_number, is_numeric}
use Rattle.wire_constants.specs.declared.column_type.ColumnType.{ColumnType}
use Rattle.wire_constants.specs.declared.column_type.ColumnType.TheVariants.{MYSQL_TYPE_DECIMAL, MYSQL_TYPE_TINY, MYSQL_TYPE_SHORT, MYSQL_TYPE_LONG, MYSQL_TYPE_FLOAT, MYSQL_TYPE_DOUBLE, MYSQL_TYPE_NULL, MYSQL_TYPE_TIMESTAMP, MYSQL_TYPE_LONGLONG, MYSQL_TYPE_INT24, MYSQL_TYPE_DATE, MYSQL_TYPE_TIME, MYSQL_TYPE_DATETIME, MYSQL_TYPE_YEAR, MYSQL_TYPE_NEWDATE, MYSQL_TYPE_VARCHAR, MYSQL_TYPE_BIT, MYSQL_TYPE_TIMESTAMP2, MYSQL_TYPE_DATETIME2, MYSQL_TYPE_TIME2, MYSQL_TYPE_TYPED_ARRAY, MYSQL_TYPE_VECTOR, MYSQL_TYPE_UNKNOWN, MYSQL_TYPE_JSON, MYSQL_TYPE_NEWDECIMAL, MYSQL_TYPE_ENUM, MYSQL_TYPE_SET, MYSQL_TYPE_TINY_BLOB, MYSQL_TYPE_MEDIUM_BLOB, MYSQL_TYPE_LONG_BLOB, MYSQL_TYPE_BLOB, MYSQL_TYPE_VAR_STRING, MYSQL_TYPE_STRING, MYSQL_TYPE_GEOMETRY}
use Rattle.wire_constants.specs.AllColumnTypes.{column_types}
use Rattle.rows_table_map.specs.MetadataFields.{numeric, is_numeric_number}
use Rattle.rows_table_map.proofs.KnownLemmas.{none_in}

numeric-is : (t : ColumnType) → is_numeric_number (column_type_number t) ≡ is_numeric t
unfolding is_numeric_number
numeric-is MYSQL_TYPE_DECIMAL = refl
numeric-is MYSQL_TYPE_TINY = refl
numeric-is MYSQL_TYPE_SHORT = refl
numeric-is MYSQL_TYPE_LONG = refl
numeric-is MYSQL_TYPE_FLOAT = refl
numeric-is MYSQL_TYPE_DOUBLE = refl
numeric-is MYSQL_TYPE_NULL = refl
numeric-is MYSQL_TYPE_TIMESTAMP = refl
numeric-is MYSQL_TYPE_LONGLONG = refl
numeric-is MYSQL_TYPE_INT24 = refl
numeric-is MYSQL_TYPE_DATE = refl
numeric-is MYSQL_TYPE_TIME = refl
numeric-is MYSQL_TYPE_DATETIME = refl
numeric-is MYSQL_TYPE_YEAR = refl
numeric-is MYSQL_TYPE_NEWDATE = refl
numeric-is MYSQL_TYPE_VARCHAR = refl
numeric-is MYSQL_TYPE_BIT = refl
numeric-is MYSQL_TYPE_TIMESTAMP2 = refl
numeric-is MYSQL_TYPE_DATETIME2 = refl
numeric-is MYSQL_TYPE_TIME2 = refl
numeric-is MYSQL_TYPE_TYPED_ARRAY = refl
numeric-is MYSQL_TYPE_VECTOR = refl
numeric-is MYSQL_TYPE_UNKNOWN = refl
numeric-is MYSQL_TYPE_JSON = refl
numeric-is MYSQL_TYPE_NEWDECIMAL = refl
numeric-is MYSQL_TYPE_ENUM = refl
numeric-is MYSQL_TYPE_SET = refl
numeric-is MYSQL_TYPE_TINY_BLOB = refl
numeric-is MYSQL_TYPE_MEDIUM_BLOB = refl
numeric-is MYSQL_TYPE_LONG_BLOB = refl
numeric-is MYSQL_TYPE_BLOB = refl
numeric-is MYSQL_TYPE_VAR_STRING = refl
numeric-is MYSQL_TYPE_STRING = refl
numeric-is MYSQL_TYPE_GEOMETRY = refl

pub numeric_known : (t : ColumnType) (n : ℕ) → column_type_number t ≡ n → is_numeric_number n ≡ is_numeric t
numeric_known t n e = subst (λ (m : ℕ). is_numeric_number m ≡ is_numeric t) e (numeric-is t)

pub numeric_unknown : (n : ℕ) → ((t : ColumnType) → column_type_number t ≡ n → ⊥) → is_numeric_number n ≡ false
unfolding is_numeric_number
numeric_unknown n h = ap numeric (none_in column_type_number n column_types h)
