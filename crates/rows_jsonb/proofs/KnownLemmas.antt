-- Which numbers column types have.
use Rattle.std.proofs.Common.{◌≡◌, ℕ, List, [], ◌∷◌, true, false, refl, subst, inl, inr}
use Rattle.std.proofs.lemmas.Bool.Decides.{eqb_tells}
use Rattle.wire_constants.specs.ColumnTypes.{column_type_number}
use Rattle.wire_constants.specs.declared.column_type.ColumnType.{ColumnType}
use Rattle.wire_constants.specs.declared.column_type.ColumnType.TheVariants.{MYSQL_TYPE_DECIMAL, MYSQL_TYPE_TINY, MYSQL_TYPE_SHORT, MYSQL_TYPE_LONG, MYSQL_TYPE_FLOAT, MYSQL_TYPE_DOUBLE, MYSQL_TYPE_NULL, MYSQL_TYPE_TIMESTAMP, MYSQL_TYPE_LONGLONG, MYSQL_TYPE_INT24, MYSQL_TYPE_DATE, MYSQL_TYPE_TIME, MYSQL_TYPE_DATETIME, MYSQL_TYPE_YEAR, MYSQL_TYPE_NEWDATE, MYSQL_TYPE_VARCHAR, MYSQL_TYPE_BIT, MYSQL_TYPE_TIMESTAMP2, MYSQL_TYPE_DATETIME2, MYSQL_TYPE_TIME2, MYSQL_TYPE_TYPED_ARRAY, MYSQL_TYPE_VECTOR, MYSQL_TYPE_UNKNOWN, MYSQL_TYPE_JSON, MYSQL_TYPE_NEWDECIMAL, MYSQL_TYPE_ENUM, MYSQL_TYPE_SET, MYSQL_TYPE_TINY_BLOB, MYSQL_TYPE_MEDIUM_BLOB, MYSQL_TYPE_LONG_BLOB, MYSQL_TYPE_BLOB, MYSQL_TYPE_VAR_STRING, MYSQL_TYPE_STRING, MYSQL_TYPE_GEOMETRY}
use Rattle.wire_constants.specs.AllColumnTypes.{column_types}
use Rattle.rows_jsonb.specs.JsonbValues.{has_number, is_column_type}

known : (t : ColumnType) → is_column_type (column_type_number t) ≡ true
unfolding is_column_type
known MYSQL_TYPE_DECIMAL = refl
known MYSQL_TYPE_TINY = refl
known MYSQL_TYPE_SHORT = refl
known MYSQL_TYPE_LONG = refl
known MYSQL_TYPE_FLOAT = refl
known MYSQL_TYPE_DOUBLE = refl
known MYSQL_TYPE_NULL = refl
known MYSQL_TYPE_TIMESTAMP = refl
known MYSQL_TYPE_LONGLONG = refl
known MYSQL_TYPE_INT24 = refl
known MYSQL_TYPE_DATE = refl
known MYSQL_TYPE_TIME = refl
known MYSQL_TYPE_DATETIME = refl
known MYSQL_TYPE_YEAR = refl
known MYSQL_TYPE_NEWDATE = refl
known MYSQL_TYPE_VARCHAR = refl
known MYSQL_TYPE_BIT = refl
known MYSQL_TYPE_TIMESTAMP2 = refl
known MYSQL_TYPE_DATETIME2 = refl
known MYSQL_TYPE_TIME2 = refl
known MYSQL_TYPE_TYPED_ARRAY = refl
known MYSQL_TYPE_VECTOR = refl
known MYSQL_TYPE_UNKNOWN = refl
known MYSQL_TYPE_JSON = refl
known MYSQL_TYPE_NEWDECIMAL = refl
known MYSQL_TYPE_ENUM = refl
known MYSQL_TYPE_SET = refl
known MYSQL_TYPE_TINY_BLOB = refl
known MYSQL_TYPE_MEDIUM_BLOB = refl
known MYSQL_TYPE_LONG_BLOB = refl
known MYSQL_TYPE_BLOB = refl
known MYSQL_TYPE_VAR_STRING = refl
known MYSQL_TYPE_STRING = refl
known MYSQL_TYPE_GEOMETRY = refl

pub known_number : (t : ColumnType) (n : ℕ) → column_type_number t ≡ n → is_column_type n ≡ true
known_number t n e = subst (λ m. is_column_type m ≡ true) e (known t)

unknown_in : (n : ℕ) (ts : List ColumnType) → ((t : ColumnType) → column_type_number t ≡ n → ⊥) → has_number n ts ≡ false
unknown_in n [] h = refl
unknown_in n (t ∷ ts) h = elim (eqb_tells (column_type_number t) n) [
  | inl e ↦ absurd (h t e.1)
  | inr e ↦ rw e.0 (unknown_in n ts h)
]

pub unknown_number : (n : ℕ) → ((t : ColumnType) → column_type_number t ≡ n → ⊥) → is_column_type n ≡ false
unfolding is_column_type
unknown_number n h = unknown_in n column_types h
