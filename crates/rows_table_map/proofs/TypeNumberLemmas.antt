-- The type with a given number.
use Rattle.std.proofs.Common.{◌≡◌, ℕ, List, [], ◌∷◌, Some, None, refl, subst, inl, inr}
use Rattle.std.specs.Prelude.{◌==◌, find}
use Rattle.std.proofs.lemmas.Bool.Decides.{eqb_tells}
use Rattle.wire_constants.specs.ColumnTypes.{column_type_number}
use Rattle.wire_constants.specs.declared.column_type.ColumnType.{ColumnType}
use Rattle.wire_constants.specs.declared.column_type.ColumnType.TheVariants as column
use Rattle.wire_constants.specs.AllColumnTypes.{column_types}
use Rattle.rows_table_map.specs.ColumnMetadata.{column_type}

its_own : (t : ColumnType) → column_type (column_type_number t) ≡ Some t
unfolding column_type
its_own column.MYSQL_TYPE_DECIMAL = refl
its_own column.MYSQL_TYPE_TINY = refl
its_own column.MYSQL_TYPE_SHORT = refl
its_own column.MYSQL_TYPE_LONG = refl
its_own column.MYSQL_TYPE_FLOAT = refl
its_own column.MYSQL_TYPE_DOUBLE = refl
its_own column.MYSQL_TYPE_NULL = refl
its_own column.MYSQL_TYPE_TIMESTAMP = refl
its_own column.MYSQL_TYPE_LONGLONG = refl
its_own column.MYSQL_TYPE_INT24 = refl
its_own column.MYSQL_TYPE_DATE = refl
its_own column.MYSQL_TYPE_TIME = refl
its_own column.MYSQL_TYPE_DATETIME = refl
its_own column.MYSQL_TYPE_YEAR = refl
its_own column.MYSQL_TYPE_NEWDATE = refl
its_own column.MYSQL_TYPE_VARCHAR = refl
its_own column.MYSQL_TYPE_BIT = refl
its_own column.MYSQL_TYPE_TIMESTAMP2 = refl
its_own column.MYSQL_TYPE_DATETIME2 = refl
its_own column.MYSQL_TYPE_TIME2 = refl
its_own column.MYSQL_TYPE_TYPED_ARRAY = refl
its_own column.MYSQL_TYPE_VECTOR = refl
its_own column.MYSQL_TYPE_UNKNOWN = refl
its_own column.MYSQL_TYPE_JSON = refl
its_own column.MYSQL_TYPE_NEWDECIMAL = refl
its_own column.MYSQL_TYPE_ENUM = refl
its_own column.MYSQL_TYPE_SET = refl
its_own column.MYSQL_TYPE_TINY_BLOB = refl
its_own column.MYSQL_TYPE_MEDIUM_BLOB = refl
its_own column.MYSQL_TYPE_LONG_BLOB = refl
its_own column.MYSQL_TYPE_BLOB = refl
its_own column.MYSQL_TYPE_VAR_STRING = refl
its_own column.MYSQL_TYPE_STRING = refl
its_own column.MYSQL_TYPE_GEOMETRY = refl

pub type_known : (t : ColumnType) (n : ℕ) → column_type_number t ≡ n → column_type n ≡ Some t
type_known t n e = subst (λ (m : ℕ). column_type m ≡ Some t) e (its_own t)

none_in : (n : ℕ) (ts : List ColumnType) → ((t : ColumnType) → column_type_number t ≡ n → ⊥) → find (λ t. column_type_number t == n) ts ≡ None
none_in n [] h = refl
none_in n (t ∷ ts) h = elim (eqb_tells (column_type_number t) n) [
  | inl e ↦ absurd (h t e.1)
  | inr e ↦ rw e.0 (none_in n ts h)
]

pub type_unknown : (n : ℕ) → ((t : ColumnType) → column_type_number t ≡ n → ⊥) → column_type n ≡ None
unfolding column_type
type_unknown n h = none_in n column_types h
