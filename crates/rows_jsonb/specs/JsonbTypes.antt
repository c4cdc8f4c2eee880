-- The type bytes of JSON values and the numbers of JSON literals in MySQL's binary JSON (MySQL's source: `json_binary.h`).
use Rattle.std.specs.Prelude.{ℕ, ◌==◌, Bool, true, false, List, [], ◌∷◌, Option, find}
use Rattle.rows_jsonb.specs.declared.types.JsonbType.{JsonbType}
use Rattle.rows_jsonb.specs.declared.types.JsonbType.TheVariants.{JSONB_TYPE_SMALL_OBJECT, JSONB_TYPE_LARGE_OBJECT, JSONB_TYPE_SMALL_ARRAY, JSONB_TYPE_LARGE_ARRAY, JSONB_TYPE_LITERAL, JSONB_TYPE_INT16, JSONB_TYPE_UINT16, JSONB_TYPE_INT32, JSONB_TYPE_UINT32, JSONB_TYPE_INT64, JSONB_TYPE_UINT64, JSONB_TYPE_DOUBLE, JSONB_TYPE_STRING, JSONB_TYPE_OPAQUE}
use Rattle.rows_jsonb.specs.declared.types.LiteralType.{LiteralType}
use Rattle.rows_jsonb.specs.declared.types.LiteralType.TheVariants.{JSONB_NULL_LITERAL, JSONB_TRUE_LITERAL, JSONB_FALSE_LITERAL}

-- the type byte of a value
abbrev pub jsonb_type_number : JsonbType → ℕ
jsonb_type_number JSONB_TYPE_SMALL_OBJECT = 0
jsonb_type_number JSONB_TYPE_LARGE_OBJECT = 1
jsonb_type_number JSONB_TYPE_SMALL_ARRAY = 2
jsonb_type_number JSONB_TYPE_LARGE_ARRAY = 3
jsonb_type_number JSONB_TYPE_LITERAL = 4
jsonb_type_number JSONB_TYPE_INT16 = 5
jsonb_type_number JSONB_TYPE_UINT16 = 6
jsonb_type_number JSONB_TYPE_INT32 = 7
jsonb_type_number JSONB_TYPE_UINT32 = 8
jsonb_type_number JSONB_TYPE_INT64 = 9
jsonb_type_number JSONB_TYPE_UINT64 = 10
jsonb_type_number JSONB_TYPE_DOUBLE = 11
jsonb_type_number JSONB_TYPE_STRING = 12
jsonb_type_number JSONB_TYPE_OPAQUE = 15

-- all types of values
abbrev pub jsonb_types : List JsonbType
jsonb_types =
    JSONB_TYPE_SMALL_OBJECT ∷ JSONB_TYPE_LARGE_OBJECT ∷ JSONB_TYPE_SMALL_ARRAY ∷ JSONB_TYPE_LARGE_ARRAY ∷ JSONB_TYPE_LITERAL
    ∷ JSONB_TYPE_INT16 ∷ JSONB_TYPE_UINT16 ∷ JSONB_TYPE_INT32 ∷ JSONB_TYPE_UINT32 ∷ JSONB_TYPE_INT64 ∷ JSONB_TYPE_UINT64
    ∷ JSONB_TYPE_DOUBLE ∷ JSONB_TYPE_STRING ∷ JSONB_TYPE_OPAQUE ∷ []

-- the type with this number
abbrev pub jsonb_type_of : ℕ → Option JsonbType
jsonb_type_of n = find (λ t. jsonb_type_number t == n) jsonb_types

-- the byte of a literal
abbrev pub literal_type_number : LiteralType → ℕ
literal_type_number JSONB_NULL_LITERAL = 0
literal_type_number JSONB_TRUE_LITERAL = 1
literal_type_number JSONB_FALSE_LITERAL = 2

-- all literals
abbrev pub literal_types : List LiteralType
literal_types = JSONB_NULL_LITERAL ∷ JSONB_TRUE_LITERAL ∷ JSONB_FALSE_LITERAL ∷ []

-- the literal with this number
abbrev pub literal_of : ℕ → Option LiteralType
literal_of n = find (λ t. literal_type_number t == n) literal_types

-- whether a value of the type is inlined in its entry: numbers of 32 bits are if offsets are large
abbrev pub is_inlined : Bool → JsonbType → Bool
is_inlined large JSONB_TYPE_LITERAL = true
is_inlined large JSONB_TYPE_INT16 = true
is_inlined large JSONB_TYPE_UINT16 = true
is_inlined large JSONB_TYPE_INT32 = large
is_inlined large JSONB_TYPE_UINT32 = large
is_inlined large _ = false
