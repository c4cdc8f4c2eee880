-- The JSON values that the code's types represent.
use Rattle.std.specs.Prelude.{◌≡◌, ◌≤◌, ℕ, List, length, drop, true, false}
use Rattle.std.specs.Cow.{cow_slice_items}
use Rattle.wire_constants.specs.ColumnTypes.{column_type_number}
use Rattle.wire_fields.specs.RawTexts.{raw_string}
use Rattle.rows_jsonb.specs.JsonbLayout.{format}
use Rattle.rows_jsonb.specs.JsonbValues as seen
use Rattle.rows_jsonb.specs.JsonbValues.{JsonbValue}
use Rattle.rows_jsonb.specs.declared.value.Value.{Value}
use Rattle.rows_jsonb.specs.declared.value.Value.TheVariants.{Null, Bool, I16, U16, I32, U32, I64, U64, F64, String, SmallArray, LargeArray, SmallObject, LargeObject, Opaque}

-- there were n bytes or more, and the first n were consumed
pub record IsConsumed (n : ℕ) (before after : List ℕ) : Type 0 where
  pub room : n ≤ length before
  pub rest : after ≡ drop n before

-- the JSON value that a value of the code represents
abbrev pub jsonb_value : Value → JsonbValue
jsonb_value Null = seen.null
jsonb_value (Bool b) = seen.boolean b
jsonb_value (I16 z) = seen.i16 z
jsonb_value (U16 n) = seen.u16 n
jsonb_value (I32 z) = seen.i32 z
jsonb_value (U32 n) = seen.u32 n
jsonb_value (I64 z) = seen.i64 z
jsonb_value (U64 n) = seen.u64 n
jsonb_value (F64 n) = seen.double n
jsonb_value (String s) = seen.text (raw_string s.0)
jsonb_value (SmallArray c) = seen.container (format false true) c.element_count (cow_slice_items c.bytes)
jsonb_value (LargeArray c) = seen.container (format true true) c.element_count (cow_slice_items c.bytes)
jsonb_value (SmallObject c) = seen.container (format false false) c.element_count (cow_slice_items c.bytes)
jsonb_value (LargeObject c) = seen.container (format true false) c.element_count (cow_slice_items c.bytes)
jsonb_value (Opaque o) = seen.opaque (column_type_number o.value_type) (raw_string o.bytes)
