-- The numbers of `Item_result`.
use Rattle.std.specs.Prelude.{ℤ, pos, negsuc}
use Rattle.wire_fields_extra.specs.declared.item_result.ItemResult.{ItemResult}
use Rattle.wire_fields_extra.specs.declared.item_result.ItemResult.TheVariants.{INVALID_RESULT, STRING_RESULT, REAL_RESULT, INT_RESULT, ROW_RESULT, DECIMAL_RESULT}
pub use Rattle.wire_constants.specs.GeometryTypes.{geometry_type_number}

-- `negsuc 0` is -1
abbrev pub item_result_number : ItemResult → ℤ
item_result_number INVALID_RESULT = negsuc 0
item_result_number STRING_RESULT = pos 0
item_result_number REAL_RESULT = pos 1
item_result_number INT_RESULT = pos 2
item_result_number ROW_RESULT = pos 3
item_result_number DECIMAL_RESULT = pos 4
