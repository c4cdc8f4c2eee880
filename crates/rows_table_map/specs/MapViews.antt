-- The specification's values for the crate's table maps.
use Rattle.std.specs.Prelude.{◌≡◌, ℕ, ◌*◌, length, min, Option, Some, None, Result, Ok, Err}
use Rattle.wire_constants.specs.Numbering.{IsConstantOf}
use Rattle.wire_constants.specs.ColumnTypes.{column_type_number}
use Rattle.wire_constants.specs.declared.column_type.ColumnType.{ColumnType}
use Rattle.wire_constants.specs.declared.column_type.UnknownColumnType.{UnknownColumnType}
use Rattle.wire_fields.specs.RawTexts.{raw_string}
use Rattle.rows_table_map.specs.TableMaps.{TableMap}
use Rattle.rows_table_map.specs.declared.table_map.TableMapEvent.{TableMapEvent}

-- the contents of a table map
abbrev pub map_of : TableMapEvent → TableMap
map_of t = record {
  table_id = t.table_id.0;
  flags = t.flags.0;
  database = raw_string t.database;
  table = raw_string t.table;
  column_types = raw_string t.column_types;
  metadata = raw_string t.metadata;
  null_bitmask = raw_string t.null_bitmask;
  optional_metadata = raw_string t.optional_metadata;
}

-- how many columns the bytes of the null bitmap have bits for: all of a map that is read
abbrev pub null_bits_count : TableMap → ℕ
null_bits_count t = min (length t.column_types) (8 * length t.null_bitmask)

-- the type with a column's number; none without a column, and an error if no type has the number
abbrev pub IsRawType : Option ℕ → Result (Option ColumnType) UnknownColumnType → Type 0
IsRawType None result = result ≡ Ok None
IsRawType (Some n) (Ok (Some t)) = IsConstantOf column_type_number (λ (u : UnknownColumnType). u.0) n (Ok t)
IsRawType (Some n) (Ok None) = ⊥
IsRawType (Some n) (Err unknown) = IsConstantOf column_type_number (λ (u : UnknownColumnType). u.0) n (Err unknown)
