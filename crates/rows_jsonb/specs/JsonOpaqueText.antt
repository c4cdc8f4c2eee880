-- The text of an opaque value in a JSON tree.
use Rattle.std.specs.Prelude.{ℕ, List, ◌++◌, codes}
use Rattle.std.specs.Fmt.{decimal}
use Rattle.base64.specs.GeneralPurpose.{encode_of}
use Rattle.base64.specs.Engines.{standard}
use Rattle.wire_constants.specs.ColumnTypes.{column_type_number}
use Rattle.rows_jsonb.specs.declared.dom.JsonOpaque.{JsonOpaque}

-- `base64:type`, the number of the column type, a colon, and the bytes in base64
abbrev pub opaque_text : JsonOpaque → List ℕ
opaque_text o = codes "base64:type" ++ (decimal (column_type_number o.field_type) ++ (codes ":" ++ encode_of standard o.value.items))
