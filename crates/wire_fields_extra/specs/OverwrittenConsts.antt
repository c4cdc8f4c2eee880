-- A constant field after a write through a reference to it.
use Rattle.wire_fields_extra.specs.declared.consts.Const.{Const}
pub use Rattle.wire_fields.specs.OverwrittenRawConsts.{replace_raw_number}

-- the constant field with another value
abbrev pub replace_value : {T U : Type 0} → Const T U → T → Const T U
replace_value c value = record c { 0 = value }
