-- A raw constant field after a write through a reference to it.
use Rattle.wire_fields.specs.declared.consts.RawConst.{RawConst}

-- the raw constant field with another number
abbrev pub replace_raw_number : {T U S N : Type 0} → RawConst T U S N → N → RawConst T U S N
replace_raw_number raw number = record raw { 0 = number }
