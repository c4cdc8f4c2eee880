-- An integer field after a write through a reference to it.
use Rattle.wire_fields.specs.declared.int_repr.RawInt.{RawInt}

-- the field with another integer
abbrev pub replace_number : {T S N : Type 0} → RawInt T S N → N → RawInt T S N
replace_number raw number = record raw { 0 = number }
