-- The string that a field of bytes holds.
use Rattle.std.specs.Prelude.{ℕ, List}
use Rattle.std.specs.Cow.{cow_slice_items}
use Rattle.wire_fields.specs.declared.raw_bytes.RawBytes.{RawBytes}

-- the string, borrowed or owned
abbrev pub raw_string : {T S C : Type 0} → RawBytes T S C → List ℕ
raw_string raw = cow_slice_items raw.0
