-- The specification's values for the crate's fields.
use Rattle.std.specs.Prelude.{◌≡◌, ⊤, ℕ, List, Option, Some, None}
use Rattle.std.specs.Option.{option_map}
use Rattle.wire_fields.specs.RawTexts.{raw_string}
use Rattle.wire_fields.specs.declared.raw_bytes.RawBytes.{RawBytes}
use Rattle.rows_table_map.specs.declared.bits.Bits.{Bits}
use Rattle.rows_table_map.specs.BitLists.{bit_of, len_of, lowest_bit}
use Rattle.rows_event_body.specs.declared.optional_field.OptionalField.{OptionalField}
use Rattle.rows_event_body.specs.declared.extra_data.ExtraData.{ExtraData}

-- bytes that may be absent
abbrev pub maybe_text : {T S C : Type 0} → OptionalField (RawBytes T S C) → Option (List ℕ)
maybe_text m = option_map (λ raw. raw_string raw) m.0

-- extra data that may be absent
abbrev pub maybe_extra : OptionalField ExtraData → Option (List ℕ)
maybe_extra m = option_map (λ e. raw_string e.0) m.0

-- n bits, from the lowest bit of each byte, present exactly if their bytes are
abbrev pub ShowsBits : ℕ → Option (List ℕ) → Option Bits → Type 0
ShowsBits n None None = ⊤
ShowsBits n (Some bytes) (Some bits) = (len_of bits ≡ n) × ((i : ℕ) → bit_of bits i ≡ lowest_bit bytes i)
ShowsBits n bytes bits = ⊥
