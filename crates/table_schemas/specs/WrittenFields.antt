-- Fields of the optional metadata as servers write them (MySQL's source: Table_map_event; Table_map_log_event::init_metadata_fields writes them).
use Rattle.std.specs.Prelude.{ℕ, ◌+◌, ◌*◌, ◌/◌, Bool, false, List, [], ◌∷◌, length, map, unwrap_or, if◌then◌else◌}
use Rattle.std.specs.List.{slice_get, range_with_len}
use Rattle.wire_fields.specs.Strings.{lenenc_string_encoded}

-- a field: the number of its type, the length of its value, and the value; none without a value
abbrev pub field_or_none : ℕ → List ℕ → List ℕ
field_or_none number [] = []
field_or_none number (b ∷ value) = number ∷ lenenc_string_encoded (b ∷ value)

-- a bit as a number; 0 after the last
abbrev pub bit_number : List Bool → ℕ → ℕ
bit_number bits i = if unwrap_or (slice_get bits i) false then 1 else 0

-- eight bits from an index on, the first the highest
abbrev pub packed_byte : List Bool → ℕ → ℕ
packed_byte bits i =
    128 * bit_number bits i + (64 * bit_number bits (i + 1) + (32 * bit_number bits (i + 2) + (16 * bit_number bits (i + 3)
    + (8 * bit_number bits (i + 4) + (4 * bit_number bits (i + 5) + (2 * bit_number bits (i + 6) + bit_number bits (i + 7)))))))

-- bits in as few bytes as they need
abbrev pub packed : List Bool → List ℕ
packed bits = map (λ i. packed_byte bits (8 * i)) (range_with_len 0 ((length bits + 7) / 8))
