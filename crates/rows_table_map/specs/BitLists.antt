-- Bits of bytes: null bitmaps, and the bits of columns and of signedness (MySQL Internals: ROWS_EVENT: bitmaps).
use Rattle.std.specs.Prelude.{◌≡◌, ℕ, zero, suc, ◌+◌, ◌-◌, ◌/◌, ◌%◌, ◌^◌, Bool, List, [], ◌∷◌, slice_index, Option, Some, None, nat_lt, ◌==◌, if◌then◌else◌}
use Rattle.rows_table_map.specs.declared.bits.Bits.{Bits}
use Rattle.rows_table_map.specs.declared.bits.BitsIter.{BitsIter}

-- bit i, counted from the lowest bit of the first byte
abbrev pub lowest_bit : List ℕ → ℕ → Bool
lowest_bit bytes i = slice_index bytes (i / 8) / 2 ^ (i % 8) % 2 == 1

-- bit i, counted from the highest bit of the first byte
abbrev pub highest_bit : List ℕ → ℕ → Bool
highest_bit bytes i = slice_index bytes (i / 8) / 2 ^ (7 - i % 8) % 2 == 1

abbrev pub bit_of : Bits → ℕ → Bool
bit_of b i = if b.from_highest then highest_bit b.bytes.now i else lowest_bit b.bytes.now i

abbrev pub len_of : Bits → ℕ
len_of b = b.len

-- bit i, if there is one
abbrev pub bit_at : Bits → ℕ → Option Bool
bit_at b i = if nat_lt i (len_of b) then Some (bit_of b i) else None

-- n bits, from the bit of index k on
unfoldable pub list_from : (ℕ → Bool) → ℕ → ℕ → List Bool
list_from bit k zero = []
list_from bit k (suc n) = bit k ∷ list_from bit (k + 1) n

-- the bits, in order
abbrev pub bit_list : Bits → List Bool
bit_list b = list_from (bit_of b) 0 (len_of b)

-- how many of the first n bits are set
abbrev pub count_below : (ℕ → Bool) → ℕ → ℕ
count_below is_set zero = 0
count_below is_set (suc n) = count_below is_set n + (if is_set n then 1 else 0)

-- an iterator over all bits
abbrev pub all_bits : Bits → BitsIter
all_bits b = record { bits = b; next = 0 }

-- one step of the iterator: the next bit, if there is one
abbrev pub TakesBit : BitsIter → Option Bool → BitsIter → Type 0
TakesBit it bit after =
    (bit ≡ bit_at it.bits it.next) × (after.bits ≡ it.bits) × (after.next ≡ (if nat_lt it.next (len_of it.bits) then it.next + 1 else it.next))

abbrev pub remaining_bits : BitsIter → ℕ
remaining_bits it = len_of it.bits - it.next
