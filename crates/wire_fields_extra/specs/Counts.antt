-- Element counts of a fixed number of bytes.
use Rattle.std.specs.Prelude.{◌<◌, ◌-◌, ◌^◌, ℕ, List, nat_lt, if◌then◌else◌}
use Rattle.wire_buf.specs.Encoding.{IsFixed}

-- the largest count in n bytes, or the largest length
abbrev pub max_count_of : ℕ → ℕ
max_count_of n = if nat_lt n 8 then 256 ^ n - 1 else 2 ^ 64 - 1

-- n bytes that encode the count, which fits in 64 bits: always true for up to eight bytes
abbrev pub IsCount : (List ℕ → ℕ) → ℕ → ℕ → List ℕ → Type 0
IsCount number n count bytes = IsFixed number n count bytes × (count < 2 ^ 64)
