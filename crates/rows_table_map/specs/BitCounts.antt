-- One step of counting bits. BitLists defines how many bits are set in all.
use Rattle.std.specs.Prelude.{ℕ, ◌-◌, ◌/◌, ◌%◌, ◌^◌, Bool, true, false, ◌==◌}
use Rattle.rows_table_map.specs.BitLists.{count_below}

-- how many of the first n bits of a byte are set, from its highest or from its lowest bit on
abbrev pub first_ones : Bool → ℕ → ℕ → ℕ
first_ones true byte n = count_below (λ i. byte / 2 ^ (7 - i) % 2 == 1) n
first_ones false byte n = count_below (λ i. byte / 2 ^ i % 2 == 1) n
