use Rattle.std.proofs.Common.{◌≡◌, ◌≤◌, ◌*◌}
use Rattle.rows_table_map.specs.BitLists.{bit_of, count_below}
use Rattle.rows_table_map.proofs.bits.Bits.count_ones.Given as goal

-- the bits of the bytes so far
abbrev pub invariant-loop-byte : goal.invariant-loop-byte
invariant-loop-byte l = record { counted : l.count ≡ count_below (bit_of l.self) (8 * l.byte-index); few : l.count ≤ 8 * l.byte-index }
