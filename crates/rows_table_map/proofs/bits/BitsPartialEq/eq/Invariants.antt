use Rattle.std.proofs.Common.{◌≡◌}
use Rattle.rows_table_map.specs.BitLists.{bit_of, len_of}
use Rattle.rows_table_map.proofs.EqualBitLemmas.{same_from}
use Rattle.rows_table_map.proofs.bits.BitsPartialEq.eq.Given as goal

-- the remaining bits decide
abbrev pub invariant-loop-index : goal.invariant-loop-index
invariant-loop-index l =
    same_from (bit_of l.self) (bit_of l.other) 0 (len_of l.self) ≡ same_from (bit_of l.self) (bit_of l.other) l.index (len_of l.self)
