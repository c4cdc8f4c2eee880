use Rattle.std.proofs.Common.{◌≡◌, ◌-◌, ◌^◌, sum, min, take}
use Rattle.rows_table_map.proofs.lengths.event_len.Given as goal

-- the sum of the parts so far, at most 2^64 - 1
abbrev pub invariant-loop-part : goal.invariant-loop-part
invariant-loop-part l = l.len ≡ min (sum (take l.part-index l.parts)) (2 ^ 64 - 1)
