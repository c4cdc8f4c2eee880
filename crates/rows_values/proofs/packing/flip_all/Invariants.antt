use Rattle.std.proofs.Common.{◌≡◌, ◌-◌, ◌++◌, take, drop, map}
use Rattle.rows_values.proofs.packing.flip_all.Given as goal

-- the bytes so far are inverted, and the others unchanged
abbrev pub invariant-loop-byte : goal.invariant-loop-byte
invariant-loop-byte l = l.byte-items ≡ map (λ b. 255 - b) (take l.byte-index l.initial.byte-items) ++ drop l.byte-index l.initial.byte-items
