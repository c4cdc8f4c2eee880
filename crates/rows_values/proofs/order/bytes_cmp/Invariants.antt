use Rattle.std.proofs.Common.{◌≡◌, length}
use Rattle.std.specs.Ordering.{nat_cmp}
use Rattle.std.specs.Cmp.Lexicographic.{slice_cmp}
use Rattle.rows_values.specs.Digits.{signed}
use Rattle.rows_values.specs.RemainingGroups.{remaining_bytes}
use Rattle.rows_values.proofs.order.bytes_cmp.Given as goal

-- the remaining bytes decide
abbrev pub invariant-loop-byte : goal.invariant-loop-byte
invariant-loop-byte l =
    slice_cmp nat_cmp (signed l.negative (remaining_bytes l.initial.first)) (signed l.negative (remaining_bytes l.initial.second))
    ≡ slice_cmp nat_cmp (signed l.negative (remaining_bytes l.first)) (signed l.negative (remaining_bytes l.second))

abbrev pub decreases-loop-byte : goal.decreases-loop-byte
decreases-loop-byte l = length (remaining_bytes l.first)
