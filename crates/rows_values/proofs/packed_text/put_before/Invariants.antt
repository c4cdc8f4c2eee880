use Rattle.std.proofs.Common.{◌%◌, ◌*◌, ◌+◌, true, take, drop}
use Rattle.rows_values.specs.Digits.{group_size}
use Rattle.rows_values.specs.Unpacked.{concat_digits, group_digits, nines_digits}
use Rattle.rows_values.specs.PackedTexts.{Leads, flipped_back}
use Rattle.rows_values.proofs.packed_text.put_before.Given as goal

-- the digits of the groups so far
abbrev pub invariant-loop-i : goal.invariant-loop-i
invariant-loop-i l =
    Leads l.negative
    (concat_digits (group_digits (l.count % 9) (take (group_size (l.count % 9)) (flipped_back l.negative true l.bytes))) (nines_digits l.i (drop (group_size (l.count % 9)) (flipped_back l.negative true l.bytes))))
    (l.count % 9 + 9 * l.i) l.at l.fn.text l.text l.end l.shown
