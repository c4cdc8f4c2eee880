use Rattle.std.proofs.Common.{◌≡◌, ◌≤◌, ◌+◌, ◌++◌, [], length}
use Rattle.rows_values.specs.Digits.{AreDigits, group_bytes}
use Rattle.rows_values.specs.Steps.{sides_bytes}
use Rattle.rows_values.proofs.packing.put_groups.Given as goal

-- the bytes written, the current group and those after it are all bytes
abbrev pub invariant-loop-group : goal.invariant-loop-group
invariant-loop-group l = record {
  few : length l.group ≤ 9;
  group_are : AreDigits l.group;
  before_are : AreDigits l.before;
  after_are : AreDigits l.after;
  none : length l.group ≡ 0 → sides_bytes l.before l.after ≡ [];
  written : l.out.items ++ (group_bytes l.group ++ sides_bytes l.before l.after) ≡ l.fn.out.items ++ sides_bytes l.fn.before l.fn.after;
}

abbrev pub decreases-loop-group : goal.decreases-loop-group
decreases-loop-group l = length l.group + (length l.before + length l.after)
