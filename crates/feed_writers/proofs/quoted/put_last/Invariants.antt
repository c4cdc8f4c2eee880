use Rattle.std.proofs.Common.{◌≡◌, ◌≤◌, ◌+◌, ◌-◌, ◌*◌, ◌++◌, take, drop, length}
use Rattle.std.specs.List.{flat_map}
use Rattle.feed_writers.specs.Quoting.{quoted_byte}
use Rattle.feed_writers.proofs.quoted.put_last.Given as goal

-- the bytes written so far and the remaining bytes are all of them
abbrev pub invariant-loop-text : goal.invariant-loop-text
invariant-loop-text l = record {
  most : l.end + 3 * length l.rest ≤ l.at + 3 * length l.last;
  few : length l.rest ≤ length l.bytes;
  rest : l.rest ≡ drop (length l.bytes - length l.rest) l.bytes;
  text : take l.end l.text ++ flat_map quoted_byte l.rest ≡ take l.at l.fn.text ++ flat_map quoted_byte l.last;
}

abbrev pub decreases-loop-text : goal.decreases-loop-text
decreases-loop-text l = length l.rest
