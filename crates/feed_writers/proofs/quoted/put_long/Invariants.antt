use Rattle.std.proofs.Common.{◌≡◌, ◌≤◌, ◌+◌, ◌-◌, ◌*◌, ◌++◌, take, drop, length}
use Rattle.std.specs.List.{flat_map}
use Rattle.feed_writers.specs.Quoting.{quoted_byte}
use Rattle.feed_writers.proofs.quoted.put_long.Given as goal

-- the bytes written so far and the remaining bytes are all of them
abbrev pub invariant-loop-rest : goal.invariant-loop-rest
invariant-loop-rest l = record {
  most : l.end + 3 * length l.rest ≤ l.at + 3 * length l.bytes;
  few : length l.rest ≤ length l.bytes;
  rest : l.rest ≡ drop (length l.bytes - length l.rest) l.bytes;
  text : take l.end l.text ++ flat_map quoted_byte l.rest ≡ take l.at l.fn.text ++ flat_map quoted_byte l.bytes;
}

abbrev pub decreases-loop-rest : goal.decreases-loop-rest
decreases-loop-rest l = length l.rest
