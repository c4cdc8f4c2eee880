use Rattle.std.proofs.Common.{◌≡◌, ◌≤◌, ◌+◌, ◌-◌, length}
use Rattle.std.specs.Prelude.{take_while}
use Rattle.feed_writers.specs.Quoting.{is_plain_byte}
use Rattle.feed_writers.proofs.plain.plain_len.Given as goal

-- the bytes passed, and the count for the remaining bytes
abbrev pub invariant-loop-rest : goal.invariant-loop-rest
invariant-loop-rest l = record {
  few : length l.rest ≤ length l.bytes;
  plain : length (take_while is_plain_byte l.bytes) ≡ length l.bytes - length l.rest + length (take_while is_plain_byte l.rest);
}

abbrev pub decreases-loop-rest : goal.decreases-loop-rest
decreases-loop-rest l = length l.rest
