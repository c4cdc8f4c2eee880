use Rattle.std.proofs.Common.{◌≡◌, ◌≤◌, ◌-◌, ◌%◌, bit_xor}
use Rattle.crc32.specs.Shortening.{AreByteValues, added, number_at}
use Rattle.crc32.proofs.shorten.register_after_last.Given as goal

-- the bytes so far, with the sums added to them
abbrev pub invariant-loop-at : goal.invariant-loop-at
invariant-loop-at l = record {
  in_range : l.at ≤ 304;
  whole : l.at % 16 ≡ 0;
  bytes : AreByteValues l.bytes;
  same : number_at 0 l.at l.bytes ≡ bit_xor (added 0 l.at l.taken) (number_at 0 l.at l.last);
}

abbrev pub decreases-loop-at : goal.decreases-loop-at
decreases-loop-at l = 304 - l.at
