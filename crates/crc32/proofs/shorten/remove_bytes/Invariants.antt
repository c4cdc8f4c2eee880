use Rattle.std.proofs.Common.{◌≡◌, ◌≤◌, ◌-◌, ◌+◌, ◌%◌, drop}
use Rattle.crc32.specs.Checksums.{after_bytes}
use Rattle.crc32.specs.Shortening.{pending}
use Rattle.crc32.proofs.shorten.remove_bytes.Given as goal

-- the rest of the message, with the sums added to it, leads to the same register
abbrev pub invariant-loop-at : goal.invariant-loop-at
invariant-loop-at l = record {
  in_range : l.at ≤ l.len;
  whole : l.at % 32 ≡ 0;
  same : after_bytes (pending l.at l.taken) (drop (l.from + l.at) l.bytes) ≡ after_bytes (pending 0 l.fn.taken) (drop l.from l.bytes);
}

abbrev pub decreases-loop-at : goal.decreases-loop-at
decreases-loop-at l = l.len - l.at
