use Rattle.std.proofs.Common.{◌≡◌, ◌≤◌, ◌-◌, ◌+◌, length, drop}
use Rattle.crc32.specs.Checksums.{after_bytes}
use Rattle.crc32.specs.Shortening.{pending}
use Rattle.crc32.proofs.shorten.register_after_removed.Given as goal

-- the rest of the message, with the sums added to it, leads to the same register
abbrev pub invariant-loop-at : goal.invariant-loop-at
invariant-loop-at l = record {
  in_range : l.at + 304 ≤ length l.bytes;
  same : after_bytes (pending 0 l.taken) (drop l.at l.bytes) ≡ after_bytes (pending 0 l.fn.taken) l.bytes;
}

abbrev pub decreases-loop-at : goal.decreases-loop-at
decreases-loop-at l = length l.bytes - l.at
