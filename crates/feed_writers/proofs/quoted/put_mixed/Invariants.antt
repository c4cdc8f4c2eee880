use Rattle.std.proofs.Common.{◌≡◌, ◌≤◌, ◌+◌, ◌*◌, ◌++◌, take}
use Rattle.std.specs.List.{flat_map}
use Rattle.feed_writers.specs.Quoting.{quoted_byte}
use Rattle.feed_writers.proofs.quoted.put_mixed.Given as goal

-- the bytes written so far
abbrev pub invariant-loop-byte : goal.invariant-loop-byte
invariant-loop-byte l = record {
  most : l.end ≤ l.at + 3 * l.byte-index;
  written : take l.end l.text ≡ take l.at l.fn.text ++ flat_map quoted_byte (take l.byte-index l.bytes);
}
