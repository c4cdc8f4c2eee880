use Rattle.std.proofs.Common.{◌≡◌, ◌+◌, ◌*◌, ◌++◌, take}
use Rattle.std.specs.List.{flat_map}
use Rattle.feed_writers.specs.Quoting.{escape}
use Rattle.feed_writers.proofs.escapes.put_escapes.Given as goal

-- the escapes written so far
abbrev pub invariant-loop-byte : goal.invariant-loop-byte
invariant-loop-byte l = record {
  end : l.end ≡ l.at + 3 * l.byte-index;
  written : take l.end l.text ≡ take l.at l.fn.text ++ flat_map escape (take l.byte-index l.bytes);
}
