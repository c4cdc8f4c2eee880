use Rattle.std.proofs.Common.{◌≡◌, ◌≤◌, ◌+◌, ◌*◌, ◌++◌, take}
use Rattle.std.specs.List.{flat_map}
use Rattle.changes_writers.specs.JsonStrings.{json_byte}
use Rattle.changes_writers.proofs.escapes.put_each.Given as goal

-- the bytes written so far
abbrev pub invariant-loop-byte : goal.invariant-loop-byte
invariant-loop-byte l = record {
  most : l.end ≤ l.at + 6 * l.byte-index;
  written : take l.end l.text ≡ take l.at l.fn.text ++ flat_map json_byte (take l.byte-index l.bytes);
}
