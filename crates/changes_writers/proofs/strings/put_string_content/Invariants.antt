use Rattle.std.proofs.Common.{◌≡◌, ◌≤◌, ◌+◌, ◌*◌, ◌++◌, take, length}
use Rattle.std.specs.List.{flat_map}
use Rattle.changes_writers.specs.JsonStrings.{json_byte}
use Rattle.changes_writers.proofs.strings.put_string_content.Given as goal

-- the bytes written so far and the remaining bytes are all of them
abbrev pub invariant-loop-rest : goal.invariant-loop-rest
invariant-loop-rest l = record {
  most : l.end + 6 * length l.rest ≤ l.at + 6 * length l.bytes;
  text : take l.end l.text ++ flat_map json_byte l.rest ≡ take l.at l.fn.text ++ flat_map json_byte l.bytes;
}

abbrev pub decreases-loop-rest : goal.decreases-loop-rest
decreases-loop-rest l = length l.rest
