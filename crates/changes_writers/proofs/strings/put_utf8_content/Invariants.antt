use Rattle.std.proofs.Common.{◌≡◌, ◌≤◌, ◌+◌, ◌*◌, ◌++◌, take, length}
use Rattle.std.specs.List.{flat_map}
use Rattle.changes_writers.specs.JsonStrings.{json_byte}
use Rattle.changes_writers.proofs.StringLemmas.{SameUtf8, Follows}
use Rattle.changes_writers.proofs.strings.put_utf8_content.Given as goal

-- the bytes written so far and the remaining bytes are all of them; the remaining ones decide whether all are UTF-8
abbrev pub invariant-loop-rest : goal.invariant-loop-rest
invariant-loop-rest l = record {
  most : l.end + 6 * length l.rest ≤ l.at + 6 * length l.bytes;
  text : take l.end l.text ++ flat_map json_byte l.rest ≡ take l.at l.fn.text ++ flat_map json_byte l.bytes;
  follows : Follows l.at l.fn.text l.end l.text;
  utf8 : SameUtf8 l.bytes l.rest;
}

abbrev pub decreases-loop-rest : goal.decreases-loop-rest
decreases-loop-rest l = length l.rest
