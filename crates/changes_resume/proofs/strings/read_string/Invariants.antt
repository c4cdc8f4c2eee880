use Rattle.std.proofs.Common.{◌≡◌, ◌++◌, length}
use Rattle.std.specs.List.{flat_map}
use Rattle.changes_writers.specs.JsonStrings.{json_byte}
use Rattle.changes_resume.proofs.strings.read_string.Given as goal

-- the bytes so far are the content before the remaining text
abbrev pub invariant-loop-byte : goal.invariant-loop-byte
invariant-loop-byte l = flat_map json_byte l.bytes.items ++ l.rest ≡ l.text

abbrev pub decreases-loop-byte : goal.decreases-loop-byte
decreases-loop-byte l = length l.rest
