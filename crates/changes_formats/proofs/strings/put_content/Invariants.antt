use Rattle.std.proofs.Common.{◌≡◌, ◌++◌, length}
use Rattle.std.specs.List.{flat_map}
use Rattle.feed_text.specs.Buffers.{text_in}
use Rattle.changes_writers.specs.JsonStrings.{json_byte}
use Rattle.changes_formats.proofs.strings.put_content.Given as goal

-- the text with the rest of the string is the whole text
abbrev pub invariant-loop-rest : goal.invariant-loop-rest
invariant-loop-rest l = text_in l.out ++ flat_map json_byte l.rest ≡ text_in l.fn.out ++ flat_map json_byte l.fn.bytes

abbrev pub decreases-loop-rest : goal.decreases-loop-rest
decreases-loop-rest l = length l.rest
