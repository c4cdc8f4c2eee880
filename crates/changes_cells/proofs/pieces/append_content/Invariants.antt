use Rattle.std.proofs.Common.{◌≡◌, ◌++◌, length, take}
use Rattle.std.specs.List.{flat_map}
use Rattle.changes_writers.specs.JsonStrings.{json_byte}
use Rattle.feed_text.specs.Buffers.{text_in}
use Rattle.changes_cells.proofs.pieces.append_content.Given as goal

-- the text so far and the remaining bytes give the whole text, and the text before is unchanged
abbrev pub invariant-loop-rest : goal.invariant-loop-rest
invariant-loop-rest g l = record {
  written : text_in l.text ++ flat_map json_byte l.rest ≡ text_in l.fn.text ++ flat_map json_byte l.bytes;
  kept : take (length (text_in l.fn.text)) (text_in l.text) ≡ text_in l.fn.text;
}

abbrev pub decreases-loop-rest : goal.decreases-loop-rest
decreases-loop-rest g l = length l.rest
