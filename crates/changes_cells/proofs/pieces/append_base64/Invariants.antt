use Rattle.std.proofs.Common.{◌≡◌, ◌++◌, length, take}
use Rattle.base64.specs.Engines.{standard}
use Rattle.base64.specs.GeneralPurpose.{encode_of}
use Rattle.feed_text.specs.Buffers.{text_in}
use Rattle.changes_cells.proofs.pieces.append_base64.Given as goal

-- the text so far and the remaining bytes give the whole text, and the text before is unchanged
abbrev pub invariant-loop-rest : goal.invariant-loop-rest
invariant-loop-rest g l = record {
  written : text_in l.text ++ encode_of standard l.rest ≡ text_in l.fn.text ++ encode_of standard l.bytes;
  kept : take (length (text_in l.fn.text)) (text_in l.text) ≡ text_in l.fn.text;
}

abbrev pub decreases-loop-rest : goal.decreases-loop-rest
decreases-loop-rest g l = length l.rest
