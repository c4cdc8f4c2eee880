use Rattle.std.proofs.Common.{◌≡◌, ◌++◌, length, map, take}
use Rattle.std.specs.List.{join_with_byte}
use Rattle.feed_text.specs.Buffers.{text_in}
use Rattle.feed_text.specs.DirectText.{separator}
use Rattle.changes_cells.specs.CellJson.{bit_texts}
use Rattle.changes_cells.proofs.MemberLemmas.{after_elements}
use Rattle.changes_cells.proofs.members.append_bits.Given as goal

-- the members with the bits so far, and what separates them from the next
abbrev pub invariant-loop-index : goal.invariant-loop-index
invariant-loop-index g l = record {
  written : text_in l.text ≡ text_in l.fn.text ++ join_with_byte 44 (bit_texts (map (λ m. m.items) l.members) l.bits l.index);
  next : separator l.is_first ≡ after_elements (bit_texts (map (λ m. m.items) l.members) l.bits l.index);
  kept : take (length (text_in l.fn.text)) (text_in l.text) ≡ text_in l.fn.text;
}
