use Rattle.std.proofs.Common.{◌≡◌, ◌++◌, map}
use Rattle.feed_text.specs.Buffers.{text_in}
use Rattle.changes_formats.specs.EnvelopeMembers.{has_bit, item_in}
use Rattle.changes_formats.proofs.MemberListLemmas.{none_chosen, so_far}
use Rattle.changes_formats.proofs.members.put_items.Given as goal

-- the members of the bits so far
abbrev pub invariant-loop-bit : goal.invariant-loop-bit
invariant-loop-bit l = record {
  text : text_in l.out ≡ text_in l.initial.out ++ so_far (has_bit l.number) (item_in l.format (map (λ m. m.items) l.members)) l.bit;
  first : l.is_first ≡ none_chosen (has_bit l.number) l.bit;
}
