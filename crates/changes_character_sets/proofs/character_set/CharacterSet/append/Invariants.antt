use Rattle.std.proofs.Common.{◌≡◌, length, take}
use Rattle.changes_character_sets.proofs.TextLemmas.{Reads}
use Rattle.changes_character_sets.proofs.character_set.CharacterSet.append.Given as goal

-- the text so far begins with the old one; the rest of it is the text of the bytes before the remaining ones
abbrev pub invariant-loop-rest : goal.invariant-loop-rest
invariant-loop-rest l = record {
  kept : take (length l.fn.text.items) l.text.items ≡ l.fn.text.items;
  reads : Reads l.self l.fn.bytes l.rest l.fn.text.items l.text.items;
}

abbrev pub decreases-loop-rest : goal.decreases-loop-rest
decreases-loop-rest l = length l.rest
