use Rattle.std.proofs.Common.{◌≤◌, [], length, take}
use Rattle.changes_character_sets.proofs.TextLemmas.{Reads}
use Rattle.changes_cells.proofs.decoding.decode_few.Given as goal

-- the text so far is that of the bytes before the remaining ones
abbrev pub invariant-loop-rest : goal.invariant-loop-rest
invariant-loop-rest l = record {
  within : l.end ≤ 66;
  reads : Reads l.set l.bytes l.rest [] (take l.end l.buffer);
}

abbrev pub decreases-loop-rest : goal.decreases-loop-rest
decreases-loop-rest l = length l.rest
