use Rattle.changes_commands.proofs.GrowingLemmas.{longer_then}
use Rattle.changes_walks.proofs.checked_json.put_rest.Goals as goal

pub returns : goal.returns
returns c = longer_then c.args.out.now c.put_labelled.new.out c.put_labelled-2.new.out _ _ c.put_labelled.ensures (rw c.next_offset.ensures.offset at c.put_labelled-2.ensures)
