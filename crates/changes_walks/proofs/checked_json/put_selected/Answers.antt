use Rattle.changes_commands.proofs.GrowingLemmas.{longer_then}
use Rattle.changes_walks.proofs.checked_json.put_selected.Goals as goal

pub returns-in-Some : goal.returns-in-Some
returns-in-Some c =
    rw c.in-Some.is (longer_then c.args.out.now c.put_labelled.new.out c.put_labelled-in-Some.new.out _ _ c.put_labelled.ensures (rw c.wide.ensures at c.put_labelled-in-Some.ensures))
