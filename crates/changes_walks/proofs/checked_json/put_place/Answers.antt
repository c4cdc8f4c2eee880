use Rattle.changes_commands.proofs.GrowingLemmas.{longer_then}
use Rattle.changes_walks.proofs.checked_json.put_place.Goals as goal

pub returns : goal.returns
returns c = longer_then c.args.out.now c.put_truth.new.out c.put_labelled.new.out _ _ (rw c.is_whole.ensures at c.put_truth.ensures) c.put_labelled.ensures
