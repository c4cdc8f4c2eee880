use Rattle.changes_commands.proofs.GrowingLemmas.{longer_then}
use Rattle.changes_walks.proofs.checked_json.put_end.Goals as goal

pub returns : goal.returns
returns c =
    let last = c.put_truth-2.new.out in
    longer_then c.args.out.now c.put_labelled.new.out last _ _ (rw (c.wide.ensures, c.last_commit.ensures) at c.put_labelled.ensures)
    (longer_then c.put_labelled.new.out c.put_truth.new.out last _ _ c.put_truth.ensures c.put_truth-2.ensures)
