use Rattle.std.proofs.Common.{◌∙◌}
use Rattle.library_log.proofs.TakenLemmas.{is_there}
use Rattle.library_log.proofs.recorder.RecordRecorder.has_taken.Goals as goal

pub returns : goal.returns
returns c = λ t done. c.is_some.ensures ∙ is_there c.next.result c.next.new.self _ (c.next.ensures.steps _ (c.taken_by-taken.ensures t.changes (c.changes.ensures t (c.transaction.ensures t done))))
