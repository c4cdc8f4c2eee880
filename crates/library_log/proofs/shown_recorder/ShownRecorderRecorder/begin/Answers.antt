use Rattle.library_log.proofs.ShownLemmas.{lines_like, record_like}
use Rattle.library_log.proofs.shown_recorder.ShownRecorderRecorder.begin.Goals as goal

pub returns-in-Lines-clause-like : goal.returns-in-Lines-clause-like
returns-in-Lines-clause-like c = rw c.in-Lines.is (lines_like c.begin.result c.in-Lines.lines c.begin.new.self c.begin.ensures.like)

pub returns-in-Record-clause-like : goal.returns-in-Record-clause-like
returns-in-Record-clause-like c = rw c.in-Record.is (record_like c.begin-in-Record.result c.in-Record.record c.begin-in-Record.new.self)
