use Rattle.library_log.proofs.ShownLemmas.{lines_like, record_like}
use Rattle.library_log.proofs.shown_recorder.ShownRecorderRecorder.observe.Goals as goal

pub returns-in-Lines-clause-open : goal.returns-in-Lines-clause-open
returns-in-Lines-clause-open c = rw c.in-Lines.is c.observe.ensures.open

pub returns-in-Lines-clause-like : goal.returns-in-Lines-clause-like
returns-in-Lines-clause-like c = rw c.in-Lines.is (lines_like c.observe.result c.in-Lines.lines c.observe.new.self c.observe.ensures.like)

pub returns-in-Record-clause-open : goal.returns-in-Record-clause-open
returns-in-Record-clause-open c = rw c.in-Record.is c.observe-in-Record.ensures.open

pub returns-in-Record-clause-like : goal.returns-in-Record-clause-like
returns-in-Record-clause-like c = rw c.in-Record.is (record_like c.observe-in-Record.result c.in-Record.record c.observe-in-Record.new.self)
