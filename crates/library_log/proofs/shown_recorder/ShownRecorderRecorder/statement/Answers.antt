use Rattle.library_log.proofs.ShownLemmas.{lines_like, record_like}
use Rattle.library_log.proofs.shown_recorder.ShownRecorderRecorder.statement.Goals as goal

pub returns-in-Lines-clause-ok : goal.returns-in-Lines-clause-ok
returns-in-Lines-clause-ok c = rw c.in-Lines.is c.statement.ensures.ok

pub returns-in-Lines-clause-like : goal.returns-in-Lines-clause-like
returns-in-Lines-clause-like c = rw c.in-Lines.is (lines_like c.statement.result c.in-Lines.lines c.statement.new.self c.statement.ensures.like)

pub returns-in-Record-clause-ok : goal.returns-in-Record-clause-ok
returns-in-Record-clause-ok c = rw c.in-Record.is c.statement-in-Record.ensures.ok

pub returns-in-Record-clause-like : goal.returns-in-Record-clause-like
returns-in-Record-clause-like c = rw c.in-Record.is (record_like c.statement-in-Record.result c.in-Record.record c.statement-in-Record.new.self)
