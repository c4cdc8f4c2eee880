use Rattle.library_log.proofs.ShownLemmas.{lines_like, record_like}
use Rattle.library_log.proofs.shown_recorder.ShownRecorderRecorder.commit.Goals as goal

pub returns-in-Lines-clause-ok : goal.returns-in-Lines-clause-ok
returns-in-Lines-clause-ok c = rw c.in-Lines.is c.commit.ensures.ok

pub returns-in-Lines-clause-like : goal.returns-in-Lines-clause-like
returns-in-Lines-clause-like c = rw c.in-Lines.is (lines_like c.commit.result c.in-Lines.lines c.commit.new.self c.commit.ensures.like)

pub returns-in-Record-clause-ok : goal.returns-in-Record-clause-ok
returns-in-Record-clause-ok c = rw c.in-Record.is c.commit-in-Record.ensures.ok

pub returns-in-Record-clause-like : goal.returns-in-Record-clause-like
returns-in-Record-clause-like c = rw c.in-Record.is (record_like c.commit-in-Record.result c.in-Record.record c.commit-in-Record.new.self)
