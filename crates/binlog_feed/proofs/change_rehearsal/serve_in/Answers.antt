use Rattle.binlog_feed.proofs.change_rehearsal.serve_in.Goals as goal

pub returns-in-Plain : goal.returns-in-Plain
returns-in-Plain g c = record { serves = λ sum asked k is. rw c.in-Plain.is (c.serve.ensures.serves sum asked k is) }

pub returns-in-SemiSync : goal.returns-in-SemiSync
returns-in-SemiSync g c = record { serves = λ sum asked k is. rw c.in-SemiSync.is (c.serve_semi.ensures.serves sum asked k is) }
