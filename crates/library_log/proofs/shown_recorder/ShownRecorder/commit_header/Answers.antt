use Rattle.library_log.proofs.shown_recorder.ShownRecorder.commit_header.Goals as goal

pub returns-in-Lines : goal.returns-in-Lines
returns-in-Lines c = rw c.in-Lines.is c.commit_header.ensures
