use Rattle.std.proofs.Common.{◌≡◌, ◌∙◌, ◌++◌, refl, subst, sym}
use Rattle.feed_checks.specs.Sums.{IsChecksumFunction}
use Rattle.feed_transactions.specs.Checks.{fault_of}
use Rattle.changes_walks.specs.FollowedAnswers.{events_of, payloads_of}
use Rattle.changes_walks.proofs.WriteOutLemmas.{fails_before, fails_writing, lacks_bytes, received, writes_out}
use Rattle.changes_walks.proofs.following.take_piece.Goals as goal

pub returns-in_default-clause-takes : goal.returns-in_default-clause-takes
returns-in_default-clause-takes g c = λ sum k q kq source first s began written.
    lacks_bytes g.C.Recorder.IsOpen g.C.Recorder.IsLike g.S.TransactionSink.Expects q (fault_of sum) c.args.filter g.E.Events.MayGive source (g.S.AnswerSink.HasLogs first) c.args.answer.now c.receive.new.self c.args.log.now c.args.sink.now s c.args.piece.now began c.receive.ensures.settings (g.S.AnswerSink.FailsInLogs first) g.S.AnswerSink.IsWritten written

pub returns-then-is_failed-clause-takes : goal.returns-then-is_failed-clause-takes
returns-then-is_failed-clause-takes g c = λ sum k q kq source first s began written.
    let h = received g.C.Recorder.IsOpen g.C.Recorder.IsLike g.S.TransactionSink.Expects q (fault_of sum) c.args.filter g.E.Events.MayGive source (g.S.AnswerSink.HasLogs first) c.args.answer.now c.receive.new.self c.args.log.now c.args.sink.now s c.args.piece.now began c.receive.ensures.settings (c.in-Ok.ensures.ok q.sum q.first s (payloads_of began.xs) (events_of q began.xs) began.events) in
    fails_before g.C.Recorder.IsOpen g.C.Recorder.IsLike g.S.TransactionSink.Expects q (fault_of sum) c.args.filter g.E.Events.MayGive source (g.S.AnswerSink.HasLogs first) (g.S.AnswerSink.FailsInLogs first) g.S.AnswerSink.IsWritten c.take_packets-outcome.new.answer c.take_packets-outcome.new.log c.take_packets-outcome.new.sink (s ++ c.args.piece.now) c.take_packets-outcome.result (sym c.is_failed.ensures ∙ c.if-is_failed.true) (c.take_packets-outcome.ensures.takes sum k q (subst (λ (x : _). IsChecksumFunction g.G.Fn x q.sum) (sym c.receive.ensures.settings.checksum) kq) source first (s ++ c.args.piece.now) h)

pub returns-in-Ok-write_out-clause-takes : goal.returns-in-Ok-write_out-clause-takes
returns-in-Ok-write_out-clause-takes g c = λ sum k q kq source first s began written.
    let h = received g.C.Recorder.IsOpen g.C.Recorder.IsLike g.S.TransactionSink.Expects q (fault_of sum) c.args.filter g.E.Events.MayGive source (g.S.AnswerSink.HasLogs first) c.args.answer.now c.receive.new.self c.args.log.now c.args.sink.now s c.args.piece.now began c.receive.ensures.settings (c.in-Ok.ensures.ok q.sum q.first s (payloads_of began.xs) (events_of q began.xs) began.events) in
    writes_out g.C.Recorder.IsOpen g.C.Recorder.IsLike g.S.TransactionSink.Expects q (fault_of sum) c.args.filter g.E.Events.MayGive source (g.S.AnswerSink.HasLogs first) (g.S.AnswerSink.FailsInLogs first) g.S.AnswerSink.IsWritten c.take_packets-outcome.new.answer c.acks-due.new.self c.take_packets-outcome.new.log c.take_packets-outcome.new.sink c.write_out.new.self (s ++ c.args.piece.now) c.deref.result.now (c.deref.ensures.value ∙ c.acks-due.ensures.acks) c.acks-due.ensures.kept c.acks-due.ensures.none_waits
    (λ l a has. c.in-Ok-write_out.ensures.ok first l a has)
    c.take_packets-outcome.result (sym c.is_failed.ensures ∙ c.if-is_failed.false) (c.take_packets-outcome.ensures.takes sum k q (subst (λ (x : _). IsChecksumFunction g.G.Fn x q.sum) (sym c.receive.ensures.settings.checksum) kq) source first (s ++ c.args.piece.now) h) (λ r wanted. c.in-Ok-write_out.ensures.wants c.args.filter r wanted) c.in-Ok-write_out.ensures.written

pub returns-clause-takes : goal.returns-clause-takes
returns-clause-takes g c = λ sum k q kq source first s began written.
    let h = received g.C.Recorder.IsOpen g.C.Recorder.IsLike g.S.TransactionSink.Expects q (fault_of sum) c.args.filter g.E.Events.MayGive source (g.S.AnswerSink.HasLogs first) c.args.answer.now c.receive.new.self c.args.log.now c.args.sink.now s c.args.piece.now began c.receive.ensures.settings (c.in-Ok.ensures.ok q.sum q.first s (payloads_of began.xs) (events_of q began.xs) began.events) in
    fails_writing g.C.Recorder.IsOpen g.C.Recorder.IsLike g.S.TransactionSink.Expects q (fault_of sum) c.args.filter g.E.Events.MayGive source (g.S.AnswerSink.HasLogs first) (g.S.AnswerSink.FailsInLogs first) g.S.AnswerSink.IsWritten c.take_packets-outcome.new.answer c.acks-due.new.self c.take_packets-outcome.new.log c.take_packets-outcome.new.sink c.write_out.new.self (s ++ c.args.piece.now) c.deref.result.now (c.deref.ensures.value ∙ c.acks-due.ensures.acks) c.acks-due.ensures.kept c.take_packets-outcome.result (sym c.is_failed.ensures ∙ c.if-is_failed.false) (c.take_packets-outcome.ensures.takes sum k q (subst (λ (x : _). IsChecksumFunction g.G.Fn x q.sum) (sym c.receive.ensures.settings.checksum) kq) source first (s ++ c.args.piece.now) h) c.in-Err.failure (λ l a has. c.in-Err.ensures.err first l a has)
