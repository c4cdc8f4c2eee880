use Rattle.std.proofs.Common.{◌≡◌, ◌∙◌, ◌++◌, length, refl, subst, sym, take}
use Rattle.wire_buf.specs.Watched.{has_failed, inner_of}
use Rattle.feed_checks.specs.Sums.{IsChecksumFunction}
use Rattle.feed_transactions.specs.Checks.{fault_of}
use Rattle.changes_walks.proofs.EndLemmas.{ends_cut, ends_taken, ends_unread, ends_whole, read_more, read_none}
use Rattle.changes_walks.proofs.following.follow_answer.Goals as goal

pub loop-answer-init : goal.loop-answer-init
loop-answer-init g c = record { answer = refl; on = λ sum k q kq source first s began written. read_none g.C.Recorder.IsOpen g.C.Recorder.IsLike g.S.TransactionSink.Expects q (fault_of sum) c.args.filter g.E.Events.MayGive source (g.S.AnswerSink.HasLogs first) (g.S.AnswerSink.FailsInLogs first) g.S.AnswerSink.IsWritten c.args.answer.now c.args.log.now c.args.sink.now s _ began written }

pub returns-in-Ok-eq0 : goal.returns-in-Ok-eq0
returns-in-Ok-eq0 g c = record {
  follows = λ sum k q kq source first s began written. (
      let r = c.loop-answer.invariant.on sum k q kq source first s began written in
      ends_whole g.C.Recorder.IsOpen g.C.Recorder.IsLike g.S.TransactionSink.Expects q (fault_of sum) c.args.filter g.E.Events.MayGive source (g.S.AnswerSink.HasLogs first) (g.S.AnswerSink.FailsInLogs first) g.S.AnswerSink.IsWritten c.loop-answer.answer c.loop-answer.log c.loop-answer.sink s (g.R.Read.remaining (inner_of c.args.input.now)) (g.R.Read.remaining (inner_of c.loop-answer.input)) (g.R.Read.remaining (inner_of c.pull_uninterrupted.new.self)) (length c.pull_uninterrupted.new.buf) (has_failed c.pull_uninterrupted.new.self) r c.in-Ok-eq0.field-0 c.pull_uninterrupted.new.buf c.in-Ok-eq0.field-0-test c.in-Ok-eq0.ensures.bytes (c.if-is_complete.ensures.gathered refl) (c.if-is_complete.ensures.received refl));
}

pub returns-in-Ok-eq0-2 : goal.returns-in-Ok-eq0-2
returns-in-Ok-eq0-2 g c = record {
  follows = λ sum k q kq source first s began written. (
      let r = c.loop-answer.invariant.on sum k q kq source first s began written in
      ends_cut g.C.Recorder.IsOpen g.C.Recorder.IsLike g.S.TransactionSink.Expects q (fault_of sum) c.args.filter g.E.Events.MayGive source (g.S.AnswerSink.HasLogs first) (g.S.AnswerSink.FailsInLogs first) g.S.AnswerSink.IsWritten c.loop-answer.answer c.loop-answer.log c.loop-answer.sink s (g.R.Read.remaining (inner_of c.args.input.now)) (g.R.Read.remaining (inner_of c.loop-answer.input)) (g.R.Read.remaining (inner_of c.pull_uninterrupted.new.self)) (length c.pull_uninterrupted.new.buf) (has_failed c.pull_uninterrupted.new.self) r c.in-Ok-eq0.field-0 c.pull_uninterrupted.new.buf c.in-Ok-eq0.field-0-test c.in-Ok-eq0.ensures.bytes);
}

pub returns-in-Err : goal.returns-in-Err
returns-in-Err g c = record {
  follows = λ sum k q kq source first s began written. (
      let r = c.loop-answer.invariant.on sum k q kq source first s began written in
      ends_unread g.C.Recorder.IsOpen g.C.Recorder.IsLike g.S.TransactionSink.Expects q (fault_of sum) c.args.filter g.E.Events.MayGive source (g.S.AnswerSink.HasLogs first) (g.S.AnswerSink.FailsInLogs first) g.S.AnswerSink.IsWritten c.loop-answer.answer c.loop-answer.log c.loop-answer.sink s (g.R.Read.remaining (inner_of c.args.input.now)) (g.R.Read.remaining (inner_of c.loop-answer.input)) (g.R.Read.remaining (inner_of c.pull_uninterrupted.new.self)) (length c.pull_uninterrupted.new.buf) (has_failed c.pull_uninterrupted.new.self) r c.in-Err.ensures.bytes c.in-Err.ensures.err);
}

pub returns-in-Err-take_piece : goal.returns-in-Err-take_piece
returns-in-Err-take_piece g c = record {
  follows = λ sum k q kq source first s began written. (
      let r = c.loop-answer.invariant.on sum k q kq source first s began written in
      ends_taken g.C.Recorder.IsOpen g.C.Recorder.IsLike g.S.TransactionSink.Expects q (fault_of sum) c.args.filter g.E.Events.MayGive source (g.S.AnswerSink.HasLogs first) (g.S.AnswerSink.FailsInLogs first) g.S.AnswerSink.IsWritten c.take_piece.new.answer c.take_piece.new.log c.take_piece.new.sink s (g.R.Read.remaining (inner_of c.args.input.now)) (g.R.Read.remaining (inner_of c.loop-answer.input)) (g.R.Read.remaining (inner_of c.pull_uninterrupted.new.self)) (length c.pull_uninterrupted.new.buf) (has_failed c.pull_uninterrupted.new.self) r.read (take c.in-Ok.taken c.pull_uninterrupted.new.buf) r.consumed c.in-Ok.ensures.bytes.0 c.in-Err-take_piece.end (c.in-Err-take_piece.ensures.takes sum k q (subst (λ (x : _). IsChecksumFunction g.G.Fn x q.sum) (sym c.loop-answer.invariant.answer) kq) source first (s ++ r.read) r.up.following r.up.written));
}

pub loop-answer-preserved : goal.loop-answer-preserved
loop-answer-preserved g c = record {
  answer = c.take_piece.ensures.checksum ∙ c.loop-answer.invariant.answer;
  on = λ sum k q kq source first s began written. (
      let r = c.loop-answer.invariant.on sum k q kq source first s began written in
      read_more g.C.Recorder.IsOpen g.C.Recorder.IsLike g.S.TransactionSink.Expects q (fault_of sum) c.args.filter g.E.Events.MayGive source (g.S.AnswerSink.HasLogs first) (g.S.AnswerSink.FailsInLogs first) g.S.AnswerSink.IsWritten c.take_piece.new.answer c.take_piece.new.log c.take_piece.new.sink s (g.R.Read.remaining (inner_of c.args.input.now)) (g.R.Read.remaining (inner_of c.loop-answer.input)) (g.R.Read.remaining (inner_of c.pull_uninterrupted.new.self)) (length c.pull_uninterrupted.new.buf) (has_failed c.pull_uninterrupted.new.self) r.read (take c.in-Ok.taken c.pull_uninterrupted.new.buf) r.consumed c.in-Ok.ensures.bytes.0 _ (c.in-Ok-take_piece.ensures.takes sum k q (subst (λ (x : _). IsChecksumFunction g.G.Fn x q.sum) (sym c.loop-answer.invariant.answer) kq) source first (s ++ r.read) r.up.following r.up.written));
}
