use Rattle.std.proofs.Common.{◌≡◌, ◌∙◌, refl, subst, sym}
use Rattle.feed_checks.specs.Sums.{IsChecksumFunction}
use Rattle.feed_transactions.specs.Checks.{fault_of}
use Rattle.changes_walks.specs.FollowedAnswers.{events_of, payloads_of}
use Rattle.changes_walks.proofs.FollowLemmas.{ends_all, ends_answer, ends_packets, following_of, lacks_memory, newest_of, taken_all}
use Rattle.changes_walks.proofs.following.take_packets.Goals as goal

pub loop-init : goal.loop-init
loop-init g c = record { answer = refl; on = λ sum k q kq source first s began. began }

pub returns-in-Ok-false-clause-takes : goal.returns-in-Ok-false-clause-takes
returns-in-Ok-false-clause-takes g c = λ sum k q kq source first s began.
    let h = c.loop.invariant.on sum k q kq source first s began in
    taken_all g.C.Recorder.IsOpen g.C.Recorder.IsLike g.S.TransactionSink.Expects q (fault_of sum) c.args.filter g.E.Events.MayGive source (g.S.AnswerSink.HasLogs first) c.loop.answer c.next_event.new.self c.loop.log c.loop.sink s h c.next_event.ensures.settings (g.S.AnswerSink.FailsInLogs first) c.in-Ok-false.field-0 c.in-Ok-false.field-0-test (c.in-Ok-false.ensures.next q.sum (subst (λ (x : _). IsChecksumFunction g.G.Fn x q.sum) (sym c.loop.invariant.answer) kq) q.first s (payloads_of h.xs) (events_of q h.xs) h.events) _

pub returns-in-Err-End-clause-takes : goal.returns-in-Err-End-clause-takes
returns-in-Err-End-clause-takes g c = λ sum k q kq source first s began.
    let h = c.loop.invariant.on sum k q kq source first s began in
    ends_answer g.C.Recorder.IsOpen g.C.Recorder.IsLike g.S.TransactionSink.Expects q (fault_of sum) c.args.filter g.E.Events.MayGive source (g.S.AnswerSink.HasLogs first) c.loop.answer c.next_event.new.self c.loop.log c.loop.sink s h c.next_event.ensures.settings (g.S.AnswerSink.FailsInLogs first) c.in-Err-End.field-0 c.in-Err-End.field-0-is (c.in-Err-End.ensures.next q.sum (subst (λ (x : _). IsChecksumFunction g.G.Fn x q.sum) (sym c.loop.invariant.answer) kq) q.first s (payloads_of h.xs) (events_of q h.xs) h.events)

pub returns-in-Err : goal.returns-in-Err
returns-in-Err g c = record {
  takes = λ sum k q kq source first s began. (
      let h = c.loop.invariant.on sum k q kq source first s began in
      ends_packets g.C.Recorder.IsOpen g.C.Recorder.IsLike g.S.TransactionSink.Expects q (fault_of sum) c.args.filter g.E.Events.MayGive source (g.S.AnswerSink.HasLogs first) c.loop.answer c.next_event.new.self c.loop.log c.loop.sink s h c.next_event.ensures.settings (g.S.AnswerSink.FailsInLogs first) c.in-Err.verdict (c.in-Err.ensures.next q.sum (subst (λ (x : _). IsChecksumFunction g.G.Fn x q.sum) (sym c.loop.invariant.answer) kq) q.first s (payloads_of h.xs) (events_of q h.xs) h.events));
  checksum = c.next_event.ensures.settings.checksum ∙ c.loop.invariant.answer;
}

pub returns-in-Err-take_event-clause-takes : goal.returns-in-Err-take_event-clause-takes
returns-in-Err-take_event-clause-takes g c = λ sum k q kq source first s began.
    let h = c.loop.invariant.on sum k q kq source first s began in
    ends_all g.C.Recorder.IsOpen g.C.Recorder.IsLike g.S.TransactionSink.Expects q (fault_of sum) c.args.filter g.E.Events.MayGive source (g.S.AnswerSink.HasLogs first) (g.S.AnswerSink.FailsInLogs first) c.take_event.new.answer c.take_event.new.log c.take_event.new.sink s c.in-Err-take_event.end
    (c.in-Err-take_event.ensures.takes sum k q source first s (newest_of g.C.Recorder.IsOpen g.C.Recorder.IsLike g.S.TransactionSink.Expects q (fault_of sum) c.args.filter g.E.Events.MayGive source (g.S.AnswerSink.HasLogs first) c.loop.answer c.next_event.new.self c.loop.log c.loop.sink s h c.next_event.ensures.settings c.in-Ok-true.field-0 c.in-Ok-true.field-0-test (c.in-Ok-true.ensures.next q.sum (subst (λ (x : _). IsChecksumFunction g.G.Fn x q.sum) (sym c.loop.invariant.answer) kq) q.first s (payloads_of h.xs) (events_of q h.xs) h.events)))

pub loop-preserved : goal.loop-preserved
loop-preserved g c = record {
  answer = c.take_event.ensures.checksum ∙ c.next_event.ensures.settings.checksum ∙ c.loop.invariant.answer;
  on = λ sum k q kq source first s began. (
      let h = c.loop.invariant.on sum k q kq source first s began in
      following_of g.C.Recorder.IsOpen g.C.Recorder.IsLike g.S.TransactionSink.Expects q (fault_of sum) c.args.filter g.E.Events.MayGive source (g.S.AnswerSink.HasLogs first) (g.S.AnswerSink.FailsInLogs first) c.take_event.new.answer c.take_event.new.log c.take_event.new.sink s _
      (c.in-Ok.ensures.takes sum k q source first s (newest_of g.C.Recorder.IsOpen g.C.Recorder.IsLike g.S.TransactionSink.Expects q (fault_of sum) c.args.filter g.E.Events.MayGive source (g.S.AnswerSink.HasLogs first) c.loop.answer c.next_event.new.self c.loop.log c.loop.sink s h c.next_event.ensures.settings c.in-Ok-true.field-0 c.in-Ok-true.field-0-test (c.in-Ok-true.ensures.next q.sum (subst (λ (x : _). IsChecksumFunction g.G.Fn x q.sum) (sym c.loop.invariant.answer) kq) q.first s (payloads_of h.xs) (events_of q h.xs) h.events))));
}

pub returns-clause-takes : goal.returns-clause-takes
returns-clause-takes g c = λ sum k q kq source first s began. lacks_memory g.C.Recorder.IsOpen g.C.Recorder.IsLike g.S.TransactionSink.Expects q (fault_of sum) c.args.filter g.E.Events.MayGive source (g.S.AnswerSink.HasLogs first) (g.S.AnswerSink.FailsInLogs first) c.loop.answer c.loop.log c.loop.sink s (c.loop.invariant.on sum k q kq source first s began)
