use Rattle.feed_transactions.specs.Checks.{fault_of}
use Rattle.changes_walks.specs.FollowedAnswers.{followed}
use Rattle.changes_walks.proofs.FollowLemmas.{ends_taking, lacks_ack, takes_event}
use Rattle.changes_walks.proofs.following.take_event.Goals as goal

pub returns-in-Err-clause-takes : goal.returns-in-Err-clause-takes
returns-in-Err-clause-takes g c = λ sum k q source first s h.
    ends_taking g.C.Recorder.IsOpen g.C.Recorder.IsLike g.S.TransactionSink.Expects q (fault_of sum) c.args.filter g.E.Events.MayGive source (g.S.AnswerSink.HasLogs first) c.args.answer.now c.args.log.now c.args.sink.now s h c.name.result.now c.event-event.result.now c.name.ensures c.event-event.ensures c.push_event.new.log c.push_event.new.sink (g.S.AnswerSink.FailsInLogs first) c.in-Err.end
    (c.in-Err.ensures.pushes sum k h.past first (followed q c.args.filter h.xs) h.followed.acks h.ready h.followed.has)

pub returns-in-Ok-acknowledge-clause-takes : goal.returns-in-Ok-acknowledge-clause-takes
returns-in-Ok-acknowledge-clause-takes g c = λ sum k q source first s h.
    takes_event g.C.Recorder.IsOpen g.C.Recorder.IsLike g.S.TransactionSink.Expects q (fault_of sum) c.args.filter g.E.Events.MayGive source (g.S.AnswerSink.HasLogs first) c.args.answer.now c.args.log.now c.args.sink.now s h c.name.result.now c.event-event.result.now c.name.ensures c.event-event.ensures c.push_event.new.log c.pass.new.self (g.S.AnswerSink.FailsInLogs first) c.push_event.new.sink _
    (c.in-Ok.ensures.pushes sum k h.past first (followed q c.args.filter h.xs) h.followed.acks h.ready h.followed.has)
    c.acknowledge.new.self c.acknowledge.ensures.kept c.in-Ok-acknowledge.ensures.ok
    (λ l a has. c.pass.ensures.has first l a has) (λ r wanted. c.pass.ensures.wants c.args.filter r wanted) _

pub returns-in-Err-acknowledge-clause-takes : goal.returns-in-Err-acknowledge-clause-takes
returns-in-Err-acknowledge-clause-takes g c = λ sum k q source first s h.
    lacks_ack g.C.Recorder.IsOpen g.C.Recorder.IsLike g.S.TransactionSink.Expects q (fault_of sum) c.args.filter g.E.Events.MayGive source (g.S.AnswerSink.HasLogs first) c.args.answer.now c.args.log.now c.args.sink.now s h c.name.result.now c.event-event.result.now c.name.ensures c.event-event.ensures c.push_event.new.log c.pass.new.self (g.S.AnswerSink.FailsInLogs first) c.push_event.new.sink _
    (c.in-Ok.ensures.pushes sum k h.past first (followed q c.args.filter h.xs) h.followed.acks h.ready h.followed.has)
    c.acknowledge.new.self c.in-Err-acknowledge.ensures.err (λ l a has. c.pass.ensures.has first l a has)
