use Rattle.std.proofs.Common.{◌≡◌, ◌∙◌, ◌++◌, [], List, ℕ, Some, refl, subst, sym, ap}
use Rattle.feed_transactions.specs.Checks.{fault_of}
use Rattle.feed_transactions.specs.Recorders.{Stays}
use Rattle.feed_change_log.specs.PushedLogs.{left_in, recorder_in, source_of}
use Rattle.changes_walks.specs.Selections.{Selected}
use Rattle.changes_walks.specs.FollowedAnswers.{in_log}
use Rattle.changes_walks.specs.FollowedEnds.{PushesEvent}
use Rattle.changes_walks.proofs.PushLemmas.{ends_event, ends_unpushed, fails_event, passes_event, passes_heartbeat, wants_pushed}
use Rattle.changes_walks.proofs.following.push_event.Goals as goal

pub returns-then-is_heartbeat : goal.returns-then-is_heartbeat
unfolding PushesEvent
returns-then-is_heartbeat g c = record {
  pushes = λ sum k past first l acks ready has.
      passes_heartbeat g.C.Recorder.IsOpen (fault_of sum) c.args.filter g.E.Events.MayGive (g.S.AnswerSink.HasLogs first) c.args.name.now c.args.event.now l acks past g.C.Recorder.IsLike g.S.TransactionSink.Expects c.args.log.now c.args.sink.now (sym c.is_heartbeat.ensures ∙ c.if-is_heartbeat.true) ready has;
}

pub returns-in_default : goal.returns-in_default
unfolding PushesEvent
returns-in_default g c = record { pushes = λ sum k past first l acks ready has. (c.enter.ensures.has first l acks has, refl) }

pub returns-in_default-push : goal.returns-in_default-push
unfolding PushesEvent
returns-in_default-push g c = record {
  pushes = λ sum k past first l acks ready has.
      let b = g.met.E.Events.some (source_of c.args.log.now) (Some c.args.event.now) in
      ends_unpushed g.C.Recorder.IsOpen (fault_of sum) c.args.filter g.E.Events.MayGive (g.S.AnswerSink.HasLogs first) c.args.name.now c.args.event.now l acks past (source_of c.args.log.now) _ (sym c.is_heartbeat.ensures ∙ c.if-is_heartbeat.false) b.0 b.1 (c.enter.ensures.has first l acks has);
}

pub returns-in-Waits : goal.returns-in-Waits
unfolding PushesEvent
returns-in-Waits g c = record {
  pushes = λ sum k past first l acks ready has.
      let wants = wants_pushed g.C.Recorder.IsLike g.S.TransactionSink.Expects c.args.filter c.args.log.now c.push.new.self c.args.sink.now c.enter.new.self c.push.ensures.recorder c.enter.ensures.wants ready.wants in
      let all = g.met.S.AnswerSink.none c.enter.new.self in
      let p = rw c.in-Waits.is at (c.walk_pushed.ensures.ends sum k past c.enter.new.self [] wants (c.in-Ok-push.ensures.after past ready.after) all) in
      let read : left_in c.walk_pushed.new.log ≡ [] = rw c.in-Waits.is at c.walk_pushed.ensures.read in
      let like : Stays g.C.Recorder.IsLike (recorder_in c.push.new.self) (recorder_in c.walk_pushed.new.log) = rw c.in-Waits.is at c.walk_pushed.ensures.like in
      passes_event g.C.Recorder.IsOpen (fault_of sum) c.args.filter g.E.Events.MayGive (g.S.AnswerSink.HasLogs first) c.args.name.now c.args.event.now l acks past (g.S.TransactionSink.HasAll c.enter.new.self) (source_of c.args.log.now) c.push.new.self c.walk_pushed.new.log c.walk_pushed.new.sink c.walk_pushed.result.last
      (sym c.is_heartbeat.ensures ∙ c.if-is_heartbeat.false) c.push.ensures.source (c.in-Ok-push.ensures.ok ∙ ap (λ (x : List ℕ). x ++ c.args.event.now) ready.read) g.C.Recorder.IsLike g.S.TransactionSink.Expects
      (λ m has_all. subst (λ (n : List ℕ). g.S.AnswerSink.HasLogs first c.walk_pushed.new.sink (l ++ in_log n m) acks) c.in-Ok.ensures.ok (g.met.S.AnswerSink.adds first c.enter.new.self c.walk_pushed.new.sink l acks m (c.enter.ensures.has first l acks has) has_all))
      (λ m has_all newest stays. g.met.S.AnswerSink.wants c.enter.new.self c.walk_pushed.new.sink m c.args.filter newest has_all (wants newest (λ made is_like. stays made (like made is_like))))
      read p;
}

pub returns-in-Ended : goal.returns-in-Ended
unfolding PushesEvent
returns-in-Ended g c = record {
  pushes = λ sum k past first l acks ready has.
      let wants = wants_pushed g.C.Recorder.IsLike g.S.TransactionSink.Expects c.args.filter c.args.log.now c.push.new.self c.args.sink.now c.enter.new.self c.push.ensures.recorder c.enter.ensures.wants ready.wants in
      let all = g.met.S.AnswerSink.none c.enter.new.self in
      let p = rw c.in-Ended.is at (c.walk_pushed.ensures.ends sum k past c.enter.new.self [] wants (c.in-Ok-push.ensures.after past ready.after) all) in
      ends_event g.C.Recorder.IsOpen (fault_of sum) c.args.filter g.E.Events.MayGive (g.S.AnswerSink.HasLogs first) c.args.name.now c.args.event.now l acks past (g.S.TransactionSink.HasAll c.enter.new.self) (source_of c.args.log.now) c.push.new.self c.walk_pushed.new.log c.walk_pushed.new.sink c.walk_pushed.result.last
      (sym c.is_heartbeat.ensures ∙ c.if-is_heartbeat.false) c.push.ensures.source (c.in-Ok-push.ensures.ok ∙ ap (λ (x : List ℕ). x ++ c.args.event.now) ready.read)
      (λ m has_all. subst (λ (n : List ℕ). g.S.AnswerSink.HasLogs first c.walk_pushed.new.sink (l ++ in_log n m) acks) c.in-Ok.ensures.ok (g.met.S.AnswerSink.adds first c.enter.new.self c.walk_pushed.new.sink l acks m (c.enter.ensures.has first l acks has) has_all))
      c.in-Ended.field-0 p;
}

pub returns-in-Failed : goal.returns-in-Failed
unfolding PushesEvent
returns-in-Failed g c = record {
  pushes = λ sum k past first l acks ready has.
      let wants = wants_pushed g.C.Recorder.IsLike g.S.TransactionSink.Expects c.args.filter c.args.log.now c.push.new.self c.args.sink.now c.enter.new.self c.push.ensures.recorder c.enter.ensures.wants ready.wants in
      let all = g.met.S.AnswerSink.none c.enter.new.self in
      let p = rw c.in-Failed.is at (c.walk_pushed.ensures.ends sum k past c.enter.new.self [] wants (c.in-Ok-push.ensures.after past ready.after) all) in
      fails_event g.C.Recorder.IsOpen (fault_of sum) c.args.filter g.E.Events.MayGive (g.S.AnswerSink.HasLogs first) c.args.name.now c.args.event.now l acks past (g.S.TransactionSink.HasAll c.enter.new.self) (source_of c.args.log.now) c.push.new.self c.walk_pushed.new.log c.walk_pushed.new.sink c.walk_pushed.result.last
      (sym c.is_heartbeat.ensures ∙ c.if-is_heartbeat.false) c.push.ensures.source (c.in-Ok-push.ensures.ok ∙ ap (λ (x : List ℕ). x ++ c.args.event.now) ready.read) (g.S.TransactionSink.HasFailed c.enter.new.self) (g.S.AnswerSink.FailsInLogs first) c.in-Failed.failure
      (λ m has_failed. subst (λ (n : List ℕ). g.S.AnswerSink.FailsInLogs first c.walk_pushed.new.sink (l ++ in_log n m) acks c.in-Failed.failure) c.in-Ok.ensures.ok (g.met.S.AnswerSink.fails first c.enter.new.self c.walk_pushed.new.sink l acks m c.in-Failed.failure (c.enter.ensures.has first l acks has) has_failed))
      p;
}
