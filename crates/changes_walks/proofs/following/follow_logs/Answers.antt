use Rattle.std.proofs.Common.{[], subst, sym}
use Rattle.feed_change_log.specs.PushedLogs.{source_of}
use Rattle.feed_transactions.specs.Checks.{fault_of}
use Rattle.changes_walks.specs.LogSources.{GivesInLog}
use Rattle.changes_walks.specs.LogWalks.{ExpectsLike}
use Rattle.changes_walks.proofs.FollowLemmas.{begins_following}
use Rattle.changes_walks.proofs.following.follow_logs.Goals as goal

pub returns : goal.returns
returns g c = record {
  follows = λ sum k q j begins expects first has written. record {
    source = source_of c.in-Ok.log;
    begins = c.in-Ok.ensures.source;
    log = c.follow_answer-end.new.log;
    follows = c.follow_answer-end.ensures.follows sum k q j (source_of c.in-Ok.log) first []
        (begins_following g.C.Recorder.IsOpen g.C.Recorder.IsLike g.S.TransactionSink.Expects q (fault_of sum) c.args.filter GivesInLog (g.S.AnswerSink.HasLogs first) c.args.answer.now c.in-Ok.log c.args.sink.now begins.asked begins.events begins.none_is_due
        (record {
          after = c.in-Ok.ensures.after;
          read = c.in-Ok.ensures.nothing;
          wants = subst (λ (x : _). ExpectsLike g.C.Recorder.IsLike (g.S.TransactionSink.Expects c.args.sink.now c.args.filter) x) (sym c.in-Ok.ensures.recorder) expects;
        }) has) written;
  };
}
