use Rattle.std.proofs.Common.{◌≡◌, ◌<◌, ◌-◌, ◌^◌, ℕ, List, length}
use Rattle.wire_buf.specs.Watched.{inner_of, reads_of}
use Rattle.feed_checks.specs.Sums.{IsChecksumFunction}
use Rattle.feed_transactions.specs.Checks.{fault_of}
use Rattle.feed_replication.specs.AnswerEvents.{checksum_of}
use Rattle.changes_walks.specs.FollowedAnswers.{Asked, IsFollowing}
use Rattle.changes_walks.specs.FollowedEnds.{IsReadUpTo}
use Rattle.changes_walks.proofs.following.follow_answer.Given as goal

-- what was read so far was taken
abbrev pub invariant-loop-answer : goal.invariant-loop-answer
invariant-loop-answer g l = record {
  answer : checksum_of l.answer ≡ checksum_of l.fn.answer;
  on : (sum : List ℕ → ℕ) → IsChecksumFunction g.F.Fn l.fn.checksum sum → (q : Asked) → IsChecksumFunction g.G.Fn (checksum_of l.fn.answer) q.sum → (source : g.row.E.Denot) (first : g.row.S.Denot) (s : List ℕ)
      → IsFollowing g.C.Recorder.IsOpen g.C.Recorder.IsLike g.S.TransactionSink.Expects q (fault_of sum) l.fn.filter g.E.Events.MayGive source (g.S.AnswerSink.HasLogs first) l.fn.answer l.fn.log l.fn.sink s → g.S.AnswerSink.IsWritten l.fn.sink
      → IsReadUpTo g.C.Recorder.IsOpen g.C.Recorder.IsLike g.S.TransactionSink.Expects q (fault_of sum) l.fn.filter g.E.Events.MayGive source (g.S.AnswerSink.HasLogs first) g.S.AnswerSink.IsWritten l.answer l.log l.sink s (g.R.Read.remaining (inner_of l.fn.input)) (g.R.Read.remaining (inner_of l.input));
}

abbrev pub decreases-loop-answer : goal.decreases-loop-answer
decreases-loop-answer g l = 2 ^ 63 - 1 - reads_of l.input
