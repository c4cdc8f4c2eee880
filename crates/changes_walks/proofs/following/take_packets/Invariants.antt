use Rattle.std.proofs.Common.{◌≡◌, ℕ, List}
use Rattle.feed_checks.specs.Sums.{IsChecksumFunction}
use Rattle.feed_transactions.specs.Checks.{fault_of}
use Rattle.feed_replication.specs.AnswerEvents.{checksum_of}
use Rattle.changes_walks.specs.FollowedAnswers.{Asked, IsFollowing}
use Rattle.changes_walks.proofs.following.take_packets.Given as goal

-- the events so far were taken
abbrev pub invariant-loop : goal.invariant-loop
invariant-loop g l = record {
  answer : checksum_of l.answer ≡ checksum_of l.fn.answer;
  on : (sum : List ℕ → ℕ) → IsChecksumFunction g.F.Fn l.fn.checksum sum → (q : Asked) → IsChecksumFunction g.G.Fn (checksum_of l.fn.answer) q.sum → (source : g.row.E.Denot) (first : g.row.S.Denot) (s : List ℕ)
      → IsFollowing g.C.Recorder.IsOpen g.C.Recorder.IsLike g.S.TransactionSink.Expects q (fault_of sum) l.fn.filter g.E.Events.MayGive source (g.S.AnswerSink.HasLogs first) l.fn.answer l.fn.log l.fn.sink s
      → IsFollowing g.C.Recorder.IsOpen g.C.Recorder.IsLike g.S.TransactionSink.Expects q (fault_of sum) l.fn.filter g.E.Events.MayGive source (g.S.AnswerSink.HasLogs first) l.answer l.log l.sink s;
}
