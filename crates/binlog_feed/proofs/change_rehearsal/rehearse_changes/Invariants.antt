use Rattle.std.proofs.Common.{◌≡◌, List, ℕ, drop}
use Rattle.feed_checks.specs.Sums.{IsChecksumFunction}
use Rattle.binlog_feed.specs.ChangeFollowing.{checksum_of}
use Rattle.binlog_feed.proofs.ApplyLemmas.{IsUnderway}
use Rattle.binlog_feed.proofs.change_rehearsal.rehearse_changes.Given as goal

abbrev pub invariant-loop-step : goal.invariant-loop-step
invariant-loop-step g l = record {
  callable : goal.F-IsAlwaysCallable g l.checksum;
  keeps : (checksum_of l.follower).now ≡ l.checksum;
  underway : (sum : List ℕ → ℕ) → IsChecksumFunction g.F.Fn l.checksum sum
      → IsUnderway g.A.Applier.has_applied sum l.format l.binlog l.steps (drop l.step-index l.steps) l.follower l.fn.applier l.applier l.verdict;
}
