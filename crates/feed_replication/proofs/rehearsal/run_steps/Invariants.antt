use Rattle.std.proofs.Common.{◌≡◌, false, List, [], ℕ, drop}
use Rattle.wire_buf.specs.Watched.{inner_of}
use Rattle.feed_transactions.specs.Rules.{rules}
use Rattle.feed_checks.specs.Sums.{IsChecksumFunction}
use Rattle.feed_replication.specs.Following.{checksum_of, due_of}
use Rattle.feed_replication.specs.Runs.{is_fault_verdict}
use Rattle.feed_replication.proofs.RehearsalLemmas.{IsUnderway}
use Rattle.feed_replication.proofs.rehearsal.run_steps.Given as goal

abbrev pub invariant-loop-step : goal.invariant-loop-step
invariant-loop-step g l = record {
  callable : goal.F-IsAlwaysCallable g l.checksum;
  keeps : (checksum_of l.follower).now ≡ l.checksum;
  none_waits : due_of l.follower ≡ [];
  goes_on : is_fault_verdict l.verdict ≡ false;
  underway : (sum : List ℕ → ℕ) → IsChecksumFunction g.F.Fn l.checksum sum
      → IsUnderway (rules sum) l.format l.name l.binlog l.steps (drop l.step-index l.steps) l.follower (g.W.Write.contents (inner_of l.initial.writer)) (g.W.Write.contents (inner_of l.writer)) l.verdict l.initial.acks.items l.acks.items;
}
