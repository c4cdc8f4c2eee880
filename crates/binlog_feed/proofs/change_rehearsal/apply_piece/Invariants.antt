use Rattle.std.proofs.Common.{◌≡◌, ℕ, List, [], None, length}
use Rattle.feed_checks.specs.Sums.{IsChecksumFunction}
use Rattle.binlog_feed.specs.ChangeFollowing.{asked_position_of, checksum_of, received_of, reading_of, IsAt, KeepsSettings}
use Rattle.binlog_feed.proofs.ApplyLemmas.{Handed}
use Rattle.binlog_feed.proofs.change_rehearsal.apply_piece.Given as goal

-- what was passed and what is lent was applied
abbrev pub invariant-loop-found : goal.invariant-loop-found
invariant-loop-found g l = record {
  handed : (sum : List ℕ → ℕ) → IsChecksumFunction g.F.Fn (checksum_of l.fn.follower) sum → IsAt (reading_of sum l.fn.follower) l.fn.follower [] [] None [] → Handed g.A.Applier.has_applied (reading_of sum l.fn.follower) l.follower l.piece l.fn.applier l.applier;
  asked_position : asked_position_of l.follower ≡ asked_position_of l.fn.follower;
  settings : KeepsSettings l.fn.follower l.follower;
}

abbrev pub decreases-loop-found : goal.decreases-loop-found
decreases-loop-found g l = length (received_of l.follower)
