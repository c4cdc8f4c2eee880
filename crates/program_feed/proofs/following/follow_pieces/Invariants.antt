use Rattle.std.proofs.Common.{◌≡◌, ◌-◌, ◌^◌, ℕ, List, false, None}
use Rattle.wire_buf.specs.Watched.{inner_of, reads_of}
use Rattle.feed_checks.specs.Sums.{IsChecksumFunction}
use Rattle.feed_transactions.specs.Rules.{rules}
use Rattle.feed_replication.specs.Following.{checksum_of, format_of, limit_of, verdict_in}
use Rattle.feed_replication.specs.Streams.{program_limit}
use Rattle.feed_replication.specs.declared.format.PayloadFormat.TheVariants.{Plain}
use Rattle.program_feed.specs.Outputs.{writer_of, has_flush_failed}
use Rattle.program_feed.proofs.FollowedLemmas.{HasFollowed}
use Rattle.program_feed.proofs.following.follow_pieces.Given as goal

-- the follower took the bytes that were read so far, and goes on
abbrev pub invariant-loop-follower : goal.invariant-loop-follower
invariant-loop-follower g l = record {
  followed : (sum : List ℕ → ℕ) → IsChecksumFunction g.F.Fn (checksum_of l.fn.follower) sum → HasFollowed (rules sum) l.follower
      (g.R.Read.remaining (inner_of l.fn.reader)) (g.R.Read.remaining (inner_of l.reader)) (g.W.Write.contents l.fn.writer) (g.W.Write.contents (writer_of l.flushed));
  checksum : checksum_of l.follower ≡ checksum_of l.fn.follower;
  format : format_of l.follower ≡ Plain;
  limit : limit_of l.follower ≡ program_limit;
  goes_on : verdict_in l.follower ≡ None;
  flushed : has_flush_failed l.flushed ≡ false;
}

abbrev pub decreases-loop-follower : goal.decreases-loop-follower
decreases-loop-follower g l = 2 ^ 63 - 1 - reads_of l.reader
