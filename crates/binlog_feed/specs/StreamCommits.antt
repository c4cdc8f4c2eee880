-- The transactions that a stream of packets commits (MySQL Internals: Binlog Network Stream), and the position after the last of them.
use Rattle.std.specs.Prelude.{ℕ, List, [], ◌∷◌, ◌++◌, None, unwrap_or}
use Rattle.feed_checks.specs.EventFields.{Event}
use Rattle.feed_transactions.specs.Changes.{Committed, committed_by}
use Rattle.feed_transactions.specs.Checks.{fault_of}
use Rattle.feed_replication.specs.declared.format.PayloadFormat.{PayloadFormat as Format}
use Rattle.feed_replication.specs.Streams.{stream_events}
use Rattle.feed_change_log.specs.CommittedLists.{committed_after}
use Rattle.feed_change_log.specs.Stops.{last_log_pos}

-- the transactions that a stream commits up to its first fault, under a checksum function, in order
unfoldable pub stream_committed : (List ℕ → ℕ) → Format → ℕ → List ℕ → List Committed
stream_committed f format limit s = committed_after (fault_of f) [] (stream_events format limit s)

-- the transactions that these events commit, in order; the list of events begins with the newest
abbrev pub committed_in : List Event → List Committed
committed_in [] = []
committed_in (e ∷ past) = committed_in past ++ committed_by past e

-- the position after the last of these transactions, or q if there are none
abbrev pub position_after_last : List Committed → ℕ → ℕ
position_after_last ts q = unwrap_or (last_log_pos ts None) q
