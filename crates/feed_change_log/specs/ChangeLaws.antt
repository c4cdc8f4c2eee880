-- The statements of the crate's laws.
use Rattle.std.specs.Prelude.{ℕ, true, false, List, []}
use Rattle.feed_transactions.specs.Changes.{Committed}
use Rattle.feed_transactions.specs.Checks.{fault_of}
use Rattle.feed_checks.specs.LogFormat.{has_magic_number}
use Rattle.feed_transactions.specs.Logs.{file_events}
use Rattle.feed_change_log.specs.CommittedLists.{committed_after}

-- the transactions that a file commits up to its first fault, under a checksum function; none without the magic number
unfoldable pub file_committed : (List ℕ → ℕ) → List ℕ → List Committed
file_committed f b = elim (has_magic_number b) [ true ↦ committed_after (fault_of f) [] (file_events b) | false ↦ [] ]
