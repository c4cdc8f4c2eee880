-- The transactions of a report are complete.
use Rattle.std.proofs.Common.{ℕ, Bool, true, false, List, []}
use Rattle.feed_transactions.specs.ReportLaws.{Each, IsCompleteAtEvent}
use Rattle.feed_transactions.specs.Rules.{good, rules, shown}
use Rattle.binlog_feed.proofs.WholeLemmas.{all-whole}
use Rattle.feed_checks.specs.LogFormat.{has_magic_number}
use Rattle.feed_transactions.specs.Reports.{file_events, file_transactions}

-- a file without its magic number shows nothing
shown_if : (f : List ℕ → ℕ) (b : List ℕ) (is : Bool) → Each (IsCompleteAtEvent (good (rules f) (file_events b))) (elim is [ true ↦ shown (rules f) (file_events b) | false ↦ [] ])
shown_if f b true = all-whole f [] (file_events b)
shown_if f b false = tt

pub whole_reports : (f : List ℕ → ℕ) (b : List ℕ) → Each (IsCompleteAtEvent (good (rules f) (file_events b))) (file_transactions (rules f) b)
unfolding file_transactions
whole_reports f b = shown_if f b (has_magic_number b)
