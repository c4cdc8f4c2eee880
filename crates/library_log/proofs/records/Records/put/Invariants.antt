use Rattle.std.proofs.Common.{◌≤◌, ◌+◌, vec_len}
use Rattle.std.specs.List.{filter}
use Rattle.feed_transactions.specs.Changes.{Committed}
use Rattle.feed_change_log.specs.Filters.{takes_change}
use Rattle.library_log.specs.RecordedTransactions.{IsDoneRecord}
use Rattle.library_log.proofs.MakingLemmas.{IsMaking}
use Rattle.library_log.proofs.records.Records.put.Given as goal

-- the changes so far were appended
abbrev pub invariant-loop-change : goal.invariant-loop-change
invariant-loop-change l = record {
  made : (t : Committed) → IsDoneRecord l.newest t → IsMaking (filter (takes_change l.fn.filter) t.changes) l.initial.out.items l.out.items l.change-iterator l.changes l.rows;
  room : 64 + (l.changes + l.rows) ≤ vec_len l.out;
}
