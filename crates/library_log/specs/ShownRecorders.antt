-- What a recorder has that keeps transactions in the form in which they are shown: as JSON lines, or for a binary record.
use Rattle.std.specs.Prelude.{◌≡◌, List, Option}
use Rattle.feed_checks.specs.Kinds.{Gtid}
use Rattle.feed_transactions.specs.Changes.{EventChange, Committed}
use Rattle.feed_change_log.specs.Filters.{table_filter_of}
use Rattle.feed_change_log.specs.declared.filter.Filter.{Filter}
use Rattle.changes_lines.specs.RecordedLines.{IsOpenJson, IsDoneJson, IsLikeJson, filter_of}
use Rattle.library_log.specs.RecordedTransactions.{IsOpenRecord, IsDoneRecord}
use Rattle.library_log.specs.declared.shown_recorder.ShownRecorder.{ShownRecorder}
use Rattle.library_log.specs.declared.shown_recorder.ShownRecorder.TheVariants.{Lines, Record}

-- it has the open transaction so far
abbrev pub IsOpenShown : ShownRecorder → Option Gtid → List EventChange → Type 0
IsOpenShown (Lines s) g l = IsOpenJson s g l
IsOpenShown (Record s) g l = IsOpenRecord s g l

-- it has a committed transaction
abbrev pub IsDoneShown : ShownRecorder → Committed → Type 0
IsDoneShown (Lines s) t = IsDoneJson s t
IsDoneShown (Record s) t = IsDoneRecord s t

-- it is as it was made, in what no call changes
abbrev pub IsLikeShown : ShownRecorder → ShownRecorder → Type 0
IsLikeShown (Lines made) (Lines s) = IsLikeJson made s
IsLikeShown (Record made) (Record s) = Unit {0}
IsLikeShown _ _ = ⊥

-- it keeps the changes that a filter takes; all of them for a record, of which it takes them when the record is made
abbrev pub IsFilteredBy : Filter → ShownRecorder → Type 0
IsFilteredBy f (Lines s) = filter_of s ≡ table_filter_of f
IsFilteredBy f (Record s) = Unit {0}
