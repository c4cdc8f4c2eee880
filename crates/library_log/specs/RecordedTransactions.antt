-- What a recorder for binary records has: the changes of a transaction, and the position at which it begins (docs/library/RECORDS.md).
use Rattle.std.specs.Prelude.{◌==◌, ◌+◌, ◌-◌, ◌%◌, ◌^◌, ℕ, Bool, true, false, List, [], ◌∷◌, Option}
use Rattle.std.specs.List.{filter, list_any}
use Rattle.rows_constants.specs.EventTypes.{event_type_number}
use Rattle.rows_constants.specs.declared.event_type.EventType.TheVariants.{GTID_EVENT, ANONYMOUS_GTID_EVENT, GTID_TAGGED_LOG_EVENT}
use Rattle.events_frames.specs.Events.{header_size_field}
use Rattle.feed_checks.specs.EventFields.{Event, type_of, log_pos_of}
use Rattle.feed_checks.specs.Kinds.{Gtid}
use Rattle.feed_transactions.specs.Changes.{EventChange, Committed}
use Rattle.feed_change_log.specs.Filters.{takes_change}
use Rattle.feed_change_log.specs.KeptChanges.{IsOpenChanges, IsDoneChanges}
use Rattle.feed_change_log.specs.declared.filter.Filter.{Filter}
use Rattle.library_log.specs.declared.recorder.RecordRecorder.{RecordRecorder}

-- it has the open transaction with this GTID, and its changes
abbrev pub IsOpenRecord : RecordRecorder → Option Gtid → List EventChange → Type 0
IsOpenRecord s g l = IsOpenChanges s.changes g l

-- it has this committed transaction
abbrev pub IsDoneRecord : RecordRecorder → Committed → Type 0
IsDoneRecord s t = IsDoneChanges s.changes t

-- the position at which an event begins, in 32 bits, and whether it has a GTID
abbrev pub start_of : Event → ℕ
start_of e = (log_pos_of e + (2 ^ 32 - header_size_field e)) % 2 ^ 32

abbrev pub has_gtid : Event → Bool
has_gtid e = list_any (λ t. type_of e == event_type_number t) (GTID_EVENT ∷ ANONYMOUS_GTID_EVENT ∷ GTID_TAGGED_LOG_EVENT ∷ [])

-- the position at which the transaction begins
abbrev pub begin_in : RecordRecorder → ℕ
begin_in s = s.begin

-- whether there is a change
abbrev pub has_some : List EventChange → Bool
has_some [] = false
has_some (x ∷ xs) = true

-- whether a filter takes a change of a transaction
abbrev pub takes_some : Filter → Committed → Bool
takes_some f t = has_some (filter (takes_change f) t.changes)
