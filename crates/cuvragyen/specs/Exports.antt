-- What the calls of library/cuvragyen.h do with the log of a handle: the clauses of the library once more.
use Rattle.std.specs.Prelude.{◌≡◌, ⊤, ℕ, Bool, true, false, List, [], length, Option, Some, None, Result, Ok, Err, IfOk, IfErr, IfSome, IfNone, OnOk, OnErr, IsSome, is_some, unwrap_or, if◌then◌else◌}
use Rattle.c_handles.specs.declared.view.View.{View}
use Rattle.events_frames.specs.Headers.{event_header_of}
use Rattle.feed_checks.specs.EventFields.{Event}
use Rattle.feed_checks.specs.declared.verdict.Verdict.{Verdict}
use Rattle.feed_checks.specs.declared.verdict.Verdict.TheVariants.{End, Memory}
use Rattle.feed_transactions.specs.Changes.{Committed}
use Rattle.feed_transactions.specs.Recorders.{Stays}
use Rattle.feed_change_log.specs.declared.stop.Stop.{Stop}
use Rattle.feed_change_log.specs.PushedLogs.{left_in, recorder_in, source_of, verdict_in}
use Rattle.table_schemas.specs.CompletedMaps.{Tables}
use Rattle.library_log.specs.LibrarySources.{Begins, tables_in, unread_in}
use Rattle.library_log.specs.ReadLogs.{log_in, fault_in, filter_in, has_newest, shown_in, lines_in, file_in, finds, early_end, ended_by, HasTaken, Advances, Pushes, IsPushError, CountsTaken, CountsUnread, tables_for}
use Rattle.library_log.specs.ShownRecorders.{IsDoneShown, IsFilteredBy, IsLikeShown}
use Rattle.library_log.specs.ShownTransactions.{HasShown}
use Rattle.library_log.specs.declared.part.Part.{Part}
use Rattle.library_log.specs.declared.part.Part.TheVariants as parts
use Rattle.library_log.specs.declared.read_log.Next.{Next}
use Rattle.library_log.specs.declared.read_log.ReadLog.{ReadLog}
use Rattle.library_log.specs.declared.shared_state.SharedState.{SharedState}
use Rattle.cuvragyen.specs.declared.logs.LogHeader.{LogHeader}
use Rattle.cuvragyen.specs.declared.logs.LogStop.{LogStop}
use Rattle.cuvragyen.specs.VerdictNumbers.{done_number, next_number, shown_number, verdict_number}

-- the log of a part, if it is one
abbrev pub log_of : Part → Option ReadLog
log_of (parts.Log s) = Some s
log_of (parts.State s) = None

-- the log of a handle that is open
abbrev pub open_log : Option Part → Option ReadLog
open_log None = None
open_log (Some p) = log_of p

-- a call on a handle that has no log returns 2 and changes nothing
abbrev pub IsHarmless : Option Part → Option Part → ℕ → Type 0
IsHarmless old new result = open_log old ≡ None → (new ≡ old) × (result ≡ 2)

-- it has a log after a call too, and this holds for the log before it and after it
pub record GoesTo (P : ReadLog → ReadLog → Type 0) (s : ReadLog) (new : Option Part) : Type 0 where
  pub after : ReadLog
  pub is : open_log new ≡ Some after
  pub holds : P s after

-- a call on a handle that has a log leaves it one, and this holds for the log before it and after it
abbrev pub OnLog : Option Part → Option Part → (ReadLog → ReadLog → Type 0) → Type 0
OnLog old new P = (s : ReadLog) → open_log old ≡ Some s → GoesTo P s new

-- a handle has what a log borrows
abbrev pub HasState : Option Part → Type 0
HasState None = ⊥
HasState (Some (parts.State s)) = ⊤
HasState (Some (parts.Log s)) = ⊥

-- a handle has what a log borrows, with a schema of these tables
abbrev pub HasTables : Option Part → Tables → Type 0
HasTables None tables = ⊥
HasTables (Some (parts.State s)) tables = tables_for s ≡ tables
HasTables (Some (parts.Log s)) tables = ⊥

-- a handle has a log whose table maps are completed by the schema of what it borrows
abbrev pub OpensBy : Option Part → Option Part → Type 0
OpensBy old new = (tables : Tables) → HasTables old tables → IfSome (open_log new) (λ s. tables_in (source_of (log_in s)) ≡ tables)

-- a log of which nothing was pushed
pub record IsNew (s : ReadLog) : Type 0 where
  pub taken : HasTaken (log_in s) []
  pub nothing : left_in (log_in s) ≡ []
  pub source : Begins (source_of (log_in s))
  pub recorder : IsFilteredBy (filter_in s) (recorder_in (log_in s))
  pub goes_on : fault_in s ≡ None

-- a handle has a log of which nothing was pushed
abbrev pub HasNew : Option Part → Type 0
HasNew p = IfSome (open_log p) (λ s. IsNew s) × IsSome (open_log p)

-- the log kept a piece, and the call returns this
pub record Keeps (s new : ReadLog) (piece : List ℕ) (result : ℕ) : Type 0 where
  pub returned : Result ⊤ Verdict
  pub number : result ≡ done_number returned
  pub ok : OnOk returned (Pushes s new piece)
  pub fault : IfSome (fault_in s) (λ v. (returned ≡ Err v) × (new ≡ s))
  pub err : fault_in s ≡ None → IfErr returned (λ v. IsPushError s new piece v)
  pub recorder : recorder_in (log_in new) ≡ recorder_in (log_in s)
  pub source : source_of (log_in new) ≡ source_of (log_in s)
  pub filter : filter_in new ≡ filter_in s

-- the log went on to the next transaction, or needs more bytes, or ended, and the call returns this
pub record GoesOn (s new : ReadLog) (result : ℕ) : Type 0 where
  pub returned : Result Next Verdict
  pub number : result ≡ next_number returned
  pub advances : fault_in s ≡ None → (past : List Event) → HasTaken (log_in s) past → Advances (filter_in s) past (log_in s) (log_in new) returned
  pub fault : IfSome (fault_in s) (λ v. (returned ≡ Err v) × (new ≡ s))
  pub like : OnOk returned (Stays IsLikeShown (recorder_in (log_in s)) (recorder_in (log_in new)))
  pub newest : fault_in s ≡ None → has_newest new ≡ finds returned
  pub filter : filter_in new ≡ filter_in s

-- the log made the lines or the record of its newest transaction, if it has one; the view has as many bytes, and the call returns this
pub record Shows (s new : ReadLog) (old_view view : View) (result : ℕ) : Type 0 where
  pub returned : Result Bool Verdict
  pub number : result ≡ shown_number returned
  pub there : IfOk returned (λ is_there. is_there ≡ has_newest s)
  pub lines : OnOk returned (has_newest s ≡ true → (t : Committed) → IsDoneShown (recorder_in (log_in s)) t → HasShown (filter_in s) (lines_in s) (file_in s) (recorder_in (log_in s)) t (shown_in new))
  pub err : OnErr returned ((returned ≡ Err Memory) × (fault_in new ≡ Some Memory))
  pub len : returned ≡ Ok true → view.len ≡ length (shown_in new)
  pub none : returned ≡ Ok false → view.len ≡ 0
  pub kept : OnErr returned (view ≡ old_view)
  pub log : log_in new ≡ log_in s

-- the log ended, and this is how
pub record Ends (s new : ReadLog) (stop : Stop) : Type 0 where
  pub verdict : stop.verdict ≡ ended_by s
  pub counts : (past : List Event) → HasTaken (log_in s) past → CountsTaken stop past
  pub begin : IfSome (early_end s) (λ v. stop.offset ≡ 0)
  pub unread : early_end s ≡ None → stop.verdict ≡ End → CountsUnread stop (unread_in (source_of (log_in s)))
  pub ended : IsSome (verdict_in (log_in new))
  pub fault : fault_in new ≡ early_end s

-- whether the call says by which event the newest transaction was committed, and what it says
pub record HasHeader (s : ReadLog) (old new : LogHeader) (result : ℕ) : Type 0 where
  pub number : result ≡ (if has_newest s then 1 else 0)
  pub some : has_newest s ≡ true → (t : Committed) → IsDoneShown (recorder_in (log_in s)) t → (new.time ≡ t.commit.timestamp) × ((new.server_id ≡ t.commit.server_id) × (new.position ≡ t.commit.log_pos))
  pub none : has_newest s ≡ false → new ≡ old

-- a structure of C's has all fields of a stop: 0 for one that isn't there
pub record RepresentsStop (x : LogStop) (stop : Stop) : Type 0 where
  pub offset : x.offset ≡ stop.offset
  pub remaining : x.remaining ≡ stop.remaining
  pub verdict : x.verdict ≡ verdict_number stop.verdict
  pub last_commit : x.last_commit ≡ unwrap_or stop.last_commit 0
  pub has_last_commit : x.has_last_commit ≡ is_some stop.last_commit
  pub event : IfSome stop.header (λ h. (x.event_type ≡ (event_header_of h).event_type) × (x.event_size ≡ (event_header_of h).event_size))
  pub has_event : x.has_event ≡ is_some stop.header
  pub newest_type : x.newest_type ≡ unwrap_or stop.newest_type 0
  pub has_newest_type : x.has_newest_type ≡ is_some stop.newest_type
  pub is_open : x.is_open ≡ stop.is_open
  pub is_cut : x.is_cut ≡ stop.is_cut

-- the log ended, the structure has how, and the call returns this
pub record Stops (s new : ReadLog) (x : LogStop) (result : ℕ) : Type 0 where
  pub number : result ≡ 0
  pub stop : Stop
  pub represents : RepresentsStop x stop
  pub ends : Ends s new stop
