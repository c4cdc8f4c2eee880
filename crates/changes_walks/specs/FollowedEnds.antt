-- How following a server's answer ends.
use Rattle.std.specs.Prelude.{◌≡◌, ◌⊎◌, ◌<◌, ⊤, ℕ, Bool, true, false, List, [], ◌∷◌, ◌++◌, Option, Some, None, Result, Ok, Err}
use Rattle.std.specs.Io.KnownBytes.{Consumes, IsAtEnd}
use Rattle.wire_packets.specs.CodecState as codec
use Rattle.wire_packets.specs.Framing.{framings}
use Rattle.events_frames.specs.GivenEvents.{MayBe}
use Rattle.feed_checks.specs.EventFields.{Event}
use Rattle.feed_checks.specs.declared.verdict.Verdict.{Verdict}
use Rattle.feed_checks.specs.declared.verdict.Verdict.TheVariants as verdicts
use Rattle.feed_transactions.specs.Changes.{Committed}
use Rattle.feed_transactions.specs.Recorders.{HasOpen}
use Rattle.feed_transactions.specs.Rules.{Judge}
use Rattle.feed_change_log.specs.declared.filter.Filter.{Filter}
use Rattle.feed_change_log.specs.PushedLogs.{left_in, source_of}
use Rattle.feed_change_log.specs.declared.pushed_log.PushedLog.{PushedLog}
use Rattle.feed_replication.specs.AnswerEvents.{due_of, event_of, every, limit_of, HasNoName}
use Rattle.feed_replication.specs.AnswerSteps.{EndsBy}
use Rattle.feed_replication.specs.Incoming.{gathered_left, received_left}
use Rattle.feed_replication.specs.Streams.{event_in}
use Rattle.feed_replication.specs.declared.answer_events.AnswerEvents.{AnswerEvents}
use Rattle.changes_commands.specs.declared.output.Failure.{Failure}
use Rattle.changes_walks.specs.LogSources.{BeginsLog, GivesInLog}
use Rattle.changes_walks.specs.PushedWalks.{GivesEvents, PassesTo}
use Rattle.changes_walks.specs.Selections.{Selected, selected}
use Rattle.changes_walks.specs.SourceStates.{Known}
use Rattle.changes_walks.specs.declared.log_events.LogEvents.{LogEvents}
use Rattle.changes_walks.specs.FollowedAnswers.{acks_of, events_of, followed, in_log, is_heartbeat, log_of, payloads_of, Answered, AreTaken, Asked, BeginsWith, Gives, HasAnswered, HasAnswerFailure, HasFollowed, IsFollowing, IsGiven, IsReady, LogTransaction}
use Rattle.changes_walks.specs.declared.following.FollowEnd.{FollowEnd}
use Rattle.changes_walks.specs.declared.following.FollowEnd.TheVariants as ends

-- ---- an event that is pushed

-- what the sink has of an event, in the log with this name, after what it had
pub record PassesEvent {C E S : Type 0} (IsOpen : HasOpen C) (IsLike : C → C → Type 0) (Expects : S → Filter → C → Type 0) (judge : Judge) (f : Filter) (MayGive : Gives E) (Has : HasAnswered S) (name : List ℕ) (event : Event) (l : List LogTransaction) (acks : List ℕ) (past : List Event) (source : E) (log : PushedLog C E) (sink : S) : Type 0 where
  pub given : List ℕ
  pub transactions : List Committed
  pub past_then : List Event
  pub gives : IsGiven judge MayGive past source event given transactions past_then (source_of log) (is_heartbeat event)
  pub ready : IsReady IsOpen IsLike Expects f past_then log sink
  pub has : Has sink (l ++ in_log name (selected f transactions)) acks

-- It isn't a heartbeat, and the log ended at it: of what its source may give the sink has the transactions up to the fault.
pub record EndsWithin {E S : Type 0} (judge : Judge) (f : Filter) (MayGive : Gives E) (Has : HasAnswered S) (name : List ℕ) (event : Event) (l : List LogTransaction) (acks : List ℕ) (past : List Event) (source : E) (sink : S) : Type 0 where
  pub of_log : is_heartbeat event ≡ false
  pub bytes : List ℕ
  pub given : MayGive source (Some event) bytes
  pub verdict : Verdict
  pub last : Option ℕ
  pub passes : PassesTo judge (λ s m. Has s (l ++ in_log name m) acks) f [] past bytes sink last verdict

-- it isn't a heartbeat, and the sink failed at the last of these transactions of it
pub record FailsWithin {C E S : Type 0} (judge : Judge) (f : Filter) (MayGive : Gives E) (HasFailed : HasAnswerFailure S) (name : List ℕ) (event : Event) (l : List LogTransaction) (acks : List ℕ) (past : List Event) (source : E) (log : PushedLog C E) (sink : S) (e : Failure) : Type 0 where
  pub of_log : is_heartbeat event ≡ false
  pub given : List ℕ
  pub transactions : List Committed
  pub past_then : List Event
  pub gives : GivesEvents judge past (MayGive source (Some event)) (MayGive (source_of log) (Some (left_in log))) given transactions past_then
  pub has : HasFailed sink (l ++ in_log name (selected f transactions)) acks e

-- the result of pushing an event
unfoldable pub PushesEvent : {C E S : Type 0} → HasOpen C → (C → C → Type 0) → (S → Filter → C → Type 0) → Judge → Filter → Gives E → HasAnswered S → HasAnswerFailure S → List ℕ → Event → List LogTransaction → List ℕ → List Event → PushedLog C E → PushedLog C E → S → Result ⊤ FollowEnd → Type 0
PushesEvent IsOpen IsLike Expects judge f MayGive Has HasFailed name event l acks past old new sink (Ok u) = PassesEvent IsOpen IsLike Expects judge f MayGive Has name event l acks past (source_of old) new sink
PushesEvent IsOpen IsLike Expects judge f MayGive Has HasFailed name event l acks past old new sink (Err ends.Fault) = EndsWithin judge f MayGive Has name event l acks past (source_of old) sink
PushesEvent IsOpen IsLike Expects judge f MayGive Has HasFailed name event l acks past old new sink (Err (ends.Failed e)) = FailsWithin judge f MayGive HasFailed name event l acks past (source_of old) new sink e
PushesEvent IsOpen IsLike Expects judge f MayGive Has HasFailed name event l acks past old new sink (Err ends.Memory) = Has sink l acks × (source_of new ≡ source_of old)
PushesEvent IsOpen IsLike Expects judge f MayGive Has HasFailed name event l acks past old new sink (Err end) = ⊥

-- ---- the ends

-- no more events are taken: the stream ends by this verdict, whatever bytes follow, or the newest ROTATE_EVENT has no name
pub record EndsPackets {G C E S : Type 0} (q : Asked) (judge : Judge) (f : Filter) (MayGive : Gives E) (first : E) (Has : HasAnswered S) (answer : AnswerEvents G) (log : PushedLog C E) (sink : S) (s : List ℕ) (v : Verdict) : Type 0 where
  pub xs : List Answered
  pub past : List Event
  pub followed : HasFollowed q judge f MayGive first Has s xs past (source_of log) (due_of answer) sink
  pub why : EndsBy every q.format q.limit s (payloads_of xs) (events_of q xs) v ⊎ HasNoName q.sum (event_of answer) v

-- the log ended at the next event of the answer
pub record EndsLog {G E S : Type 0} (q : Asked) (judge : Judge) (f : Filter) (MayGive : Gives E) (first : E) (Has : HasAnswered S) (answer : AnswerEvents G) (sink : S) (s : List ℕ) : Type 0 where
  pub xs : List Answered
  pub past : List Event
  pub source : E
  pub payload : List ℕ
  pub start : BeginsWith q s (payloads_of xs) (events_of q xs)
  pub begins : BeginsWith q s (payloads_of xs ++ payload ∷ []) (event_in q.format payload ∷ events_of q xs)
  pub taken : AreTaken q judge MayGive first xs past source
  pub acks : List ℕ
  pub acked : acks ++ due_of answer ≡ acks_of xs
  pub ends : EndsWithin judge f MayGive Has (log_of q (event_in q.format payload ∷ events_of q xs)) (event_in q.format payload) (followed q f xs) acks past source sink

-- memory ran out after these events
pub record LacksMemory {G C E S : Type 0} (q : Asked) (judge : Judge) (f : Filter) (MayGive : Gives E) (first : E) (Has : HasAnswered S) (answer : AnswerEvents G) (log : PushedLog C E) (sink : S) (s : List ℕ) : Type 0 where
  pub xs : List Answered
  pub past : List Event
  pub followed : HasFollowed q judge f MayGive first Has s xs past (source_of log) (due_of answer) sink

-- the sink failed after these events, or at a transaction of the next, or after the log ended at the next
pub record FailsAfter {C E S : Type 0} (q : Asked) (judge : Judge) (f : Filter) (MayGive : Gives E) (first : E) (HasFailed : HasAnswerFailure S) (log : PushedLog C E) (sink : S) (s : List ℕ) (e : Failure) : Type 0 where
  pub xs : List Answered
  pub past : List Event
  pub source : E
  pub begins : BeginsWith q s (payloads_of xs) (events_of q xs)
  pub taken : AreTaken q judge MayGive first xs past source
  pub acks : List ℕ
  pub due : List ℕ
  pub acked : acks ++ due ≡ acks_of xs
  pub fails : HasFailed sink (followed q f xs) acks e
      ⊎ ((payload : List ℕ) × BeginsWith q s (payloads_of xs ++ payload ∷ []) (event_in q.format payload ∷ events_of q xs)
      × (FailsWithin judge f MayGive HasFailed (log_of q (event_in q.format payload ∷ events_of q xs)) (event_in q.format payload) (followed q f xs) acks past source log sink e
      ⊎ EndsWithin judge f MayGive (λ x l a. HasFailed x l a e) (log_of q (event_in q.format payload ∷ events_of q xs)) (event_in q.format payload) (followed q f xs) acks past source sink))

-- why no more events of the packets that arrived are taken
unfoldable pub EndsTaking : {G C E S : Type 0} → Asked → Judge → Filter → Gives E → E → HasAnswered S → HasAnswerFailure S → AnswerEvents G → PushedLog C E → S → List ℕ → FollowEnd → Type 0
EndsTaking q judge f MayGive first Has HasFailed answer log sink s ends.Ended = EndsPackets q judge f MayGive first Has answer log sink s verdicts.End
EndsTaking q judge f MayGive first Has HasFailed answer log sink s (ends.Packet v) = EndsPackets q judge f MayGive first Has answer log sink s v
EndsTaking q judge f MayGive first Has HasFailed answer log sink s ends.Fault = EndsLog q judge f MayGive first Has answer sink s
EndsTaking q judge f MayGive first Has HasFailed answer log sink s ends.Memory = LacksMemory q judge f MayGive first Has answer log sink s
EndsTaking q judge f MayGive first Has HasFailed answer log sink s (ends.Failed e) = FailsAfter q judge f MayGive first HasFailed log sink s e
EndsTaking q judge f MayGive first Has HasFailed answer log sink s end = ⊥

-- the result of taking an event, or those of the packets that arrived
unfoldable pub Takes : {G C E S : Type 0} → HasOpen C → (C → C → Type 0) → (S → Filter → C → Type 0) → Asked → Judge → Filter → Gives E → E → HasAnswered S → HasAnswerFailure S → AnswerEvents G → PushedLog C E → S → List ℕ → Result ⊤ FollowEnd → Type 0
Takes IsOpen IsLike Expects q judge f MayGive first Has HasFailed answer log sink s (Ok u) = IsFollowing IsOpen IsLike Expects q judge f MayGive first Has answer log sink s
Takes IsOpen IsLike Expects q judge f MayGive first Has HasFailed answer log sink s (Err end) = EndsTaking q judge f MayGive first Has HasFailed answer log sink s end

-- each complete packet of the stream was taken
pub record HasTakenAll {G C E S : Type 0} (IsOpen : HasOpen C) (IsLike : C → C → Type 0) (Expects : S → Filter → C → Type 0) (q : Asked) (judge : Judge) (f : Filter) (MayGive : Gives E) (first : E) (Has : HasAnswered S) (answer : AnswerEvents G) (log : PushedLog C E) (sink : S) (s : List ℕ) : Type 0 where
  pub following : IsFollowing IsOpen IsLike Expects q judge f MayGive first Has answer log sink s
  pub halts : codec.Halts q.limit 1 (payloads_of following.xs) (gathered_left answer.incoming answer.found) (received_left answer.incoming answer.found) None

-- the result of taking the events of the packets that arrived
unfoldable pub TakesAll : {G C E S : Type 0} → HasOpen C → (C → C → Type 0) → (S → Filter → C → Type 0) → Asked → Judge → Filter → Gives E → E → HasAnswered S → HasAnswerFailure S → AnswerEvents G → PushedLog C E → S → List ℕ → Result ⊤ FollowEnd → Type 0
TakesAll IsOpen IsLike Expects q judge f MayGive first Has HasFailed answer log sink s (Ok u) = HasTakenAll IsOpen IsLike Expects q judge f MayGive first Has answer log sink s
TakesAll IsOpen IsLike Expects q judge f MayGive first Has HasFailed answer log sink s (Err end) = EndsTaking q judge f MayGive first Has HasFailed answer log sink s end

-- the sink failed
abbrev pub is_failed : Result ⊤ FollowEnd → Bool
is_failed (Ok u) = false
is_failed (Err (ends.Failed e)) = true
is_failed (Err end) = false

-- the result of taking the next bytes of an answer: all is written, unless the sink failed
unfoldable pub TakesPiece : {G C E S : Type 0} → HasOpen C → (C → C → Type 0) → (S → Filter → C → Type 0) → Asked → Judge → Filter → Gives E → E → HasAnswered S → HasAnswerFailure S → (S → Type 0) → AnswerEvents G → PushedLog C E → S → List ℕ → Result ⊤ FollowEnd → Type 0
TakesPiece IsOpen IsLike Expects q judge f MayGive first Has HasFailed IsWritten answer log sink s (Ok u) = HasTakenAll IsOpen IsLike Expects q judge f MayGive first Has answer log sink s × IsWritten sink
TakesPiece IsOpen IsLike Expects q judge f MayGive first Has HasFailed IsWritten answer log sink s (Err (ends.Failed e)) = FailsAfter q judge f MayGive first HasFailed log sink s e
TakesPiece IsOpen IsLike Expects q judge f MayGive first Has HasFailed IsWritten answer log sink s (Err end) = EndsTaking q judge f MayGive first Has HasFailed answer log sink s end × IsWritten sink

-- Of what was read of the stream, which `before` is the part of that was read before, each complete packet was taken, and all that the sink got is
-- written.
pub record IsUpToDate {G C E S : Type 0} (IsOpen : HasOpen C) (IsLike : C → C → Type 0) (Expects : S → Filter → C → Type 0) (q : Asked) (judge : Judge) (f : Filter) (MayGive : Gives E) (first : E) (Has : HasAnswered S) (IsWritten : S → Type 0) (answer : AnswerEvents G) (log : PushedLog C E) (sink : S) (before read : List ℕ) : Type 0 where
  pub following : IsFollowing IsOpen IsLike Expects q judge f MayGive first Has answer log sink (before ++ read)
  pub all : (read ≡ []) ⊎ codec.Halts q.limit 1 (payloads_of following.xs) (gathered_left answer.incoming answer.found) (received_left answer.incoming answer.found) None
  pub written : IsWritten sink

-- the bytes that were read, and the state after them
pub record IsReadUpTo {G C E S : Type 0} (IsOpen : HasOpen C) (IsLike : C → C → Type 0) (Expects : S → Filter → C → Type 0) (q : Asked) (judge : Judge) (f : Filter) (MayGive : Gives E) (first : E) (Has : HasAnswered S) (IsWritten : S → Type 0) (answer : AnswerEvents G) (log : PushedLog C E) (sink : S) (before : List ℕ) (old left : Option (List ℕ)) : Type 0 where
  pub read : List ℕ
  pub consumed : Consumes old left read
  pub up : IsUpToDate IsOpen IsLike Expects q judge f MayGive first Has IsWritten answer log sink before read

-- how following ended after these bytes; `left` are those that the reader has left, and `room` is the length of the buffer for what it gives
unfoldable pub EndsFollowing : {G C E S : Type 0} → HasOpen C → (C → C → Type 0) → (S → Filter → C → Type 0) → Asked → Judge → Filter → Gives E → E → HasAnswered S → HasAnswerFailure S → (S → Type 0) → AnswerEvents G → PushedLog C E → S → List ℕ → List ℕ → Option (List ℕ) → ℕ → Bool → FollowEnd → Type 0
EndsFollowing IsOpen IsLike Expects q judge f MayGive first Has HasFailed IsWritten answer log sink before read left room failed ends.Ended =
    ((now : IsUpToDate IsOpen IsLike Expects q judge f MayGive first Has IsWritten answer log sink before read) × (before ++ read ≡ framings 1 (payloads_of now.following.xs)) × (0 < room → IsAtEnd left))
    ⊎ (EndsPackets q judge f MayGive first Has answer log sink (before ++ read) verdicts.End × IsWritten sink)
EndsFollowing IsOpen IsLike Expects q judge f MayGive first Has HasFailed IsWritten answer log sink before read left room failed ends.Cut = IsUpToDate IsOpen IsLike Expects q judge f MayGive first Has IsWritten answer log sink before read × (0 < room → IsAtEnd left)
EndsFollowing IsOpen IsLike Expects q judge f MayGive first Has HasFailed IsWritten answer log sink before read left room failed ends.Unread = IsUpToDate IsOpen IsLike Expects q judge f MayGive first Has IsWritten answer log sink before read × (failed ≡ true)
EndsFollowing IsOpen IsLike Expects q judge f MayGive first Has HasFailed IsWritten answer log sink before read left room failed (ends.Failed e) = FailsAfter q judge f MayGive first HasFailed log sink (before ++ read) e
EndsFollowing IsOpen IsLike Expects q judge f MayGive first Has HasFailed IsWritten answer log sink before read left room failed end = EndsTaking q judge f MayGive first Has HasFailed answer log sink (before ++ read) end × IsWritten sink

-- an answer of which `before` was read was followed to its end: the bytes that were read, and how following ended after them
pub record Follows {G C E S : Type 0} (IsOpen : HasOpen C) (IsLike : C → C → Type 0) (Expects : S → Filter → C → Type 0) (q : Asked) (judge : Judge) (f : Filter) (MayGive : Gives E) (first : E) (Has : HasAnswered S) (HasFailed : HasAnswerFailure S) (IsWritten : S → Type 0) (answer : AnswerEvents G) (log : PushedLog C E) (sink : S) (before : List ℕ) (old left : Option (List ℕ)) (room : ℕ) (failed : Bool) (end : FollowEnd) : Type 0 where
  pub read : List ℕ
  pub consumed : Consumes old left read
  pub ends : EndsFollowing IsOpen IsLike Expects q judge f MayGive first Has HasFailed IsWritten answer log sink before read left room failed end

-- An answer of which nothing was read was followed to its end, with a source that gives what stands for the events of its logs; this is known before
-- them.
pub record FollowsLogs {G C S : Type 0} (IsOpen : HasOpen C) (IsLike : C → C → Type 0) (Expects : S → Filter → C → Type 0) (q : Asked) (judge : Judge) (f : Filter) (known : Known) (Has : HasAnswered S) (HasFailed : HasAnswerFailure S) (IsWritten : S → Type 0) (answer : AnswerEvents G) (sink : S) (old left : Option (List ℕ)) (room : ℕ) (failed : Bool) (end : FollowEnd) : Type 0 where
  pub source : LogEvents
  pub begins : BeginsLog known source
  pub log : PushedLog C LogEvents
  pub follows : Follows IsOpen IsLike Expects q judge f GivesInLog source Has HasFailed IsWritten answer log sink [] old left room failed end
