-- What a follower of changes has lent of the bytes of an answer received so far, and how its calls change that.
use Rattle.std.specs.Prelude.{◌≡◌, ◌<◌, ℕ, Bool, true, false, List, [], ◌∷◌, ◌++◌, length, map, Option, Some, None, IfSome, Result, Ok, Err}
use Rattle.feed_checks.specs.declared.verdict.Verdict.{Verdict}
use Rattle.feed_checks.specs.declared.verdict.Verdict.TheVariants as verdicts
use Rattle.feed_checks.specs.EventFields.{Event, log_pos_of}
use Rattle.feed_checks.specs.PastLists.{onto}
use Rattle.feed_transactions.specs.Changes.{Committed, committed_by}
use Rattle.feed_transactions.specs.Rules.{Rules, rules}
use Rattle.feed_replication.specs.Requests.{dump_request}
use Rattle.feed_replication.specs.declared.format.PayloadFormat.{PayloadFormat as Format}
use Rattle.feed_replication.specs.Streams.{event_in, stream_verdict}
use Rattle.feed_change_log.specs.KeptChanges.{IsOpenChanges, IsDoneChanges}
use Rattle.feed_replication.specs.Acknowledgements.{is_ack_requested, requested_acks, acknowledgements}
use Rattle.feed_replication.specs.AnswerReaders as answer
use Rattle.feed_replication.specs.AnswerSteps.{YieldsFirst}
use Rattle.feed_replication.specs.Following.{AddsAllDue, AddsSomeDue}
use Rattle.feed_replication.specs.declared.answer_reader.TakenEvent.{TakenEvent}
use Rattle.binlog_feed.specs.StreamCommits.{stream_committed, committed_in, position_after_last}
use Rattle.binlog_feed.specs.declared.change_follower.ChangeFollower.{ChangeFollower}

-- the maximum length of a payload
abbrev pub limit_of : {F : Type 0} → ChangeFollower F → ℕ
limit_of f = answer.limit_of f.answer

-- the verdict that the follower keeps, if its stream is over
abbrev pub verdict_in : {F : Type 0} → ChangeFollower F → Option Verdict
verdict_in f = answer.verdict_in f.answer

-- the format of its payloads
abbrev pub format_of : {F : Type 0} → ChangeFollower F → Format
format_of f = answer.format_of f.answer

-- its checksum function
abbrev pub checksum_of : {F : Type 0} → ChangeFollower F → F
checksum_of f = answer.checksum_of f.answer

-- the server id in its requests
abbrev pub server_of : {F : Type 0} → ChangeFollower F → ℕ
server_of f = answer.server_of f.answer

-- the name of the log in its requests
abbrev pub name_of : {F : Type 0} → ChangeFollower F → List ℕ
name_of f = answer.name_of f.answer

-- the position of its last request
abbrev pub asked_position_of : {F : Type 0} → ChangeFollower F → ℕ
asked_position_of f = answer.asked_position_of f.answer

-- the position of its next request
abbrev pub next_position_of : {F : Type 0} → ChangeFollower F → ℕ
next_position_of f = answer.next_position_of f.answer

-- the acknowledgements that are due
abbrev pub due_of : {F : Type 0} → ChangeFollower F → List ℕ
due_of f = answer.due_of f.answer

-- the bytes that were received and aren't taken
abbrev pub received_of : {F : Type 0} → ChangeFollower F → List ℕ
received_of f = answer.received_of f.answer

-- server id, name, format, limit and checksum function of the follower are unchanged
abbrev pub KeepsSettings : {F : Type 0} → ChangeFollower F → ChangeFollower F → Type 0
KeepsSettings old new = answer.KeepsSettings old.answer new.answer

-- the fault that ended its stream, if one did
abbrev pub stream_fault : {F : Type 0} → ChangeFollower F → Option Verdict
stream_fault f = answer.stream_fault f.answer

-- its recorder has this transaction
abbrev pub HasTransaction : {F : Type 0} → ChangeFollower F → Committed → Type 0
HasTransaction f t = IsDoneChanges (answer.recorder_in f.answer) t

-- ---- what an answer has

-- how an answer is read: the checksum function, the format and the maximum length of its payloads, and the name of the log in acknowledgements
pub record Reading : Type 0 where
  pub sum : List ℕ → ℕ
  pub format : Format
  pub limit : ℕ
  pub name : List ℕ

-- how this follower reads it, under a checksum function
abbrev pub reading_of : {F : Type 0} → (List ℕ → ℕ) → ChangeFollower F → Reading
reading_of sum f = record { sum = sum; format = format_of f; limit = limit_of f; name = name_of f }

-- the transactions that these bytes of an answer commit, up to the first fault
abbrev pub commits_of : Reading → List ℕ → List Committed
commits_of x s = stream_committed x.sum x.format x.limit s

-- the verdict of these bytes
abbrev pub verdict_of : Reading → List ℕ → Verdict
verdict_of x s = stream_verdict (rules x.sum) x.format x.limit s

-- the acknowledgements that they ask for
abbrev pub acks_of : Reading → List ℕ → List (List ℕ)
acks_of x s = acknowledgements (rules x.sum) x.format x.limit x.name s

-- ---- what a follower's state represents

-- the transaction, if there is one, as a list
abbrev pub listed : Option Committed → List Committed
listed None = []
listed (Some t) = t ∷ []

-- one more payload was taken after these; its event commits this transaction, and isn't completed
pub record IsLent {F : Type 0} (x : Reading) (f : ChangeFollower F) (s : List ℕ) (ps : List (List ℕ)) (past : List Event) (event : TakenEvent) (t : Committed) : Type 0 where
  pub payload : List ℕ
  pub taken : answer.HasTaken IsOpenChanges (rules x.sum) x.format f.answer s (ps ++ payload ∷ []) (event_in x.format payload ∷ past) past
  pub commits : committed_by past (event_in x.format payload) ≡ t ∷ []
  pub is_commit : event.commits ≡ true
  pub position : event.position ≡ log_pos_of (event_in x.format payload)
  pub is_ack_requested : event.is_ack_requested ≡ is_ack_requested x.format payload

-- the follower has taken these payloads with the events `past`, which were completed; and one more, if a transaction is lent
abbrev pub Holds : {F : Type 0} → Reading → ChangeFollower F → List ℕ → List (List ℕ) → List Event → Option TakenEvent → Option Committed → Type 0
Holds x f s ps past None None = answer.HasTaken IsOpenChanges (rules x.sum) x.format f.answer s ps past past
Holds x f s ps past (Some event) (Some t) = IsLent x f s ps past event t
Holds x f s ps past _ _ = ⊥

-- the next request is for the position after the last of these transactions, or that of the last request if there are none
abbrev pub ResumesAfter : {F : Type 0} → ChangeFollower F → List Committed → Type 0
ResumesAfter f dealt = next_position_of f ≡ position_after_last dealt (asked_position_of f)

-- the follower's state represents the bytes s of an answer that goes on: of the transactions that they commit it passed the first few, `dealt`, and lends the next one, or none; of the acknowledgements that they ask for the first few, `acks`, became due
pub record IsAt {F : Type 0} (x : Reading) (f : ChangeFollower F) (s : List ℕ) (dealt : List Committed) (lent : Option Committed) (acks : List (List ℕ)) : Type 0 where
  pub goes_on : verdict_in f ≡ None
  pub more : List Committed
  pub commits : commits_of x s ≡ dealt ++ (listed lent ++ more)
  pub lends : IfSome lent (λ t. HasTransaction f t)
  pub resumes : ResumesAfter f dealt
  pub more_acks : List (List ℕ)
  pub asks : acks_of x s ≡ acks ++ more_acks
  pub payloads : List (List ℕ)
  pub past : List Event
  pub holds : Holds x f s payloads past f.lent lent
  pub dealt_are : dealt ≡ committed_in past
  pub acks_are : acks ≡ requested_acks x.format x.name payloads

-- each transaction that the bytes commit was passed, and the stream goes on or is over
abbrev pub RepresentsStream : {F : Type 0} → Rules → Format → ChangeFollower F → List ℕ → Type 0
RepresentsStream r format f s = answer.RepresentsStream IsOpenChanges r format f.answer s

-- a follower before the first byte of an answer of this format, and its request
pub record Starts {F : Type 0} (format : Format) (position server : ℕ) (name : List ℕ) (limit : ℕ) (checksum : F) (f : ChangeFollower F) (question : List ℕ) : Type 0 where
  pub at : (sum : List ℕ → ℕ) → IsAt (reading_of sum f) f [] [] None []
  pub represents : (r : Rules) → RepresentsStream r format f []
  pub request : question ≡ dump_request position server name
  pub asked_position : asked_position_of f ≡ position
  pub server_is : server_of f ≡ server
  pub name_is : name_of f ≡ name
  pub format_is : format_of f ≡ format
  pub limit_is : limit_of f ≡ limit
  pub checksum_is : checksum_of f ≡ checksum
  pub none_waits : due_of f ≡ []

-- ---- what `advance` does

-- the next transaction is lent, after these were passed; `old` is the follower before the call
pub record Lends {F : Type 0} (x : Reading) (old new : ChangeFollower F) (s : List ℕ) (dealt : List Committed) (acks : List (List ℕ)) : Type 0 where
  pub transaction : Committed
  pub all_acks : List (List ℕ)
  pub at : IsAt x new s dealt (Some transaction) all_acks
  pub due : AddsAllDue acks all_acks (due_of old) (due_of new)

-- these are all transactions of the bytes so far, and the stream goes on
pub record HasAll {F : Type 0} (x : Reading) (old new : ChangeFollower F) (s : List ℕ) (dealt : List Committed) (acks : List (List ℕ)) : Type 0 where
  pub at : IsAt x new s dealt None (acks_of x s)
  pub all : commits_of x s ≡ dealt
  pub closed : verdict_of x s ≡ verdicts.Closed
  pub due : AddsAllDue acks (acks_of x s) (due_of old) (due_of new)
  pub represents : RepresentsStream (rules x.sum) x.format new s

-- these are all transactions of the stream, and this is its verdict, whatever bytes follow
pub record EndsWith {F : Type 0} (x : Reading) (old new : ChangeFollower F) (s : List ℕ) (dealt : List Committed) (acks : List (List ℕ)) (v : Verdict) : Type 0 where
  pub all : (more : List ℕ) → commits_of x (s ++ more) ≡ dealt
  pub verdict_is : (more : List ℕ) → verdict_of x (s ++ more) ≡ v
  pub asks : (more : List ℕ) → acks_of x (s ++ more) ≡ acks_of x s
  pub due : AddsAllDue acks (acks_of x s) (due_of old) (due_of new)
  pub resumes : ResumesAfter new dealt

-- the events in these payloads, the newest first
abbrev pub events_back : Reading → List (List ℕ) → List Event
events_back x ps = onto [] (map (event_in x.format) ps)

-- memory ran out after the first few payloads of the stream, whose events commit no other transactions than these: what they ask for became due, and the next request is for the position after what they commit
pub record RunsOut {F : Type 0} (x : Reading) (old new : ChangeFollower F) (s : List ℕ) (dealt : List Committed) (acks : List (List ℕ)) : Type 0 where
  pub payloads : List (List ℕ)
  pub first : YieldsFirst (rules x.sum) x.format x.limit s payloads (events_back x payloads)
  pub later : List Committed
  pub commits : dealt ≡ committed_in (events_back x payloads) ++ later
  pub due : AddsAllDue acks (requested_acks x.format x.name payloads) (due_of old) (due_of new)
  pub some_due : AddsSomeDue acks (acks_of x s) (due_of old) (due_of new)
  pub resumes : ResumesAfter new (committed_in (events_back x payloads))

-- why no transaction is lent: the stream ended, or memory ran out
abbrev pub Ends : {F : Type 0} → Reading → ChangeFollower F → ChangeFollower F → List ℕ → List Committed → List (List ℕ) → Verdict → Type 0
Ends x old new s dealt acks verdicts.Memory = RunsOut x old new s dealt acks
Ends x old new s dealt acks v = EndsWith x old new s dealt acks v

-- what `advance` does once these transactions were passed: the next one is lent, or these are all so far, or all that there are
abbrev pub Takes : {F : Type 0} → Reading → ChangeFollower F → ChangeFollower F → List ℕ → List Committed → List (List ℕ) → Result Bool Verdict → Type 0
Takes x old new s dealt acks (Ok true) = Lends x old new s dealt acks
Takes x old new s dealt acks (Ok false) = HasAll x old new s dealt acks
Takes x old new s dealt acks (Err v) = Ends x old new s dealt acks v

-- fewer bytes are left to be taken, if a transaction was found in them
abbrev pub TakesBytes : {F : Type 0} → ChangeFollower F → ChangeFollower F → Result Bool Verdict → Type 0
TakesBytes old new (Ok true) = length (received_of new) < length (received_of old)
TakesBytes old new _ = Unit {0}

-- the follower's state after an error; nothing is stated if memory ran out
abbrev pub IsOver : {F : Type 0} → Reading → ChangeFollower F → List ℕ → Result Bool Verdict → Type 0
IsOver x f s (Ok b) = Unit {0}
IsOver x f s (Err verdicts.Memory) = Unit {0}
IsOver x f s (Err v) = RepresentsStream (rules x.sum) x.format f s

-- the transaction that was lent is passed, and acknowledgements became due
pub record Passes {F : Type 0} (x : Reading) (old new : ChangeFollower F) (s : List ℕ) (dealt : List Committed) (lent : Option Committed) (acks : List (List ℕ)) : Type 0 where
  pub all_acks : List (List ℕ)
  pub at : IsAt x new s (dealt ++ listed lent) None all_acks
  pub due : AddsAllDue acks all_acks (due_of old) (due_of new)

-- the verdict of a follower after a call with this result; None if the stream goes on
abbrev pub error_of : {A : Type 0} → Result A Verdict → Option Verdict
error_of (Ok a) = None
error_of (Err v) = Some v
