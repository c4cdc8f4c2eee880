-- What a sink gets of a server's answer: the transactions that its events complete, each with the name of its log (MySQL Internals: Binlog Network Stream).
use Rattle.std.specs.Prelude.{◌≡◌, ◌⊎◌, ◌||◌, ◌==◌, ℕ, Bool, true, false, List, [], ◌∷◌, ◌++◌, get_or, map, Option, Some}
use Rattle.rows_constants.specs.EventTypes.{event_type_number as number}
use Rattle.rows_constants.specs.declared.event_type.EventType.TheVariants as event
use Rattle.wire_packets.specs.CodecState as codec
use Rattle.events_frames.specs.GivenEvents.{MayBe}
use Rattle.feed_checks.specs.EventFields.{Event}
use Rattle.feed_checks.specs.LogFormat.{joined}
use Rattle.feed_transactions.specs.Changes.{Committed}
use Rattle.feed_transactions.specs.Recorders.{HasOpen}
use Rattle.feed_transactions.specs.Rules.{Judge}
use Rattle.feed_change_log.specs.declared.filter.Filter.{Filter}
use Rattle.feed_change_log.specs.PushedLogs.{left_in, recorder_in, source_of, IsAfter}
use Rattle.feed_change_log.specs.declared.pushed_log.PushedLog.{PushedLog}
use Rattle.feed_replication.specs.Acknowledgements.{acknowledgement}
use Rattle.feed_replication.specs.AnswerEvents.{due_of, event_of, every, format_of, limit_of, log_name, HasEvents}
use Rattle.feed_replication.specs.AnswerReaders.{AreGoodPayloads}
use Rattle.feed_replication.specs.Streams.{event_in}
use Rattle.feed_replication.specs.declared.answer_events.AnswerEvents.{AnswerEvents}
use Rattle.feed_replication.specs.declared.format.PayloadFormat.{PayloadFormat as Format}
use Rattle.changes_commands.specs.declared.output.Failure.{Failure}
use Rattle.changes_walks.specs.LogWalks.{ExpectsLike}
use Rattle.changes_walks.specs.PushedWalks.{GivesEvents}
use Rattle.changes_walks.specs.Selections.{Selected, selected}

-- ---- transactions

-- a transaction that is selected, and the name of the log that it is in
pub record LogTransaction : Type 0 where
  pub log : List ℕ
  pub selected : Selected

-- these, in the log with this name
abbrev pub in_log : List ℕ → List Selected → List LogTransaction
in_log name m = map (λ s. record { log = name; selected = s }) m

-- what a sink has: these transactions, and these acknowledgements
abbrev pub HasAnswered : Type 0 → Type 1
HasAnswered S = S → List LogTransaction → List ℕ → Type 0

-- what a sink had when it failed, and how
abbrev pub HasAnswerFailure : Type 0 → Type 1
HasAnswerFailure S = S → List LogTransaction → List ℕ → Failure → Type 0

-- what a source may give of the bytes that are left to its reader
abbrev pub Gives : Type 0 → Type 1
Gives E = E → Option (List ℕ) → MayBe

-- ---- the events of an answer

-- an event of an answer is none of a log: a HEARTBEAT_LOG_EVENT, or one of its second version
abbrev pub is_heartbeat : Event → Bool
is_heartbeat e = get_or e 4 0 == number event.HEARTBEAT_EVENT || get_or e 4 0 == 41

-- what doesn't change in an answer: the format of its payloads and their maximum length, its checksum function, and the name of the log that was asked for
pub record Asked : Type 0 where
  pub format : Format
  pub limit : ℕ
  pub sum : List ℕ → ℕ
  pub first : List ℕ

-- An event of an answer that was taken: its payload, the bytes that the source of the log's events gave of it, the transactions that these commit,
-- and the acknowledgements that it led to. In a list of them the newest is the first.
pub record Answered : Type 0 where
  pub payload : List ℕ
  pub given : List ℕ
  pub transactions : List Committed
  pub acks : List ℕ

-- their payloads, the newest last
abbrev pub payloads_of : List Answered → List (List ℕ)
payloads_of [] = []
payloads_of (x ∷ xs) = payloads_of xs ++ x.payload ∷ []

-- the events, the newest first
abbrev pub events_of : Asked → List Answered → List Event
events_of q [] = []
events_of q (x ∷ xs) = event_in q.format x.payload ∷ events_of q xs

-- the name of the log that the newest of these events is in
abbrev pub log_of : Asked → List Event → List ℕ
log_of q past = log_name q.sum q.first past

-- their acknowledgements, the newest last
abbrev pub acks_of : List Answered → List ℕ
acks_of [] = []
acks_of (x ∷ xs) = acks_of xs ++ x.acks

-- what a filter takes of their transactions, the newest last, each in the log of the event that completed it
abbrev pub followed : Asked → Filter → List Answered → List LogTransaction
followed q f [] = []
followed q f (x ∷ xs) = followed q f xs ++ in_log (log_of q (event_in q.format x.payload ∷ events_of q xs)) (selected f x.transactions)

-- of an event that is none of a log the source gives nothing; another is pushed, and the source gives bytes of it
abbrev pub IsGiven : {E : Type 0} → Judge → Gives E → List Event → E → Event → List ℕ → List Committed → List Event → E → Bool → Type 0
IsGiven judge MayGive past source event given ts past_then source_then true = (given ≡ []) × (ts ≡ []) × (past_then ≡ past) × (source_then ≡ source)
IsGiven judge MayGive past source event given ts past_then source_then false = GivesEvents judge past (MayGive source (Some event)) (MayGive source_then (Some [])) given ts past_then

-- an event leads to its acknowledgement, or to none
abbrev pub IsAck : List ℕ → Event → List ℕ → Type 0
IsAck name event acks = (acks ≡ []) ⊎ (acks ≡ joined (acknowledgement name event ∷ []))

-- one event after the other was taken by a log of which nothing was pushed, from a source's first state on; after them the log has taken the events `past`
abbrev pub AreTaken : {E : Type 0} → Asked → Judge → Gives E → E → List Answered → List Event → E → Type 0
AreTaken q judge MayGive first [] past source = (past ≡ []) × (source ≡ first)
AreTaken q judge MayGive first (x ∷ xs) past source =
    (past_before : List Event) × (before : _) × AreTaken q judge MayGive first xs past_before before
    × IsAck (log_of q (event_in q.format x.payload ∷ events_of q xs)) (event_in q.format x.payload) x.acks
    × IsGiven judge MayGive past_before before (event_in q.format x.payload) x.given x.transactions past source (is_heartbeat (event_in q.format x.payload))

-- ---- the state

-- a stream begins with the packets of these payloads, each of which holds an event
pub record BeginsWith (q : Asked) (s : List ℕ) (ps : List (List ℕ)) (past : List Event) : Type 0 where
  pub gathered : List ℕ
  pub left : List ℕ
  pub splits : codec.SplitsInto q.limit 1 s ps gathered left
  pub good : AreGoodPayloads every q.format ps past

-- The events with which a stream begins were taken, and a sink has what a filter takes of their transactions, and their acknowledgements but those
-- that are due.
pub record HasFollowed {E S : Type 0} (q : Asked) (judge : Judge) (f : Filter) (MayGive : Gives E) (first : E) (Has : HasAnswered S) (s : List ℕ) (xs : List Answered) (past : List Event) (source : E) (due : List ℕ) (sink : S) : Type 0 where
  pub begins : BeginsWith q s (payloads_of xs) (events_of q xs)
  pub taken : AreTaken q judge MayGive first xs past source
  pub acks : List ℕ
  pub acked : acks ++ due ≡ acks_of xs
  pub has : Has sink (followed q f xs) acks

-- a sink wants what a recorder has, and whatever is like it in what no call changes
abbrev pub WantsLike : {C S : Type 0} → (C → C → Type 0) → (S → Filter → C → Type 0) → Filter → S → C → Type 0
WantsLike IsLike Expects f sink c = ExpectsLike IsLike (Expects sink f) c

-- a log has taken these events, all that was pushed is read, and its recorder keeps what a sink wants
pub record IsReady {C E S : Type 0} (IsOpen : HasOpen C) (IsLike : C → C → Type 0) (Expects : S → Filter → C → Type 0) (f : Filter) (past : List Event) (log : PushedLog C E) (sink : S) : Type 0 where
  pub after : IsAfter IsOpen log past
  pub read : left_in log ≡ []
  pub wants : WantsLike IsLike Expects f sink (recorder_in log)

-- the format and the limit of an answer
pub record IsAsked {G : Type 0} (q : Asked) (answer : AnswerEvents G) : Type 0 where
  pub format_is : format_of answer ≡ q.format
  pub limit_is : limit_of answer ≡ q.limit

-- of a server's answer the events of this stream were taken, as far as they are in `xs`
pub record IsFollowing {G C E S : Type 0} (IsOpen : HasOpen C) (IsLike : C → C → Type 0) (Expects : S → Filter → C → Type 0) (q : Asked) (judge : Judge) (f : Filter) (MayGive : Gives E) (first : E) (Has : HasAnswered S) (answer : AnswerEvents G) (log : PushedLog C E) (sink : S) (s : List ℕ) : Type 0 where
  pub xs : List Answered
  pub past : List Event
  pub asked : IsAsked q answer
  pub events : HasEvents q.sum q.first answer s (payloads_of xs) (events_of q xs)
  pub ready : IsReady IsOpen IsLike Expects f past log sink
  pub followed : HasFollowed q judge f MayGive first Has s xs past (source_of log) (due_of answer) sink

-- the same, and one more event is at hand that isn't taken
pub record HasNewest {G C E S : Type 0} (IsOpen : HasOpen C) (IsLike : C → C → Type 0) (Expects : S → Filter → C → Type 0) (q : Asked) (judge : Judge) (f : Filter) (MayGive : Gives E) (first : E) (Has : HasAnswered S) (answer : AnswerEvents G) (log : PushedLog C E) (sink : S) (s : List ℕ) : Type 0 where
  pub xs : List Answered
  pub past : List Event
  pub payload : List ℕ
  pub asked : IsAsked q answer
  pub events : HasEvents q.sum q.first answer s (payloads_of xs ++ payload ∷ []) (event_in q.format payload ∷ events_of q xs)
  pub event_is : event_of answer ≡ event_in q.format payload
  pub ready : IsReady IsOpen IsLike Expects f past log sink
  pub followed : HasFollowed q judge f MayGive first Has s xs past (source_of log) (due_of answer) sink

-- an answer of which nothing arrived
pub record BeginsAnswer {G : Type 0} (q : Asked) (answer : AnswerEvents G) : Type 0 where
  pub asked : IsAsked q answer
  pub events : HasEvents q.sum q.first answer [] [] []
  pub none_is_due : due_of answer ≡ []
