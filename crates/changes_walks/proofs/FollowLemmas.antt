-- The events of an answer, taken one by one.
use Rattle.std.proofs.Common.{◌≡◌, ◌⊎◌, ◌≤◌, ℕ, Bool, true, false, true≢false, List, [], ◌∷◌, ◌++◌, length, Option, Some, None, Result, Ok, Err, inl, inr, refl, sym, ap, subst, ◌∙◌, append_assoc}
use Rattle.std.specs.Prelude.{⊤, ◌/◌}
use Rattle.wire_packets.specs.Framing.{chunks, framings, max_chunk_len, sequence_id_after}
use Rattle.std.proofs.lemmas.List.{append-nil}
use Rattle.wire_packets.specs.CodecState as codec
use Rattle.events_frames.specs.GivenEvents.{MayBe}
use Rattle.feed_checks.specs.EventFields.{Event}
use Rattle.feed_checks.specs.declared.verdict.Verdict.{Verdict}
use Rattle.feed_checks.specs.declared.verdict.Verdict.TheVariants as verdicts
use Rattle.feed_transactions.specs.Recorders.{HasOpen}
use Rattle.feed_transactions.specs.Rules.{Judge}
use Rattle.feed_change_log.specs.declared.filter.Filter.{Filter}
use Rattle.feed_change_log.specs.PushedLogs.{left_in, recorder_in, source_of, IsAfter}
use Rattle.feed_change_log.specs.declared.pushed_log.PushedLog.{PushedLog}
use Rattle.feed_checks.specs.LogFormat.{joined}
use Rattle.feed_replication.specs.Acknowledgements.{requested_acks}
use Rattle.feed_replication.specs.AnswerEvents.{due_of, event_of, every, format_of, limit_of, name_of, payload_of, with_due_acks, GivesNext, HasEvents, HasNoName, KeepsSettings}
use Rattle.feed_replication.specs.AnswerReaders.{AreGoodPayloads}
use Rattle.feed_replication.specs.AnswerSteps.{EndsBy}
use Rattle.feed_replication.specs.Incoming.{gathered_left, received_left}
use Rattle.feed_replication.specs.Streams.{event_in}
use Rattle.feed_replication.specs.declared.answer_events.AnswerEvents.{AnswerEvents}
use Rattle.feed_replication.specs.declared.format.PayloadFormat.{PayloadFormat as Format}
use Rattle.changes_commands.specs.declared.output.Failure.{Failure}
use Rattle.changes_walks.specs.Selections.{Selected}
use Rattle.changes_walks.specs.FollowedAnswers.{acks_of, events_of, followed, in_log, log_of, payloads_of, Answered, Asked, BeginsWith, Gives, HasAnswered, HasAnswerFailure, HasFollowed, HasNewest, IsAck, IsAsked, IsFollowing, IsReady, LogTransaction}
use Rattle.changes_walks.specs.FollowedEnds.{EndsLog, EndsPackets, EndsTaking, EndsWithin, FailsAfter, FailsWithin, HasTakenAll, LacksMemory, PassesEvent, PushesEvent, Takes, TakesAll}
use Rattle.changes_walks.proofs.EventLemmas.{is_ack, long_last}
use Rattle.changes_walks.specs.declared.following.FollowEnd.{FollowEnd}
use Rattle.changes_walks.specs.declared.following.FollowEnd.TheVariants as ends

-- ---- answers

-- what was taken of an answer are packets of its stream
pub begins_of : {G : Type 0} (q : Asked) (answer : AnswerEvents G) (s : List ℕ) (ps : List (List ℕ)) (past : List Event) → IsAsked q answer → HasEvents q.sum q.first answer s ps past → BeginsWith q s ps past
begins_of q answer s ps past asked h = record {
  gathered = gathered_left answer.incoming answer.found;
  left = received_left answer.incoming answer.found;
  splits = subst (λ (n : ℕ). codec.SplitsInto n 1 s ps (gathered_left answer.incoming answer.found) (received_left answer.incoming answer.found)) asked.limit_is h.payloads.codec.reads;
  good = subst (λ (x : Format). AreGoodPayloads every x ps past) asked.format_is h.payloads.good;
}

longer : (s a b c piece : List ℕ) → s ≡ a ++ (b ++ c) → s ++ piece ≡ a ++ (b ++ (c ++ piece))
longer s a b c piece is = ap (λ (x : List ℕ). x ++ piece) is ∙ append_assoc a (b ++ c) piece ∙ ap (λ (x : List ℕ). a ++ x) (append_assoc b c piece)

-- more bytes arrived
pub begins_more : (q : Asked) (s piece : List ℕ) (ps : List (List ℕ)) (past : List Event) → BeginsWith q s ps past → BeginsWith q (s ++ piece) ps past
begins_more q s piece ps past h = record {
  gathered = h.gathered;
  left = h.left ++ piece;
  splits = record { whole = longer s (framings 1 ps) (chunks max_chunk_len (sequence_id_after 1 ps) (length h.gathered / max_chunk_len) h.gathered) h.left piece h.splits.whole; even = h.splits.even; each = h.splits.each; fits = h.splits.fits };
  good = h.good;
}

-- acknowledgements don't change what was taken of an answer
pub with_acks : {G : Type 0} (sum : List ℕ → ℕ) (first s : List ℕ) (ps : List (List ℕ)) (past : List Event) (a b : AnswerEvents G) → b ≡ with_due_acks a b.due_acks → HasEvents sum first a s ps past → HasEvents sum first b s ps past
with_acks sum first s ps past a b is h =
    subst (λ (x : AnswerEvents _). HasEvents sum first x s ps past) (sym is) (record { payloads = record { codec = h.payloads.codec; good = h.payloads.good }; name = h.name })

pub asked_acks : {G : Type 0} (q : Asked) (a b : AnswerEvents G) → b ≡ with_due_acks a b.due_acks → IsAsked q a → IsAsked q b
asked_acks q a b is h = subst (λ (x : AnswerEvents _). IsAsked q x) (sym is) (record { format_is = h.format_is; limit_is = h.limit_is })

pub asked_kept : {G : Type 0} (q : Asked) (a b : AnswerEvents G) → KeepsSettings a b → IsAsked q a → IsAsked q b
asked_kept q a b is h = record { format_is = is.format ∙ h.format_is; limit_is = is.limit ∙ h.limit_is }

-- of an answer of which nothing arrived nothing is taken
pub begins_following : {G C E S : Type 0} (IsOpen : HasOpen C) (IsLike : C → C → Type 0) (Expects : S → Filter → C → Type 0) (q : Asked) (judge : Judge) (f : Filter) (MayGive : Gives E) (Has : HasAnswered S) (answer : AnswerEvents G) (log : PushedLog C E) (sink : S)
    → IsAsked q answer → HasEvents q.sum q.first answer [] [] [] → due_of answer ≡ [] → IsReady IsOpen IsLike Expects f [] log sink → Has sink [] [] → IsFollowing IsOpen IsLike Expects q judge f MayGive (source_of log) Has answer log sink []
begins_following IsOpen IsLike Expects q judge f MayGive Has answer log sink asked events none ready has = record {
  xs = [];
  past = [];
  asked = asked;
  events = events;
  ready = ready;
  followed = record { begins = begins_of q answer [] [] [] asked events; taken = (refl, refl); acks = []; acked = none; has = has };
}

-- ---- an event

module _ {G C E S : Type 0} (IsOpen : HasOpen C) (IsLike : C → C → Type 0) (Expects : S → Filter → C → Type 0) (q : Asked) (judge : Judge) (f : Filter) (MayGive : Gives E) (first : E) (Has : HasAnswered S) (answer : AnswerEvents G) (log : PushedLog C E) (sink : S) (s : List ℕ) (h : HasNewest IsOpen IsLike Expects q judge f MayGive first Has answer log sink s) (name : List ℕ) (event : Event) (named : name ≡ name_of answer) (newest : event ≡ event_of answer) where
  name_is : name ≡ log_of q (event_in q.format h.payload ∷ events_of q h.xs)
  name_is = named ∙ h.events.name

  event_is : event ≡ event_in q.format h.payload
  event_is = newest ∙ h.event_is

  begins : BeginsWith q s (payloads_of h.xs ++ h.payload ∷ []) (event_in q.format h.payload ∷ events_of q h.xs)
  begins = begins_of q answer s (payloads_of h.xs ++ h.payload ∷ []) (event_in q.format h.payload ∷ events_of q h.xs) h.asked h.events

  module _ (log_then : PushedLog C E) (sink_then : S) where
    module _ (HasFailed : HasAnswerFailure S) (sink_pushed : S) (u : ⊤) (pushes : PushesEvent IsOpen IsLike Expects judge f MayGive Has HasFailed name event (followed q f h.xs) h.followed.acks h.past log log_then sink_pushed (Ok u)) where
      p : PassesEvent IsOpen IsLike Expects judge f MayGive Has name event (followed q f h.xs) h.followed.acks h.past (source_of log) log_then sink_pushed
      unfolding PushesEvent
      p = pushes

      passed : PassesEvent IsOpen IsLike Expects judge f MayGive Has (log_of q (event_in q.format h.payload ∷ events_of q h.xs)) (event_in q.format h.payload) (followed q f h.xs) h.followed.acks h.past (source_of log) log_then sink_pushed
      passed =
          subst (λ (x : Event). PassesEvent IsOpen IsLike Expects judge f MayGive Has (log_of q (event_in q.format h.payload ∷ events_of q h.xs)) x (followed q f h.xs) h.followed.acks h.past (source_of log) log_then sink_pushed) event_is
          (subst (λ (x : List ℕ). PassesEvent IsOpen IsLike Expects judge f MayGive Has x event (followed q f h.xs) h.followed.acks h.past (source_of log) log_then sink_pushed) name_is p)

      -- it was taken, and led to these acknowledgements
      followed_more : (acks due : List ℕ) → due ≡ due_of answer ++ acks → IsAck (log_of q (event_in q.format h.payload ∷ events_of q h.xs)) (event_in q.format h.payload) acks → ((l : List LogTransaction) (a : List ℕ) → Has sink_pushed l a → Has sink_then l a)
          → HasFollowed q judge f MayGive first Has s (record { payload = h.payload; given = passed.given; transactions = passed.transactions; acks = acks } ∷ h.xs) passed.past_then (source_of log_then) due sink_then
      followed_more acks due is ack keeps = record {
        begins = begins;
        taken = (h.past, source_of log, h.followed.taken, ack, passed.gives);
        acks = h.followed.acks;
        acked = ap (λ (x : List ℕ). h.followed.acks ++ x) is ∙ sym (append_assoc h.followed.acks (due_of answer) acks) ∙ ap (λ (x : List ℕ). x ++ acks) h.followed.acked;
        has = keeps _ h.followed.acks passed.has;
      }

      pub takes_event : (answer_then : AnswerEvents G) → answer_then ≡ with_due_acks answer answer_then.due_acks → (19 ≤ length (event_of answer) → due_of answer_then ≡ due_of answer ++ joined (requested_acks (format_of answer) (name_of answer) (payload_of answer ∷ [])))
          → ((l : List LogTransaction) (a : List ℕ) → Has sink_pushed l a → Has sink_then l a) → ((c : C) → Expects sink_pushed f c → Expects sink_then f c)
          → (v : ⊤) → Takes IsOpen IsLike Expects q judge f MayGive first Has HasFailed answer_then log_then sink_then s (Ok v)
      unfolding Takes
      takes_event answer_then kept is keeps wants v =
          let long : 19 ≤ length (event_of answer) = subst (λ (x : Event). 19 ≤ length x) (sym h.event_is) (subst (λ (x : Format). 19 ≤ length (event_in x h.payload)) h.asked.format_is (long_last (format_of answer) (payloads_of h.xs) h.payload h.events.payloads.good.each)) in
          let acks = joined (requested_acks (format_of answer) (name_of answer) (payload_of answer ∷ [])) in
          let ack = is_ack (format_of answer) (name_of answer) (payload_of answer) (event_of answer) refl long in
          let ack_of = subst (λ (x : Event). IsAck (log_of q (event_in q.format h.payload ∷ events_of q h.xs)) x acks) h.event_is (subst (λ (x : List ℕ). IsAck x (event_of answer) acks) h.events.name ack) in
          record {
            xs = record { payload = h.payload; given = passed.given; transactions = passed.transactions; acks = acks } ∷ h.xs;
            past = passed.past_then;
            asked = asked_acks q answer answer_then kept h.asked;
            events = with_acks q.sum q.first s (payloads_of h.xs ++ h.payload ∷ []) (event_in q.format h.payload ∷ events_of q h.xs) answer answer_then kept h.events;
            ready = record { after = passed.ready.after; read = passed.ready.read; wants = λ made stays. wants made (passed.ready.wants made stays) };
            followed = followed_more acks (due_of answer_then) (is long) ack_of keeps;
          }

      -- memory ran out for its acknowledgement
      pub lacks_ack : (answer_then : AnswerEvents G) → due_of answer_then ≡ due_of answer → ((l : List LogTransaction) (a : List ℕ) → Has sink_pushed l a → Has sink_then l a) → Takes IsOpen IsLike Expects q judge f MayGive first Has HasFailed answer_then log_then sink_then s (Err ends.Memory)
      unfolding EndsTaking Takes
      lacks_ack answer_then is keeps = record { xs = _; past = passed.past_then; followed = followed_more [] (due_of answer_then) (is ∙ sym (append-nil (due_of answer))) (inl refl) keeps }

    -- it wasn't taken
    pub ends_taking : (HasFailed : HasAnswerFailure S) (end : FollowEnd) → PushesEvent IsOpen IsLike Expects judge f MayGive Has HasFailed name event (followed q f h.xs) h.followed.acks h.past log log_then sink_then (Err end) → Takes IsOpen IsLike Expects q judge f MayGive first Has HasFailed answer log_then sink_then s (Err end)
    unfolding PushesEvent EndsTaking Takes
    ends_taking HasFailed ends.Fault p = record {
      xs = h.xs;
      past = h.past;
      source = source_of log;
      payload = h.payload;
      start = h.followed.begins;
      begins = begins;
      taken = h.followed.taken;
      acks = h.followed.acks;
      acked = h.followed.acked;
      ends =
          subst (λ (x : Event). EndsWithin judge f MayGive Has (log_of q (event_in q.format h.payload ∷ events_of q h.xs)) x (followed q f h.xs) h.followed.acks h.past (source_of log) sink_then) event_is
          (subst (λ (x : List ℕ). EndsWithin judge f MayGive Has x event (followed q f h.xs) h.followed.acks h.past (source_of log) sink_then) name_is p);
    }
    ends_taking HasFailed (ends.Failed e) p = record {
      xs = h.xs;
      past = h.past;
      source = source_of log;
      begins = h.followed.begins;
      taken = h.followed.taken;
      acks = h.followed.acks;
      due = due_of answer;
      acked = h.followed.acked;
      fails = inr (
        h.payload,
        begins,
        inl (
            subst (λ (x : Event). FailsWithin judge f MayGive HasFailed (log_of q (event_in q.format h.payload ∷ events_of q h.xs)) x (followed q f h.xs) h.followed.acks h.past (source_of log) log_then sink_then e) event_is
            (subst (λ (x : List ℕ). FailsWithin judge f MayGive HasFailed x event (followed q f h.xs) h.followed.acks h.past (source_of log) log_then sink_then e) name_is p)),
      );
    }
    ends_taking HasFailed ends.Memory p = record {
      xs = h.xs;
      past = h.past;
      followed = subst (λ (x : E). HasFollowed q judge f MayGive first Has s h.xs h.past x (due_of answer) sink_then) (sym p.1)
          (record { begins = h.followed.begins; taken = h.followed.taken; acks = h.followed.acks; acked = h.followed.acked; has = p.0 });
    }
    ends_taking HasFailed ends.Ended p = absurd p
    ends_taking HasFailed ends.Cut p = absurd p
    ends_taking HasFailed ends.Unread p = absurd p
    ends_taking HasFailed (ends.Packet v) p = absurd p

-- ---- packets

module _ {G C E S : Type 0} (IsOpen : HasOpen C) (IsLike : C → C → Type 0) (Expects : S → Filter → C → Type 0) (q : Asked) (judge : Judge) (f : Filter) (MayGive : Gives E) (first : E) (Has : HasAnswered S) (old answer : AnswerEvents G) (log : PushedLog C E) (sink : S) (s : List ℕ) (h : IsFollowing IsOpen IsLike Expects q judge f MayGive first Has old log sink s) (kept : KeepsSettings old answer) where
  asked : IsAsked q answer
  asked = asked_kept q old answer kept h.asked

  due_kept : HasFollowed q judge f MayGive first Has s h.xs h.past (source_of log) (due_of answer) sink
  due_kept = subst (λ (x : List ℕ). HasFollowed q judge f MayGive first Has s h.xs h.past (source_of log) x sink) (sym kept.due_acks) h.followed

  -- the next event is at hand
  pub newest_of : (b : Bool) → b ≡ true → GivesNext q.sum q.first answer s (payloads_of h.xs) (events_of q h.xs) (Ok b) → HasNewest IsOpen IsLike Expects q judge f MayGive first Has answer log sink s
  newest_of false is n = absurd (true≢false (sym is))
  newest_of true is n = record {
    xs = h.xs;
    past = h.past;
    payload = n.0;
    asked = asked;
    events = subst (λ (x : Format). HasEvents q.sum q.first answer s (payloads_of h.xs ++ n.0 ∷ []) (event_in x n.0 ∷ events_of q h.xs)) asked.format_is n.2;
    event_is = n.1 ∙ ap (λ (x : Format). event_in x n.0) asked.format_is;
    ready = h.ready;
    followed = due_kept;
  }

  module _ (HasFailed : HasAnswerFailure S) where
    -- none is
    pub taken_all : (b : Bool) → b ≡ false → GivesNext q.sum q.first answer s (payloads_of h.xs) (events_of q h.xs) (Ok b) → (u : ⊤) → TakesAll IsOpen IsLike Expects q judge f MayGive first Has HasFailed answer log sink s (Ok u)
    unfolding TakesAll
    taken_all true is n u = absurd (true≢false is)
    taken_all false is n u = record {
      following = record { xs = h.xs; past = h.past; asked = asked; events = n.0; ready = h.ready; followed = due_kept };
      halts = subst (λ (x : ℕ). codec.Halts x 1 (payloads_of h.xs) (gathered_left answer.incoming answer.found) (received_left answer.incoming answer.found) None) asked.limit_is n.1;
    }

    why_of : (v : Verdict) → GivesNext q.sum q.first answer s (payloads_of h.xs) (events_of q h.xs) (Err v) → EndsBy every q.format q.limit s (payloads_of h.xs) (events_of q h.xs) v ⊎ HasNoName q.sum (event_of answer) v
    why_of v (inl n) = inl (subst (λ (x : Format). EndsBy every x q.limit s (payloads_of h.xs) (events_of q h.xs) v) asked.format_is (subst (λ (x : ℕ). EndsBy every (format_of answer) x s (payloads_of h.xs) (events_of q h.xs) v) asked.limit_is n))
    why_of v (inr n) = inr n

    -- the answer ends
    pub ends_packets : (v : Verdict) → GivesNext q.sum q.first answer s (payloads_of h.xs) (events_of q h.xs) (Err v) → TakesAll IsOpen IsLike Expects q judge f MayGive first Has HasFailed answer log sink s (Err (ends.Packet v))
    unfolding EndsTaking TakesAll
    ends_packets v n = record { xs = h.xs; past = h.past; followed = due_kept; why = why_of v n }

    pub ends_answer : (v : Verdict) → v ≡ verdicts.End → GivesNext q.sum q.first answer s (payloads_of h.xs) (events_of q h.xs) (Err v) → TakesAll IsOpen IsLike Expects q judge f MayGive first Has HasFailed answer log sink s (Err ends.Ended)
    unfolding EndsTaking TakesAll
    ends_answer v is n = record { xs = h.xs; past = h.past; followed = due_kept; why = why_of verdicts.End (subst (λ (x : Verdict). GivesNext q.sum q.first answer s (payloads_of h.xs) (events_of q h.xs) (Err x)) is n) }

module _ {G C E S : Type 0} (IsOpen : HasOpen C) (IsLike : C → C → Type 0) (Expects : S → Filter → C → Type 0) (q : Asked) (judge : Judge) (f : Filter) (MayGive : Gives E) (first : E) (Has : HasAnswered S) (HasFailed : HasAnswerFailure S) (answer : AnswerEvents G) (log : PushedLog C E) (sink : S) (s : List ℕ) where
  -- memory ran out
  pub lacks_memory : IsFollowing IsOpen IsLike Expects q judge f MayGive first Has answer log sink s → TakesAll IsOpen IsLike Expects q judge f MayGive first Has HasFailed answer log sink s (Err ends.Memory)
  unfolding EndsTaking TakesAll
  lacks_memory h = record { xs = h.xs; past = h.past; followed = h.followed }

  pub ends_all : (end : FollowEnd) → Takes IsOpen IsLike Expects q judge f MayGive first Has HasFailed answer log sink s (Err end) → TakesAll IsOpen IsLike Expects q judge f MayGive first Has HasFailed answer log sink s (Err end)
  unfolding Takes TakesAll
  ends_all end h = h

  pub following_of : (u : ⊤) → Takes IsOpen IsLike Expects q judge f MayGive first Has HasFailed answer log sink s (Ok u) → IsFollowing IsOpen IsLike Expects q judge f MayGive first Has answer log sink s
  unfolding Takes
  following_of u h = h
