-- What the sink of an answer writes out.
use Rattle.std.proofs.Common.{◌≡◌, ◌⊎◌, ℕ, Bool, true, false, true≢false, List, [], ◌∷◌, ◌++◌, Option, Some, None, Result, Ok, Err, inl, inr, refl, sym, ap, subst, ◌∙◌, append_assoc}
use Rattle.std.specs.Prelude.{⊤}
use Rattle.std.proofs.lemmas.List.{append-nil}
use Rattle.wire_packets.specs.CodecState as codec
use Rattle.feed_checks.specs.EventFields.{Event}
use Rattle.feed_checks.specs.declared.verdict.Verdict.{Verdict}
use Rattle.feed_checks.specs.declared.verdict.Verdict.TheVariants as verdicts
use Rattle.feed_transactions.specs.Recorders.{HasOpen}
use Rattle.feed_transactions.specs.Rules.{Judge}
use Rattle.feed_change_log.specs.declared.filter.Filter.{Filter}
use Rattle.feed_change_log.specs.PushedLogs.{recorder_in, source_of}
use Rattle.feed_change_log.specs.declared.pushed_log.PushedLog.{PushedLog}
use Rattle.feed_replication.specs.AnswerEvents.{due_of, event_of, every, with_due_acks, HasEvents, HasNoName, KeepsSettings}
use Rattle.feed_replication.specs.AnswerSteps.{EndsBy}
use Rattle.feed_replication.specs.Streams.{event_in}
use Rattle.feed_replication.specs.Incoming.{gathered_left, received_left}
use Rattle.feed_replication.specs.declared.answer_events.AnswerEvents.{AnswerEvents}
use Rattle.changes_commands.specs.declared.output.Failure.{Failure}
use Rattle.changes_walks.specs.Selections.{Selected}
use Rattle.changes_walks.specs.FollowedAnswers.{acks_of, events_of, followed, in_log, log_of, payloads_of, Answered, Asked, Gives, HasAnswered, HasAnswerFailure, HasFollowed, IsFollowing, LogTransaction}
use Rattle.changes_walks.specs.FollowedEnds.{is_failed, EndsLog, EndsPackets, EndsTaking, FailsAfter, HasTakenAll, LacksMemory, TakesAll, TakesPiece}
use Rattle.changes_walks.proofs.FollowLemmas.{asked_acks, asked_kept, begins_more, begins_of, with_acks}
use Rattle.changes_walks.proofs.PushLemmas.{passes_map}
use Rattle.changes_walks.specs.declared.following.FollowEnd.{FollowEnd}
use Rattle.changes_walks.specs.declared.following.FollowEnd.TheVariants as ends

-- ---- bytes that arrive

module _ {G C E S : Type 0} (IsOpen : HasOpen C) (IsLike : C → C → Type 0) (Expects : S → Filter → C → Type 0) (q : Asked) (judge : Judge) (f : Filter) (MayGive : Gives E) (first : E) (Has : HasAnswered S) (old answer : AnswerEvents G) (log : PushedLog C E) (sink : S) (s piece : List ℕ) (h : IsFollowing IsOpen IsLike Expects q judge f MayGive first Has old log sink s) (kept : KeepsSettings old answer) where
  -- they were kept
  pub received : HasEvents q.sum q.first answer (s ++ piece) (payloads_of h.xs) (events_of q h.xs) → IsFollowing IsOpen IsLike Expects q judge f MayGive first Has answer log sink (s ++ piece)
  received events = record {
    xs = h.xs;
    past = h.past;
    asked = asked_kept q old answer kept h.asked;
    events = events;
    ready = h.ready;
    followed = record {
      begins = begins_more q s piece (payloads_of h.xs) (events_of q h.xs) h.followed.begins;
      taken = h.followed.taken;
      acks = h.followed.acks;
      acked = ap (λ (x : List ℕ). h.followed.acks ++ x) kept.due_acks ∙ h.followed.acked;
      has = h.followed.has;
    };
  }

  -- memory ran out for them
  pub lacks_bytes : (HasFailed : HasAnswerFailure S) (IsWritten : S → Type 0) → IsWritten sink → TakesPiece IsOpen IsLike Expects q judge f MayGive first Has HasFailed IsWritten answer log sink (s ++ piece) (Err ends.Memory)
  unfolding EndsTaking TakesPiece
  lacks_bytes HasFailed IsWritten written = (
    record {
      xs = h.xs;
      past = h.past;
      followed = record {
        begins = begins_more q s piece (payloads_of h.xs) (events_of q h.xs) h.followed.begins;
        taken = h.followed.taken;
        acks = h.followed.acks;
        acked = ap (λ (x : List ℕ). h.followed.acks ++ x) kept.due_acks ∙ h.followed.acked;
        has = h.followed.has;
      };
    },
    written,
  )

-- ---- what is written out

-- the sink failed before
pub fails_before : {G C E S : Type 0} (IsOpen : HasOpen C) (IsLike : C → C → Type 0) (Expects : S → Filter → C → Type 0) (q : Asked) (judge : Judge) (f : Filter) (MayGive : Gives E) (first : E) (Has : HasAnswered S) (HasFailed : HasAnswerFailure S) (IsWritten : S → Type 0) (answer : AnswerEvents G) (log : PushedLog C E) (sink : S) (s : List ℕ) (r : Result ⊤ FollowEnd) → is_failed r ≡ true → TakesAll IsOpen IsLike Expects q judge f MayGive first Has HasFailed answer log sink s r → TakesPiece IsOpen IsLike Expects q judge f MayGive first Has HasFailed IsWritten answer log sink s r
unfolding EndsTaking TakesAll TakesPiece
fails_before IsOpen IsLike Expects q judge f MayGive first Has HasFailed IsWritten answer log sink s (Err (ends.Failed e)) is h = h
fails_before IsOpen IsLike Expects q judge f MayGive first Has HasFailed IsWritten answer log sink s (Ok u) is h = absurd (true≢false (sym is))
fails_before IsOpen IsLike Expects q judge f MayGive first Has HasFailed IsWritten answer log sink s (Err ends.Ended) is h = absurd (true≢false (sym is))
fails_before IsOpen IsLike Expects q judge f MayGive first Has HasFailed IsWritten answer log sink s (Err (ends.Packet v)) is h = absurd (true≢false (sym is))
fails_before IsOpen IsLike Expects q judge f MayGive first Has HasFailed IsWritten answer log sink s (Err ends.Fault) is h = absurd (true≢false (sym is))
fails_before IsOpen IsLike Expects q judge f MayGive first Has HasFailed IsWritten answer log sink s (Err ends.Memory) is h = absurd (true≢false (sym is))
fails_before IsOpen IsLike Expects q judge f MayGive first Has HasFailed IsWritten answer log sink s (Err ends.Cut) is h = absurd (true≢false (sym is))
fails_before IsOpen IsLike Expects q judge f MayGive first Has HasFailed IsWritten answer log sink s (Err ends.Unread) is h = absurd (true≢false (sym is))

module _ {G C E S : Type 0} (IsOpen : HasOpen C) (IsLike : C → C → Type 0) (Expects : S → Filter → C → Type 0) (q : Asked) (judge : Judge) (f : Filter) (MayGive : Gives E) (first : E) (Has : HasAnswered S) (HasFailed : HasAnswerFailure S) (IsWritten : S → Type 0) (answer new : AnswerEvents G) (log : PushedLog C E) (sink sink_then : S) (s : List ℕ) (due : List ℕ) (due_is : due ≡ due_of answer) (kept : new ≡ with_due_acks answer new.due_acks) where
  why_new : (ps : List (List ℕ)) (past : List Event) (v : Verdict) → EndsBy every q.format q.limit s ps past v ⊎ HasNoName q.sum (event_of answer) v → EndsBy every q.format q.limit s ps past v ⊎ HasNoName q.sum (event_of new) v
  why_new ps past v (inl n) = inl n
  why_new ps past v (inr n) = inr (subst (λ (x : AnswerEvents G). HasNoName q.sum (event_of x) v) (sym kept) n)

  -- the sink failed at it
  pub fails_writing : (r : Result ⊤ FollowEnd) → is_failed r ≡ false → TakesAll IsOpen IsLike Expects q judge f MayGive first Has HasFailed answer log sink s r → (e : Failure) → ((l : List LogTransaction) (a : List ℕ) → Has sink l a → HasFailed sink_then l a e) → TakesPiece IsOpen IsLike Expects q judge f MayGive first Has HasFailed IsWritten new log sink_then s (Err (ends.Failed e))
  unfolding EndsTaking TakesAll TakesPiece
  fails_writing (Ok u) not h e fails = record { xs = h.following.xs; past = h.following.past; source = source_of log; begins = h.following.followed.begins; taken = h.following.followed.taken; acks = h.following.followed.acks; due = due_of answer; acked = h.following.followed.acked; fails = inl (fails _ h.following.followed.acks h.following.followed.has) }
  fails_writing (Err ends.Ended) not h e fails = record { xs = h.xs; past = h.past; source = source_of log; begins = h.followed.begins; taken = h.followed.taken; acks = h.followed.acks; due = due_of answer; acked = h.followed.acked; fails = inl (fails _ h.followed.acks h.followed.has) }
  fails_writing (Err (ends.Packet v)) not h e fails = record { xs = h.xs; past = h.past; source = source_of log; begins = h.followed.begins; taken = h.followed.taken; acks = h.followed.acks; due = due_of answer; acked = h.followed.acked; fails = inl (fails _ h.followed.acks h.followed.has) }
  fails_writing (Err ends.Memory) not h e fails = record { xs = h.xs; past = h.past; source = source_of log; begins = h.followed.begins; taken = h.followed.taken; acks = h.followed.acks; due = due_of answer; acked = h.followed.acked; fails = inl (fails _ h.followed.acks h.followed.has) }
  fails_writing (Err ends.Fault) not h e fails = record {
    xs = h.xs;
    past = h.past;
    source = h.source;
    begins = h.start;
    taken = h.taken;
    acks = h.acks;
    due = due_of answer;
    acked = h.acked;
    fails = inr (
      h.payload,
      h.begins,
      inr (record {
        of_log = h.ends.of_log;
        bytes = h.ends.bytes;
        given = h.ends.given;
        verdict = h.ends.verdict;
        last = h.ends.last;
        passes = passes_map judge f h.past h.ends.bytes (λ (x : S) (m : List Selected). Has x (followed q f h.xs ++ in_log (log_of q (event_in q.format h.payload ∷ events_of q h.xs)) m) h.acks) (λ (x : S) (m : List Selected). HasFailed x (followed q f h.xs ++ in_log (log_of q (event_in q.format h.payload ∷ events_of q h.xs)) m) h.acks e) sink sink_then h.ends.last (λ m has. fails _ h.acks has) h.ends.verdict h.ends.passes;
      }),
    );
  }
  fails_writing (Err (ends.Failed x)) not h e fails = absurd (true≢false not)
  fails_writing (Err ends.Cut) not h e fails = absurd h
  fails_writing (Err ends.Unread) not h e fails = absurd h

  module _ (none : due_of new ≡ []) (adds : (l : List LogTransaction) (a : List ℕ) → Has sink l a → Has sink_then l (a ++ due)) where
    followed_written : (xs : List Answered) (past : List Event) → HasFollowed q judge f MayGive first Has s xs past (source_of log) (due_of answer) sink → HasFollowed q judge f MayGive first Has s xs past (source_of log) (due_of new) sink_then
    followed_written xs past h = record {
      begins = h.begins;
      taken = h.taken;
      acks = h.acks ++ due;
      acked = ap (λ (x : List ℕ). (h.acks ++ due) ++ x) none ∙ append-nil (h.acks ++ due) ∙ ap (λ (x : List ℕ). h.acks ++ x) due_is ∙ h.acked;
      has = adds _ h.acks h.has;
    }

    pub writes_out : (r : Result ⊤ FollowEnd) → is_failed r ≡ false → TakesAll IsOpen IsLike Expects q judge f MayGive first Has HasFailed answer log sink s r → ((c : C) → Expects sink f c → Expects sink_then f c) → IsWritten sink_then → TakesPiece IsOpen IsLike Expects q judge f MayGive first Has HasFailed IsWritten new log sink_then s r
    unfolding EndsTaking TakesAll TakesPiece
    writes_out (Ok u) not h wants written = (
      record {
        following = record {
          xs = h.following.xs;
          past = h.following.past;
          asked = asked_acks q answer new kept h.following.asked;
          events = with_acks q.sum q.first s (payloads_of h.following.xs) (events_of q h.following.xs) answer new kept h.following.events;
          ready = record { after = h.following.ready.after; read = h.following.ready.read; wants = λ made stays. wants made (h.following.ready.wants made stays) };
          followed = followed_written h.following.xs h.following.past h.following.followed;
        };
        halts = subst (λ (x : AnswerEvents G). codec.Halts q.limit 1 (payloads_of h.following.xs) (gathered_left x.incoming x.found) (received_left x.incoming x.found) None) (sym kept) h.halts;
      },
      written,
    )
    writes_out (Err ends.Ended) not h wants written = (record { xs = h.xs; past = h.past; followed = followed_written h.xs h.past h.followed; why = why_new (payloads_of h.xs) (events_of q h.xs) verdicts.End h.why }, written)
    writes_out (Err (ends.Packet v)) not h wants written = (record { xs = h.xs; past = h.past; followed = followed_written h.xs h.past h.followed; why = why_new (payloads_of h.xs) (events_of q h.xs) v h.why }, written)
    writes_out (Err ends.Fault) not h wants written = (
      record {
        xs = h.xs;
        past = h.past;
        source = h.source;
        payload = h.payload;
        start = h.start;
        begins = h.begins;
        taken = h.taken;
        acks = h.acks ++ due;
        acked = ap (λ (x : List ℕ). (h.acks ++ due) ++ x) none ∙ append-nil (h.acks ++ due) ∙ ap (λ (x : List ℕ). h.acks ++ x) due_is ∙ h.acked;
        ends = record {
          of_log = h.ends.of_log;
          bytes = h.ends.bytes;
          given = h.ends.given;
          verdict = h.ends.verdict;
          last = h.ends.last;
          passes = passes_map judge f h.past h.ends.bytes (λ (x : S) (m : List Selected). Has x (followed q f h.xs ++ in_log (log_of q (event_in q.format h.payload ∷ events_of q h.xs)) m) h.acks) (λ (x : S) (m : List Selected). Has x (followed q f h.xs ++ in_log (log_of q (event_in q.format h.payload ∷ events_of q h.xs)) m) (h.acks ++ due)) sink sink_then h.ends.last (λ m has. adds _ h.acks has) h.ends.verdict h.ends.passes;
        };
      },
      written,
    )
    writes_out (Err ends.Memory) not h wants written = (record { xs = h.xs; past = h.past; followed = followed_written h.xs h.past h.followed }, written)
    writes_out (Err (ends.Failed e)) not h wants written = absurd (true≢false not)
    writes_out (Err ends.Cut) not h wants written = absurd h
    writes_out (Err ends.Unread) not h wants written = absurd h
