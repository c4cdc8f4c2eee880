-- What a follower's inner loop wrote and returned, packet by packet.
use Rattle.std.specs.Prelude.{◌≡◌, ℕ, List, ◌++◌, Option, Some, None}
use Rattle.std.specs.Io.KnownBytes.{Appends}
use Rattle.wire_packets.specs.CodecState as codec
use Rattle.feed_checks.specs.declared.verdict.Verdict.{Verdict}
use Rattle.feed_checks.specs.declared.verdict.Verdict.TheVariants as verdicts
use Rattle.feed_checks.specs.EventFields.{Event}
use Rattle.feed_transactions.specs.Rules.{Rules}
use Rattle.feed_transactions.specs.TransactionTexts.{texts_of}
use Rattle.feed_checks.specs.LogFormat.{joined}
use Rattle.feed_replication.specs.declared.follower.Follower.{Follower}
use Rattle.feed_replication.specs.declared.format.PayloadFormat.{PayloadFormat as Format}
use Rattle.feed_replication.specs.Streams.{stream_transactions, stream_texts, stream_verdict}
use Rattle.feed_replication.specs.Acknowledgements.{requested_acks, acknowledgements}
use Rattle.feed_replication.specs.ResumePositions.{position_after}
use Rattle.feed_replication.specs.AnswerReaders.{shown_in}
use Rattle.feed_replication.specs.Following.{limit_of, name_of, asked_position_of, next_position_of, due_of, HasTaken, AddsAllDue, AddsSomeDue}

-- the texts of these transactions
abbrev pub texts_in : Rules → List Event → List (List ℕ)
texts_in r past = texts_of (shown_in r past)

-- the state before the call: the texts and the acknowledgements of the events taken, what the writer had, and what was due
pub record CallStart : Type 0 where
  pub texts : List (List ℕ)
  pub acknowledged : List (List ℕ)
  pub written : Option (List ℕ)
  pub due_acks : List ℕ

-- the same for a follower that had taken these payloads
abbrev pub call_start : {F : Type 0} → Rules → Format → Follower F → List (List ℕ) → List Event → Option (List ℕ) → CallStart
call_start r format f ps past written = record { texts = texts_in r past; acknowledged = requested_acks format (name_of f) ps; written = written; due_acks = due_of f }

-- the follower has taken further payloads: the texts of their events were written, and their acknowledgements are due
pub record Advanced {F : Type 0} (r : Rules) (format : Format) (f : Follower F) (s : List ℕ) (o : CallStart) (new : Option (List ℕ)) : Type 0 where
  pub payloads : List (List ℕ)
  pub past : List Event
  pub taken : HasTaken r format f s payloads past
  pub texts : List (List ℕ)
  pub all : texts_in r past ≡ o.texts ++ texts
  pub written : Appends o.written new (joined texts)
  pub acknowledged : AddsAllDue o.acknowledged (requested_acks format (name_of f) payloads) o.due_acks (due_of f)

-- it went on until no complete packet was left
pub record Drained {F : Type 0} (r : Rules) (format : Format) (f : Follower F) (s : List ℕ) (o : CallStart) (new : Option (List ℕ)) : Type 0 where
  pub gone : Advanced r format f s o new
  pub halts : codec.Halts (limit_of f) 1 gone.payloads f.answer.incoming.gathered.items f.answer.incoming.received.items None

-- it reached a verdict: the texts and acknowledgements from before the call and the rest are all those of the stream, whatever bytes follow
pub record EndsWith {F : Type 0} (r : Rules) (format : Format) (limit : ℕ) (f : Follower F) (s : List ℕ) (o : CallStart) (new : Option (List ℕ)) (v : Verdict) : Type 0 where
  pub position_is : next_position_of f ≡ position_after r format limit s (asked_position_of f)
  pub rest : List (List ℕ)
  pub written : Appends o.written new (joined rest)
  pub all : stream_texts r format limit s ≡ o.texts ++ rest
  pub transactions_stay : (more : List ℕ) → stream_transactions r format limit (s ++ more) ≡ stream_transactions r format limit s
  pub verdict_is : (more : List ℕ) → stream_verdict r format limit (s ++ more) ≡ v
  pub acknowledged : AddsAllDue o.acknowledged (acknowledgements r format limit (name_of f) s) o.due_acks (due_of f)
  pub acknowledgements_stay : (more : List ℕ) → acknowledgements r format limit (name_of f) (s ++ more) ≡ acknowledgements r format limit (name_of f) s

-- out of memory: the first few transactions were written
pub record OutOfMemory {F : Type 0} (r : Rules) (format : Format) (limit : ℕ) (f : Follower F) (s : List ℕ) (o : CallStart) (new : Option (List ℕ)) : Type 0 where
  pub some : List (List ℕ)
  pub more : List (List ℕ)
  pub written : Appends o.written new (joined some)
  pub all : stream_texts r format limit s ≡ (o.texts ++ some) ++ more
  pub acknowledged : AddsSomeDue o.acknowledged (acknowledgements r format limit (name_of f) s) o.due_acks (due_of f)

-- the writer failed within a transaction
pub record WriterFailed {F : Type 0} (r : Rules) (format : Format) (limit : ℕ) (f : Follower F) (s : List ℕ) (o : CallStart) (new : Option (List ℕ)) : Type 0 where
  pub text : List ℕ
  pub more : List ℕ
  pub written : Appends o.written new text
  pub prefix : joined (stream_texts r format limit s) ≡ joined o.texts ++ (text ++ more)
  pub acknowledged : AddsSomeDue o.acknowledged (acknowledgements r format limit (name_of f) s) o.due_acks (due_of f)

-- the result of a call, for a follower with this limit
abbrev pub Advances : {F : Type 0} → Rules → Format → ℕ → Follower F → List ℕ → CallStart → Option (List ℕ) → Option Verdict → Type 0
Advances r format limit f s o new None = Drained r format f s o new
Advances r format limit f s o new (Some verdicts.Memory) = OutOfMemory r format limit f s o new
Advances r format limit f s o new (Some verdicts.Write) = WriterFailed r format limit f s o new
Advances r format limit f s o new (Some v) = EndsWith r format limit f s o new v
