-- What the calls on the reader of an answer do, packet by packet.
use Rattle.std.specs.Prelude.{◌≡◌, ℕ, List, [], ◌∷◌, ◌++◌, Option, Some, None, Result, Ok, Err}
use Rattle.wire_packets.specs.CodecState as codec
use Rattle.feed_checks.specs.declared.verdict.Verdict.{Verdict}
use Rattle.feed_checks.specs.declared.verdict.Verdict.TheVariants as verdicts
use Rattle.feed_checks.specs.EventFields.{Event, log_pos_of}
use Rattle.feed_checks.specs.LogFormat.{joined}
use Rattle.feed_transactions.specs.Changes.{committed_by}
use Rattle.feed_transactions.specs.FeedSteps.{HasShown}
use Rattle.feed_transactions.specs.ReportLaws.{in_log_order}
use Rattle.feed_transactions.specs.Recorders.{HasOpen, HasDone}
use Rattle.feed_transactions.specs.Rules.{Rules, good}
use Rattle.feed_replication.specs.declared.format.PayloadFormat.{PayloadFormat as Format}
use Rattle.feed_replication.specs.Streams.{event_in, stream_events, stream_verdict}
use Rattle.feed_replication.specs.Acknowledgements.{is_ack_requested, requested_acks, acknowledgements}
use Rattle.feed_replication.specs.AnswerReaders.{limit_of, name_of, due_of, recorder_in, HasTaken}
use Rattle.feed_replication.specs.declared.answer_reader.AnswerReader.{AnswerReader}
use Rattle.feed_replication.specs.declared.answer_reader.TakenEvent.{TakenEvent}

-- The events of a stream up to its first fault are these, the newest first; it acknowledges what their payloads ask for, and has this verdict.
pub record Yields (r : Rules) (format : Format) (limit : ℕ) (s : List ℕ) (ps : List (List ℕ)) (past : List Event) (v : Verdict) : Type 0 where
  pub events : good r (stream_events format limit s) ≡ in_log_order past []
  pub acknowledged : (name : List ℕ) → acknowledgements r format limit name s ≡ requested_acks format name ps
  pub verdict : stream_verdict r format limit s ≡ v

-- The events of a stream up to its first fault begin with these, the newest first, and its acknowledgements with those that their payloads ask for.
pub record YieldsFirst (r : Rules) (format : Format) (limit : ℕ) (s : List ℕ) (ps : List (List ℕ)) (past : List Event) : Type 0 where
  pub more : List Event
  pub events : good r (stream_events format limit s) ≡ in_log_order past more
  pub acknowledged : (name : List ℕ) → (acks : List (List ℕ)) × (acknowledgements r format limit name s ≡ requested_acks format name ps ++ acks)

-- one more payload was taken, and the event in it isn't completed; the recorder has the transaction that it commits
pub record HasTakenOne {K F : Type 0} (IsOpen : HasOpen K) (IsDone : HasDone K) (r : Rules) (format : Format) (a : AnswerReader K F) (s : List ℕ) (ps : List (List ℕ)) (past : List Event) (x : TakenEvent) : Type 0 where
  pub payload : List ℕ
  pub taken : HasTaken IsOpen r format a s (ps ++ payload ∷ []) (event_in format payload ∷ past) past
  pub shows : HasShown IsDone (recorder_in a) x.commits (committed_by past (event_in format payload))
  pub position : x.position ≡ log_pos_of (event_in format payload)
  pub is_ack_requested : x.is_ack_requested ≡ is_ack_requested format payload

-- the stream ends with this verdict after these payloads, whatever bytes follow; nothing is stated if memory ran out
abbrev pub EndsBy : Rules → Format → ℕ → List ℕ → List (List ℕ) → List Event → Verdict → Type 0
EndsBy r format limit s ps past verdicts.Memory = Unit {0}
EndsBy r format limit s ps past v = (more : List ℕ) → Yields r format limit (s ++ more) ps past v

-- the result of `next_event` after these payloads: no further packet is complete; one more event was taken; or the stream ends
abbrev pub ReturnsNext : {K F : Type 0} → HasOpen K → HasDone K → Rules → Format → ℕ → AnswerReader K F → List ℕ → List (List ℕ) → List Event → Result (Option TakenEvent) Verdict → Type 0
ReturnsNext IsOpen IsDone r format limit a s ps past (Ok None) = HasTaken IsOpen r format a s ps past past × codec.Halts (limit_of a) 1 ps a.incoming.gathered.items a.incoming.received.items None
ReturnsNext IsOpen IsDone r format limit a s ps past (Ok (Some x)) = HasTakenOne IsOpen IsDone r format a s ps past x
ReturnsNext IsOpen IsDone r format limit a s ps past (Err v) = EndsBy r format limit s ps past v

-- an event with this payload was completed: its acknowledgement is due, if the payload asks for it
pub record Completes {K F : Type 0} (IsOpen : HasOpen K) (r : Rules) (format : Format) (old new : AnswerReader K F) (s : List ℕ) (ps : List (List ℕ)) (past : List Event) (payload : List ℕ) : Type 0 where
  pub taken : HasTaken IsOpen r format new s (ps ++ payload ∷ []) (event_in format payload ∷ past) (event_in format payload ∷ past)
  pub due_acks : due_of new ≡ due_of old ++ joined (requested_acks format (name_of old) (payload ∷ []))
