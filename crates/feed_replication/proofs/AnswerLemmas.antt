-- The reader of an answer takes one packet after the other, and how its stream ends; for any recorder, any rules and any format.
use Rattle.std.proofs.Common.{◌≡◌, inl, inr, ℕ, Bool, true, false, cond, List, [], ◌∷◌, ◌++◌, Option, Some, None, refl, sym, ap, subst, ◌∙◌}
use Rattle.std.specs.Prelude.{unwrap_or}
use Rattle.std.proofs.lemmas.List.{append-nil}
use Rattle.std.specs.Int.{w64, to_le_bytes}
use Rattle.wire_packets.specs.CodecState as codec
use Rattle.wire_packets.specs.Framing.{framing}
use Rattle.wire_packets.specs.declared.error.PacketCodecError.{PacketCodecError}
use Rattle.wire_packets.specs.declared.error.PacketCodecError.TheVariants as faults
use Rattle.wire_packets.specs.declared.packet_codec.PacketCodec.{PacketCodec}
use Rattle.wire_packets.proofs.CodecStateLemmas.{splits_more}
use Rattle.wire_packets.proofs.PieceLemmas.{halts_more, drained, represents_more, drains_empty}
use Rattle.feed_checks.specs.Damage.{IsCore}
use Rattle.feed_checks.specs.declared.verdict.Verdict.{Verdict}
use Rattle.feed_checks.specs.declared.verdict.Verdict.TheVariants as verdicts
use Rattle.feed_checks.specs.EventFields.{Event, log_pos_of}
use Rattle.feed_checks.specs.LogFormat.{joined}
use Rattle.feed_transactions.specs.FeedStates.{RepresentsRecorded, IsErrorFor}
use Rattle.feed_transactions.specs.FeedSteps.{IsRecorded}
use Rattle.feed_transactions.specs.Recorders.{HasOpen, HasDone}
use Rattle.feed_transactions.specs.Rules.{Rules, rules}
use Rattle.feed_transactions.specs.Transactions.{Transaction}
use Rattle.feed_transactions.specs.declared.transactions.Transactions.{Transactions}
use Rattle.feed_replication.specs.declared.format.PayloadFormat.{PayloadFormat as Format}
use Rattle.feed_replication.specs.Streams.{holds_event, event_in, closing_verdict, packet_verdict, stream_verdict}
use Rattle.feed_replication.specs.declared.answer_reader.AnswerReader.{AnswerReader}
use Rattle.feed_replication.specs.declared.answer_reader.TakenEvent.{TakenEvent}
use Rattle.feed_replication.specs.Acknowledgements.{is_ack_requested, requested_acks}
use Rattle.feed_replication.specs.Incoming.{IsFresh}
use Rattle.feed_replication.specs.ResumePositions.{last_position}
use Rattle.feed_replication.specs.AnswerReaders.{limit_of, name_of, verdict_in, asked_position_of, next_position_of, due_of, recorder_in, shown_in, AreGoodPayloads, HasTaken, IsRunning, RepresentsStream}
use Rattle.feed_replication.specs.AnswerSteps.{Yields, HasTakenOne, EndsBy, Completes}
use Rattle.feed_replication.proofs.ResumePositionLemmas.{last_position-append, position_shown}
use Rattle.feed_replication.proofs.StreamLemmas.{transactions_all, good_none, good_more, ends_closing, ends_fault, rests_at}

-- ---- a packet that the codec returned

-- its payload is that of this event
pub record Given (format : Format) (limit : ℕ) (s : List ℕ) (ps : List (List ℕ)) (u p : List ℕ) (e : Event) : Type 0 where
  pub reads : codec.SplitsInto limit 1 s (ps ++ p ∷ []) [] u
  pub is : holds_event format p ≡ true
  pub event_is : e ≡ event_in format p

-- what the codec has read, and the result of the call on the payload
reads_by : (limit : ℕ) (c : PacketCodec) (s : List ℕ) (ps : List (List ℕ)) (p u : List ℕ) → codec.codec_limit c ≡ limit → codec.GivesPacket c 1 s ps [] p u → codec.SplitsInto limit 1 s (ps ++ p ∷ []) [] u
reads_by limit c s ps p u same gives =
    subst (λ (n : ℕ). codec.SplitsInto n 1 s (ps ++ p ∷ []) [] u) same (subst (λ (x : List ℕ). codec.SplitsInto (codec.codec_limit c) 1 s (ps ++ x ∷ []) [] u) (sym gives.out_is) gives.state.reads)

pub given_by : (format g : Format) (limit : ℕ) (c : PacketCodec) (s : List ℕ) (ps : List (List ℕ)) (p u : List ℕ) (e : Event) → g ≡ format → codec.codec_limit c ≡ limit → codec.GivesPacket c 1 s ps [] p u → holds_event g p ≡ true → e ≡ event_in g p → Given format limit s ps u p e
given_by format g limit c s ps p u e same limits gives is event = record {
  reads = reads_by limit c s ps p u limits gives;
  is = subst (λ (x : Format). holds_event x p ≡ true) same is;
  event_is = subst (λ (x : Format). e ≡ event_in x p) same event;
}

-- ---- the exits

-- the codec stopped with an error, whatever bytes follow
stopped : (r : Rules) (format : Format) (limit : ℕ) (s : List ℕ) (ps : List (List ℕ)) (past : List Event) (dst u : List ℕ) (e : PacketCodecError) → AreGoodPayloads r format ps past → (e ≡ faults.Memory → ⊥) → codec.Stops limit 1 s ps [] dst u e → (more : List ℕ) → Yields r format limit (s ++ more) ps past (packet_verdict e)
stopped r format limit s ps past dst u e good other st more =
    let halts : codec.Halts limit 1 ps st.bytes u (Some e) = elim st.why [ inl m ↦ absurd (other m) | inr w ↦ w ] in
    rests_at r format limit (s ++ more) ps past st.bytes (u ++ more) (Some e) good (splits_more limit 1 s ps st.bytes u more st.reads) (halts_more limit 1 ps st.bytes u more e halts)

stops_by : (r : Rules) (format : Format) (limit : ℕ) (s : List ℕ) (ps : List (List ℕ)) (past : List Event) (dst u : List ℕ) (e : PacketCodecError) → AreGoodPayloads r format ps past → codec.Stops limit 1 s ps [] dst u e → EndsBy r format limit s ps past (packet_verdict e)
stops_by r format limit s ps past dst u (faults.Io fault) good st = stopped r format limit s ps past dst u (faults.Io fault) good (λ x. absurd cc) st
stops_by r format limit s ps past dst u faults.PacketTooLarge good st = stopped r format limit s ps past dst u faults.PacketTooLarge good (λ x. absurd cc) st
stops_by r format limit s ps past dst u faults.PacketsOutOfSync good st = stopped r format limit s ps past dst u faults.PacketsOutOfSync good (λ x. absurd cc) st
stops_by r format limit s ps past dst u faults.Memory good st = tt

pub exit_decode : (r : Rules) (format : Format) (limit : ℕ) (s : List ℕ) (ps : List (List ℕ)) (past : List Event) (n : ℕ) (dst u : List ℕ) (e : PacketCodecError) (v : Verdict) → AreGoodPayloads r format ps past → n ≡ limit → codec.Stops n 1 s ps [] dst u e → v ≡ packet_verdict e → EndsBy r format limit s ps past v
exit_decode r format limit s ps past n dst u e v good same st is =
    subst (λ (w : Verdict). EndsBy r format limit s ps past w) (sym is) (stops_by r format limit s ps past dst u e good (subst (λ (m : ℕ). codec.Stops m 1 s ps [] dst u e) same st))

-- a payload that is no event
closes_by : (r : Rules) (format : Format) (limit : ℕ) (s : List ℕ) (ps : List (List ℕ)) (past : List Event) (a b c : Bool) → ((v : Verdict) → v ≡ cond a verdicts.NotAnEvent (cond b verdicts.ServerError (cond c verdicts.End verdicts.NotAnEvent)) → (more : List ℕ) → Yields r format limit (s ++ more) ps past v)
    → EndsBy r format limit s ps past (cond a verdicts.NotAnEvent (cond b verdicts.ServerError (cond c verdicts.End verdicts.NotAnEvent)))
closes_by r format limit s ps past true b c h = h verdicts.NotAnEvent refl
closes_by r format limit s ps past false true c h = h verdicts.ServerError refl
closes_by r format limit s ps past false false true h = h verdicts.End refl
closes_by r format limit s ps past false false false h = h verdicts.NotAnEvent refl

pub exit_closing : (r : Rules) (format g : Format) (limit : ℕ) (c : PacketCodec) (s : List ℕ) (ps : List (List ℕ)) (past : List Event) (p u q : List ℕ) (v : Verdict) → AreGoodPayloads r format ps past → g ≡ format → codec.codec_limit c ≡ limit → codec.GivesPacket c 1 s ps [] p u → holds_event g p ≡ false → q ≡ p → v ≡ closing_verdict q → EndsBy r format limit s ps past v
exit_closing r format g limit c s ps past p u q v good same limits gives isnt qe ve =
    let other : holds_event format p ≡ false = subst (λ (x : Format). holds_event x p ≡ false) same isnt in
    subst (λ (w : Verdict). EndsBy r format limit s ps past w) (sym (ve ∙ ap (λ (x : List ℕ). closing_verdict x) qe))
    (closes_by r format limit s ps past _ _ _ (λ w e more. subst (λ (x : Verdict). Yields r format limit (s ++ more) ps past x) (sym e) (ends_closing r format limit s ps past p [] u more good (reads_by limit c s ps p u limits gives) other)))

-- an event that is a fault, or out of memory
faults_by : (r : Rules) (format : Format) (limit : ℕ) (s : List ℕ) (ps : List (List ℕ)) (past : List Event) (p u : List ℕ) (v : Verdict) → AreGoodPayloads r format ps past → codec.SplitsInto limit 1 s (ps ++ p ∷ []) [] u → holds_event format p ≡ true → IsErrorFor (r.fault past (event_in format p)) v → EndsBy r format limit s ps past v
faults_by r format limit s ps past p u verdicts.Memory good reads is why = tt
faults_by r format limit s ps past p u verdicts.Read good reads is why = absurd why
faults_by r format limit s ps past p u verdicts.Write good reads is why = absurd why
faults_by r format limit s ps past p u v good reads is why = λ more. ends_fault r format limit s ps past p [] u more v good reads is why

pub exit_fault : (r : Rules) (format : Format) (limit : ℕ) (s : List ℕ) (ps : List (List ℕ)) (past : List Event) (u p : List ℕ) (e : Event) (v : Verdict) → AreGoodPayloads r format ps past → Given format limit s ps u p e → IsErrorFor (r.fault past e) v → EndsBy r format limit s ps past v
exit_fault r format limit s ps past u p e v good given why =
    faults_by r format limit s ps past p u v good given.reads given.is (subst (λ (x : Event). IsErrorFor (r.fault past x) v) given.event_is why)

-- ---- which verdicts are no device's

pub core_packets : (e : PacketCodecError) (v : Verdict) → v ≡ packet_verdict e → IsCore v
core_packets (faults.Io fault) v h = rw h refl
core_packets faults.PacketTooLarge v h = rw h refl
core_packets faults.PacketsOutOfSync v h = rw h refl
core_packets faults.Memory v h = rw h refl

pub core_closing : (q : List ℕ) (v : Verdict) → v ≡ closing_verdict q → IsCore v
core_closing q v h = subst IsCore (sym h) (by _ _ _)
  where
    by : (a b c : Bool) → IsCore (cond a verdicts.NotAnEvent (cond b verdicts.ServerError (cond c verdicts.End verdicts.NotAnEvent)))
    by true b c = refl
    by false true c = refl
    by false false true = refl
    by false false false = refl

-- ---- an event that was taken

-- the payloads and the event of a packet are good
goes_well : (r : Rules) (format : Format) (limit : ℕ) (s : List ℕ) (ps : List (List ℕ)) (past : List Event) (u p : List ℕ) (e : Event) → AreGoodPayloads r format ps past → Given format limit s ps u p e → r.fault past e ≡ None → AreGoodPayloads r format (ps ++ p ∷ []) (event_in format p ∷ past)
goes_well r format limit s ps past u p e good given none = good_more r format ps past p good given.is (ap (λ (x : Event). r.fault past x) (sym given.event_is) ∙ none)

-- one more event, which isn't completed; `old` is the reader before it
pub took_one : {K F : Type 0} (IsOpen : HasOpen K) (IsDone : HasDone K) (f : List ℕ → ℕ) (format : Format) (limit : ℕ) (old a : AnswerReader K F) (s : List ℕ) (ps : List (List ℕ)) (past : List Event) (p : List ℕ) (e : Event) (x : TakenEvent) → HasTaken IsOpen (rules f) format old s ps past past
    → codec.GivesPacket a.incoming.codec 1 s ps [] p a.incoming.received.items → a.incoming.gathered.items ≡ [] → Given format limit s ps a.incoming.received.items p e → IsRecorded IsOpen IsDone f past e a.transactions x.commits
    → next_position_of a ≡ next_position_of old → asked_position_of a ≡ asked_position_of old → x.position ≡ log_pos_of e → x.is_ack_requested ≡ is_ack_requested format p → HasTakenOne IsOpen IsDone (rules f) format a s ps past x
took_one IsOpen IsDone f format limit old a s ps past p e x h gives empty given took position asked at ack =
    let now : IsRecorded IsOpen IsDone f past (event_in format p) a.transactions x.commits = subst (λ (y : Event). IsRecorded IsOpen IsDone f past y a.transactions x.commits) given.event_is took in
    record {
      payload = p;
      taken = record {
        codec = subst (λ (y : List ℕ). codec.HasRead a.incoming.codec 1 s (ps ++ p ∷ []) y a.incoming.received.items) (sym empty) (subst (λ (y : List ℕ). codec.HasRead a.incoming.codec 1 s (ps ++ y ∷ []) [] a.incoming.received.items) (sym gives.out_is) gives.state);
        good = goes_well (rules f) format limit s ps past a.incoming.received.items p e h.good given took.good;
        transactions = now.represents;
        position_is = position ∙ h.position_is ∙ ap (λ (q : ℕ). unwrap_or (last_position (shown_in (rules f) past)) q) (sym asked);
      };
      shows = now.shows;
      position = at ∙ ap log_pos_of given.event_is;
      is_ack_requested = ack;
    }

-- no further packet is complete
pub took_none : {K F : Type 0} (IsOpen : HasOpen K) (r : Rules) (format : Format) (old a : AnswerReader K F) (s : List ℕ) (ps : List (List ℕ)) (past : List Event) → HasTaken IsOpen r format old s ps past past → codec.Waits a.incoming.codec 1 s ps [] a.incoming.gathered.items a.incoming.received.items
    → a.transactions ≡ old.transactions → next_position_of a ≡ next_position_of old → asked_position_of a ≡ asked_position_of old → HasTaken IsOpen r format a s ps past past × codec.Halts (limit_of a) 1 ps a.incoming.gathered.items a.incoming.received.items None
took_none {K = K} IsOpen r format old a s ps past h waits same position asked =
    let d = drained a.incoming.codec 1 s ps a.incoming.gathered.items a.incoming.received.items waits in (
      record {
        codec = d.state;
        good = h.good;
        transactions = subst (λ (t : Transactions K). RepresentsRecorded IsOpen t past) (sym same) h.transactions;
        position_is = position ∙ h.position_is ∙ ap (λ (q : ℕ). unwrap_or (last_position (shown_in r past)) q) (sym asked);
      },
      d.halts,
    )

-- ---- an event that was completed

-- the acknowledgements that are due after it
pub acknowledges_one : (format : Format) (name : List ℕ) (p : List ℕ) (position : ℕ) (asks : Bool) (old new : List ℕ) → position ≡ log_pos_of (event_in format p) → asks ≡ is_ack_requested format p → new ≡ old ++ joined (cond asks (framing 0 (239 ∷ to_le_bytes w64 position ++ name) ∷ []) []) → new ≡ old ++ joined (requested_acks format name (p ∷ []))
acknowledges_one format name p position true old new at is put = put ∙ rw (at, sym is, requested_acks) refl
acknowledges_one format name p position false old new at is put = put ∙ rw (sym is, requested_acks) refl

pub completed : {K F : Type 0} (IsOpen : HasOpen K) (IsDone : HasDone K) (f : List ℕ → ℕ) (format : Format) (old new : AnswerReader K F) (s : List ℕ) (ps : List (List ℕ)) (past : List Event) (x : TakenEvent) (h : HasTakenOne IsOpen IsDone (rules f) format old s ps past x)
    → new.incoming ≡ old.incoming → new.transactions ≡ old.transactions → asked_position_of new ≡ asked_position_of old → next_position_of new ≡ cond x.commits x.position (next_position_of old) → due_of new ≡ due_of old ++ joined (requested_acks format (name_of old) (h.payload ∷ [])) → Completes IsOpen (rules f) format old new s ps past h.payload
completed {K = K} IsOpen IsDone f format old new s ps past x h incoming transactions asked position due_acks = record {
  taken = record {
    codec = subst (λ i. codec.HasRead i.codec 1 s (ps ++ h.payload ∷ []) i.gathered.items i.received.items) (sym incoming) h.taken.codec;
    good = h.taken.good;
    transactions = subst (λ (t : Transactions K). RepresentsRecorded IsOpen t (event_in format h.payload ∷ past)) (sym transactions) h.taken.transactions;
    position_is =
        position
        ∙ ap (λ (n : ℕ). cond x.commits n (next_position_of old)) h.position
        ∙ sym (position_shown past (event_in format h.payload) IsDone (recorder_in old) x.commits (next_position_of old) h.shows)
        ∙ ap (λ (q : ℕ). unwrap_or (last_position ((rules f).shows past (event_in format h.payload))) q) (h.taken.position_is ∙ ap (λ (q : ℕ). unwrap_or (last_position (shown_in (rules f) past)) q) (sym asked))
        ∙ sym (last_position-append (shown_in (rules f) past) ((rules f).shows past (event_in format h.payload)) (asked_position_of new));
  };
  due_acks = due_acks;
}

-- ---- a reader whose stream goes on

-- what it has shown and acknowledged, and that its stream isn't over
pub before_piece : {K F : Type 0} (IsOpen : HasOpen K) (r : Rules) (format : Format) (a : AnswerReader K F) (s : List ℕ) → (h : IsRunning IsOpen r format a s) → Yields r format (limit_of a) s h.payloads h.past verdicts.Closed
before_piece IsOpen r format a s h = rests_at r format (limit_of a) s h.payloads h.past a.incoming.gathered.items a.incoming.received.items None h.taken.good h.taken.codec.reads h.halts

-- so its state represents the stream
pub running : {K F : Type 0} (IsOpen : HasOpen K) (r : Rules) (format : Format) (a : AnswerReader K F) (s : List ℕ) → IsRunning IsOpen r format a s → RepresentsStream IsOpen r format a s
running IsOpen r format a s h = (h.taken.position_is ∙ ap (λ (ts : List Transaction). unwrap_or (last_position ts) (asked_position_of a)) (sym (transactions_all r format (limit_of a) s h.past (before_piece IsOpen r format a s h).events)), inl h)

-- before the first byte
pub taken_none : {K F : Type 0} (IsOpen : HasOpen K) (r : Rules) (format : Format) (a : AnswerReader K F) → IsFresh a.incoming → RepresentsRecorded IsOpen a.transactions [] → next_position_of a ≡ asked_position_of a → HasTaken IsOpen r format a [] [] [] []
taken_none IsOpen r format a fresh transactions position =
    let d = drains_empty a.incoming.codec 1 a.incoming.gathered.items a.incoming.received.items fresh.codec fresh.none_gathered fresh.none_received in
    record { codec = d.state; good = good_none r format; transactions = transactions; position_is = position }

pub begun : {K F : Type 0} (IsOpen : HasOpen K) (r : Rules) (format : Format) (a : AnswerReader K F) → IsFresh a.incoming → RepresentsRecorded IsOpen a.transactions [] → next_position_of a ≡ asked_position_of a → verdict_in a ≡ None → RepresentsStream IsOpen r format a []
begun IsOpen r format a fresh transactions position none =
    let d = drains_empty a.incoming.codec 1 a.incoming.gathered.items a.incoming.received.items fresh.codec fresh.none_gathered fresh.none_received in
    running IsOpen r format a [] (record { payloads = []; past = []; taken = taken_none IsOpen r format a fresh transactions position; halts = d.halts; no_verdict = none })

-- one more piece, of which nothing is taken yet
pub begins : {K F : Type 0} (IsOpen : HasOpen K) (r : Rules) (format : Format) (old new : AnswerReader K F) (s piece : List ℕ) (ps : List (List ℕ)) (past completed : List Event) → HasTaken IsOpen r format old s ps past completed
    → new.incoming.codec ≡ old.incoming.codec → new.incoming.gathered.items ≡ old.incoming.gathered.items → new.incoming.received.items ≡ old.incoming.received.items ++ piece → new.transactions ≡ old.transactions → next_position_of new ≡ next_position_of old → asked_position_of new ≡ asked_position_of old
    → HasTaken IsOpen r format new (s ++ piece) ps past completed
begins {K = K} IsOpen r format old new s piece ps past completed h codec_is gathered_is received_is transactions position asked = record {
  codec = subst (λ (c : PacketCodec). codec.HasRead c 1 (s ++ piece) ps new.incoming.gathered.items new.incoming.received.items) (sym codec_is) (subst (λ (x : List ℕ). codec.HasRead old.incoming.codec 1 (s ++ piece) ps x new.incoming.received.items) (sym gathered_is) (represents_more old.incoming.codec 1 s ps old.incoming.gathered.items old.incoming.received.items piece new.incoming.received.items h.codec received_is));
  good = h.good;
  transactions = subst (λ (t : Transactions K). RepresentsRecorded IsOpen t past) (sym transactions) h.transactions;
  position_is = position ∙ h.position_is ∙ ap (λ (q : ℕ). unwrap_or (last_position (shown_in r completed)) q) (sym asked);
}

-- ---- the end

-- two verdicts of one reader are equal
pub same_verdict : (o : Option Verdict) (v w : Verdict) → o ≡ Some v → o ≡ Some w → v ≡ w
same_verdict o v w p q = cc

pub finished : {K F : Type 0} (IsOpen : HasOpen K) (r : Rules) (format : Format) (a : AnswerReader K F) (s : List ℕ) (v : Verdict) → verdict_in a ≡ Some v → RepresentsStream IsOpen r format a s → v ≡ stream_verdict r format (limit_of a) s
finished IsOpen r format a s v has (printed, inl h) = let no = h.no_verdict in absurd cc
finished IsOpen r format a s v has (printed, inr h) = same_verdict (verdict_in a) v h.0 has h.1.has_verdict ∙ sym (ap (λ (x : List ℕ). stream_verdict r format (limit_of a) x) (sym (append-nil s)) ∙ h.1.verdict_is [])

pub unfinished : {K F : Type 0} (IsOpen : HasOpen K) (r : Rules) (format : Format) (a : AnswerReader K F) (s : List ℕ) → verdict_in a ≡ None → RepresentsStream IsOpen r format a s → verdicts.Closed ≡ stream_verdict r format (limit_of a) s
unfinished IsOpen r format a s none (printed, inl h) = sym (before_piece IsOpen r format a s h).verdict
unfinished IsOpen r format a s none (printed, inr h) = let has = h.1.has_verdict in absurd cc
