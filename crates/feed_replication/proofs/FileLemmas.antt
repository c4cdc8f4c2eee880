-- The answer of a server, from the request on.
use Rattle.std.proofs.Common.{◌≡◌, inl, inr, ℕ, ◌<◌, ◌≤◌, Bool, true, false, not, List, [], ◌∷◌, ◌-◌, length, take, drop, get_or, Option, Some, None, Result, Ok, Err, refl, sym, ap, subst, ◌∙◌, arith}
use Rattle.std.specs.Prelude.{◌&&◌, nat_le, ◌==◌, slice_index, if◌then◌else◌}
use Rattle.std.specs.Str.{bytes_eq}
use Rattle.std.specs.Io.KnownBytes.{Consumes, Appends, prepend_known}
use Rattle.std.proofs.KnownBytes.{Consumes-nil, prepend_known-nil}
use Rattle.std.proofs.lemmas.List.{take_all}
use Rattle.std.proofs.Math.ListN.{length-drop}
use Rattle.byteorder.specs.Endian.{little_number}
use Rattle.wire_packets.specs.Framing.{framing, next_sequence_id}
use Rattle.events_frames.specs.Frames.{AppendsPrefix}
use Rattle.events_frames.specs.declared.event_error.EventError.{EventError}
use Rattle.feed_checks.specs.declared.verdict.Verdict.{Verdict}
use Rattle.feed_checks.specs.declared.verdict.Verdict.TheVariants as verdicts
use Rattle.feed_checks.specs.EventFields.{Event}
use Rattle.feed_transactions.specs.Rules.{Rules}
use Rattle.feed_checks.specs.LogFormat.{magic_number, has_magic_number}
use Rattle.feed_checks.specs.MagicNumbers.{IsNoMagicNumber}
use Rattle.feed_checks.specs.ReadVerdicts.{frame_verdict}
use Rattle.feed_replication.specs.declared.format.PayloadFormat.{PayloadFormat as Format}
use Rattle.feed_replication.specs.Streams.{payload_of}
use Rattle.feed_replication.specs.declared.served.Refusal.{Refusal}
use Rattle.feed_replication.specs.declared.served.Refusal.TheVariants as errors
use Rattle.feed_replication.specs.declared.served.Served.{Served}
use Rattle.feed_replication.specs.declared.served.Served.TheVariants.{Whole, Refused, Fault}
use Rattle.feed_replication.specs.RequestFields.{is_dump, flags_in, name_in, position_in, IsRequested}
use Rattle.feed_replication.specs.RequestedPackets.{payload_of_packet, requested_by, requested, IsNotAsked}
use Rattle.feed_replication.specs.Serving.{newest_description, answer, answer_to}
use Rattle.feed_replication.specs.RequestedPackets.{served}
use Rattle.feed_replication.specs.Sending.{IsServedOf, Serves}
use Rattle.feed_replication.specs.SendingSteps.{IsServedBy, ServesBy}
use Rattle.feed_replication.specs.SendingSteps.{IsSendError, sent_of_rest, sent_with_description, answer_of_rest}
use Rattle.feed_replication.proofs.SendingLemmas.{IsClosed, serves_same, serves_more, exit_nothing, exit_known, exit_write, exit_memory, exit_cause}
use Rattle.feed_replication.proofs.RequestLemmas.{packet_is, packet_from}
use Rattle.feed_replication.proofs.ServedAnswerLemmas.{fit, unfit, led-none, led-next, led-too_large}
use Rattle.feed_replication.proofs.SeekLemmas.{file-closes, file-low, file-unmarked, file-with_magic}

-- ---- the format description that is sent first

module _ (r : Rules) (format : Format) (limit k : ℕ) (past : List Event) where
  led_same : (o : Option Event) → newest_description past ≡ o → (x : List ℕ) → sent_with_description r format limit (newest_description past) past x ≡ sent_with_description r format limit o past x
  led_same o h x = ap (λ (d : Option Event). sent_with_description r format limit d past x) h

  -- there is none
  pub rest_none : (old rest was now : Option (List ℕ)) (v : Served) → newest_description past ≡ None → ServesBy (sent_of_rest r format limit past) k old rest was now v → ServesBy (sent_with_description r format limit (newest_description past) past) k old rest was now v
  rest_none old rest was now v h s =
      serves_same (sent_with_description r format limit (newest_description past) past) (sent_of_rest r format limit past) k [] (λ x. led_same None h x ∙ led-none r format limit past x) old old rest was now v (Consumes-nil old) s

  -- it was sent
  pub rest_some : (old rest was wrote now : Option (List ℕ)) (v : Served) (d : Event) (m : ℕ) → newest_description past ≡ Some d → length (payload_of format d) ≤ limit → Appends was wrote (framing k (payload_of format d)) → m ≡ next_sequence_id k (payload_of format d) → ServesBy (sent_of_rest r format limit past) m old rest wrote now v
      → ServesBy (sent_with_description r format limit (newest_description past) past) k old rest was now v
  rest_some old rest was wrote now v d m h fitting w number s =
      serves_more (sent_with_description r format limit (newest_description past) past) (sent_of_rest r format limit past) k [] (payload_of format d) (λ x. led_same (Some d) h x ∙ led-next r format limit past d (fit limit (payload_of format d) fitting) x) old old rest was wrote now v (Consumes-nil old) w
      (subst (λ (i : ℕ). ServesBy (sent_of_rest r format limit past) i old rest wrote now v) number s)

  -- it wasn't sent
  pub rest_unsent : (old rest was now : Option (List ℕ)) (failed : Bool) (v : Verdict) (d : Event) → newest_description past ≡ Some d → IsSendError was now limit k (payload_of format d) failed v → ServesBy (sent_with_description r format limit (newest_description past) past) k old rest was now (Fault v)
  rest_unsent old rest was now failed v d h (inl x) =
      subst (λ (o : Option (List ℕ)). ServesBy (sent_with_description r format limit (newest_description past) past) k old rest was o (Fault v)) (sym x.2)
      (rw x.0 (exit_nothing (sent_with_description r format limit (newest_description past) past) k old old rest was [] (Fault verdicts.TooLarge) tt (λ y. led_same (Some d) h y ∙ led-too_large r format limit past d (unfit limit (payload_of format d) x.1) y) (Consumes-nil old)))
  rest_unsent old rest was now failed v d h (inr x) =
      exit_write (sent_with_description r format limit (newest_description past) past) k old old rest was now [] (payload_of format d) (sent_of_rest r format limit past) failed v (λ y. led_same (Some d) h y ∙ led-next r format limit past d (fit limit (payload_of format d) x.0) y) (Consumes-nil old) x.1

-- ---- the file

module _ (r : Rules) (format : Format) (limit position k : ℕ) where
  pub served_low : (old was : Option (List ℕ)) → position < 4 → ServesBy (λ b. answer r format limit b position) k old old was was (Refused errors.Place)
  served_low old was h = exit_nothing (λ b. answer r format limit b position) k old old old was [] (Refused errors.Place) tt (λ x. file-low r format limit position x h) (Consumes-nil old)

  pub served_unmarked : (old new was : Option (List ℕ)) (taken : List ℕ) → 4 ≤ position → Consumes old new taken → IsNoMagicNumber new taken → ServesBy (λ b. answer r format limit b position) k old new was was (Fault verdicts.Mark)
  served_unmarked None new was taken h p m = tt
  served_unmarked (Some b) None was taken h p m = absurd p
  served_unmarked (Some b) (Some rest) was taken h p m = exit_known (λ b. answer r format limit b position) k b (Some rest) was (Fault verdicts.Mark) tt (file-unmarked r format limit position b h (ap has_magic_number p ∙ m))

  -- the magic number couldn't be read
  pub served_unread : (old new was : Option (List ℕ)) (fault : EventError) (failed : Bool) (before after : List ℕ) → AppendsPrefix fault failed 4 old new before after → ServesBy (λ b. answer r format limit b position) k old new was was (Fault (frame_verdict fault))
  served_unread old new was fault failed before after h = exit_cause (λ b. answer r format limit b position) k (file-closes r format limit position) old new was h.taken failed fault h.cause h.consumed

  -- it was read, and no bytes wait in the source
  pub served_with_magic : (old mid rest was now : Option (List ℕ)) (waiting : List ℕ) (v : Served) → 4 ≤ position → waiting ≡ [] → Consumes old mid magic_number → ServesBy (answer_of_rest r format limit position [] 4) k (prepend_known waiting mid) rest was now v
      → ServesBy (λ b. answer r format limit b position) k old rest was now v
  served_with_magic old mid rest was now waiting v h none p s =
      serves_same (λ b. answer r format limit b position) (answer_of_rest r format limit position [] 4) k magic_number (λ x. file-with_magic r format limit position h x) old mid rest was now v p
      (subst (λ (o : Option (List ℕ)). ServesBy (answer_of_rest r format limit position [] 4) k o rest was now v) (ap (λ (l : List ℕ). prepend_known l mid) none ∙ prepend_known-nil mid) s)

-- ---- the request

module _ (r : Rules) (format : Format) (limit : ℕ) (request name : List ℕ) where
  -- it asks for a position
  pub served_asked : (position k : ℕ) (old rest was now : Option (List ℕ)) (v : Served) → requested request name ≡ Ok position → ServesBy (λ b. answer r format limit b position) k old rest was now v → ServesBy (served r format limit request name) k old rest was now v
  served_asked position k old rest was now v h s =
      serves_same (served r format limit request name) (λ b. answer r format limit b position) k [] (λ x. ap (λ (o : Result ℕ Refusal). answer_to r format limit o x) h) old old rest was now v (Consumes-nil old) s

  served-closes : IsClosed (served r format limit request name)
  served-closes x = either (requested request name)
    where
      either : (o : Result ℕ Refusal) → (answer_to r format limit o x).outcome ≡ Whole → 0 < length (answer_to r format limit o x).payloads
      either (Ok position) h = file-closes r format limit position x h
      either (Err error) h = absurd cc

  -- it doesn't
  pub served_unasked : (k : ℕ) (old was : Option (List ℕ)) (v : Served) → IsNotAsked request name v → ServesBy (served r format limit request name) k old old was was v
  served_unasked k old was v (inl h) =
      rw h.2 (exit_nothing (served r format limit request name) k old old old was [] (Refused h.0) tt (λ x. ap (λ (o : Result ℕ Refusal). answer_to r format limit o x) h.1) (Consumes-nil old))
  served_unasked k old was v (inr h) = rw h (exit_memory (served r format limit request name) k served-closes old old was [] (Consumes-nil old))

-- what a request asks for is what is computed
unrequested : (request name : List ℕ) → ((p : List ℕ) → request ≡ framing 0 p → ⊥) → (o : Option (List ℕ)) → payload_of_packet request ≡ o → requested_by name o ≡ Err errors.NotADump
unrequested request name none None e = refl
unrequested request name none (Some p) e = absurd (none p (packet_from request p e))

pub requested_is : (request name : List ℕ) (asked : Result ℕ Refusal) → IsRequested request name asked → requested request name ≡ asked
requested_is request name asked (inl (p, is, same)) = ap (requested_by name) (packet_is request p is) ∙ sym same
requested_is request name asked (inr (none, same)) = unrequested request name none (payload_of_packet request) refl ∙ sym same

is_requested_by : (request name : List ℕ) (o : Option (List ℕ)) → payload_of_packet request ≡ o → IsRequested request name (requested_by name o)
is_requested_by request name None e = inr ((λ p is. absurd (cc (sym e ∙ packet_is request p is))), refl)
is_requested_by request name (Some p) e = inl (p, packet_from request p e, refl)

pub is_requested : (request name : List ℕ) (asked : Result ℕ Refusal) → requested request name ≡ asked → IsRequested request name asked
is_requested request name asked e = subst (λ (o : Result ℕ Refusal). IsRequested request name o) e (is_requested_by request name (payload_of_packet request) refl)

-- the contract of the public calls, by the answer for the computed request
closed_by : (r : Rules) (format : Format) (limit : ℕ) (asked : Result ℕ Refusal) (b : List ℕ) (rest : Option (List ℕ)) (bytes : List ℕ) (v : Served) → IsServedBy (answer_to r format limit asked) 1 b rest bytes v → IsServedOf r format limit asked b rest bytes v
closed_by r format limit asked b rest bytes (Fault verdicts.Memory) h = h
closed_by r format limit asked b rest bytes (Fault verdicts.Read) h = h
closed_by r format limit asked b rest bytes (Fault verdicts.Write) h = h
closed_by r format limit asked b rest bytes _ h = h

pub serves_requested : (r : Rules) (format : Format) (limit : ℕ) (request name : List ℕ) (asked : Result ℕ Refusal) (old rest was now : Option (List ℕ)) (v : Served) → IsRequested request name asked
    → ServesBy (served r format limit request name) 1 old rest was now v → Serves r format limit asked (record { input = old; unread = rest; before = was; written = now }) v
serves_requested r format limit request name asked None rest was now v is s = tt
serves_requested r format limit request name asked (Some b) rest was now v is s =
    let given = subst (λ (o : Result ℕ Refusal). ServesBy (answer_to r format limit o) 1 (Some b) rest was now v) (requested_is request name asked is) s in
    (given.0, given.1, closed_by r format limit asked b rest given.0 v given.2)

-- ---- flags

equal_number : (n m : ℕ) → n ≡ m → (n == m) ≡ true
equal_number n m h = search (arith, h)

unequal_number : (n m : ℕ) → (n ≡ m → ⊥) → (n == m) ≡ false
unequal_number n m h = search (arith, h)

at_least : (n m : ℕ) → m ≤ n → nat_le m n ≡ true
at_least n m h = search (arith, h)

pub dump_here : (p : List ℕ) → 11 ≤ length p → slice_index p 0 ≡ 18 → is_dump p ≡ true
dump_here p room command = ap (λ (b : Bool). b && (slice_index p 0 == 18)) (at_least (length p) 11 room) ∙ equal_number (slice_index p 0) 18 command

abbrev pub asked_when : Bool → Bool → List ℕ → List ℕ → Result ℕ Refusal
asked_when dump flags name p = if not dump then Err errors.NotADump else if not flags then Err errors.Flags else if not (bytes_eq (name_in p) name) then Err errors.Name else Ok (position_in p)

pub flags_failed : (request name p : List ℕ) (n : ℕ) → payload_of_packet request ≡ Some p → 11 ≤ length p → slice_index p 0 ≡ 18 → n ≡ flags_in p → (n ≡ 1 → ⊥) → IsNotAsked request name (Refused errors.Flags)
flags_failed request name p n is room command flags other =
    inl (
      errors.Flags,
      ap (requested_by name) is ∙ ap (λ (b : Bool). asked_when b (flags_in p == 1) name p) (dump_here p room command) ∙ ap (λ (b : Bool). asked_when true b name p) (unequal_number (flags_in p) 1 (λ e. other (flags ∙ e))),
      refl,
    )

-- the command is the first byte
pub first_is : (p : List ℕ) (n : ℕ) → 11 ≤ length p → n ≡ get_or p 0 n → n ≡ 18 → slice_index p 0 ≡ 18
first_is [] n room h e = absurd (omega (arith, room))
first_is (x ∷ p) n room h e = sym h ∙ e

-- the flags as the code reads them
pub flags_read : (n : ℕ) (bytes p : List ℕ) → n ≡ little_number 2 (take (length bytes - 5) (drop 5 bytes)) → bytes ≡ p → n ≡ flags_in p
flags_read n bytes p h e = h ∙ ap (little_number 2) (take_all (length bytes - 5) (drop 5 bytes) (omega (arith, length-drop 5 bytes))) ∙ ap flags_in e
