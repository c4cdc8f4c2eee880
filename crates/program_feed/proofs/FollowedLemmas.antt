-- A follower that takes what a reader gives, piece by piece.
use Rattle.std.specs.Prelude.{◌||◌, ◌≤◌}
use Rattle.std.proofs.Common.{◌≡◌, inl, inr, ℕ, Bool, true, false, List, [], ◌++◌, length, take, Option, Some, None, refl, sym, ap, subst, ◌∙◌, append_assoc, true≢false, arith}
use Rattle.std.specs.Io.KnownBytes.{Consumes, Appends, Keeps, IsAtEnd}
use Rattle.std.proofs.KnownBytes.{Consumes-nil, Consumes-trans, Consumes-kept, Appends-nil, Appends-trans, Appends-kept}
use Rattle.std.proofs.lemmas.List.{append-nil}
use Rattle.std.proofs.Math.Seq.{take-append_seam}
use Rattle.feed_checks.specs.LogFormat.{joined}
use Rattle.feed_checks.specs.declared.verdict.Verdict.{Verdict}
use Rattle.feed_checks.specs.declared.verdict.Verdict.TheVariants as verdicts
use Rattle.feed_checks.proofs.EventLemmas.{joined-append}
use Rattle.feed_transactions.specs.RecordedTexts.{IsOpenText}
use Rattle.feed_transactions.specs.Rules.{Rules, fault_after, shown_after, up_to_fault}
use Rattle.feed_replication.specs.Following.{RepresentsStream, Starts, IsFed, IsWriterFailure, WritesAllNew, verdict_in, limit_of}
use Rattle.wire_packets.specs.Framing.{framings}
use Rattle.wire_packets.specs.Packets.{full_run, packets_in}
use Rattle.feed_replication.specs.Streams.{program_limit, stream_transactions, stream_verdict, event_payloads, verdict_of_other}
use Rattle.feed_replication.specs.declared.follower.Follower.{Follower}
use Rattle.feed_replication.specs.declared.format.PayloadFormat.{PayloadFormat as Format}
use Rattle.feed_replication.specs.declared.format.PayloadFormat.TheVariants.{Plain}
use Rattle.feed_replication.proofs.AnswerLemmas.{unfinished, same_verdict}
use Rattle.program_feed.specs.FollowedPackets.{packet_texts, packet_verdict, IsFinal, IsFollowedText, EndsReading, FollowsPackets, IsFollowFailure, WritesFollowed}
use Rattle.feed_replication.specs.Requests.{dump_request}
use Rattle.program_feed.specs.Commands.{Devices}
use Rattle.program_feed.specs.Endings.{IsVerdictEnding}
use Rattle.program_feed.specs.declared.endings.Ending.{Ending}

-- These bytes were read and taken, and what they show was written.
pub record HasFollowed {F : Type 0} (r : Rules) (f : Follower F) (old now before written : Option (List ℕ)) : Type 0 where
  pub seen : List ℕ
  pub consumed : Consumes old now seen
  pub represents : RepresentsStream r Plain f seen
  pub text : Appends before written (joined (packet_texts r seen))

-- nothing was read
nothing_shown : (r : Rules) → packet_texts r [] ≡ []
unfolding stream_transactions packets_in event_payloads shown_after up_to_fault
nothing_shown r = refl

pub followed_none : {F : Type 0} (r : Rules) (f : Follower F) (old before written : Option (List ℕ)) → RepresentsStream r Plain f [] → before ≡ written → HasFollowed r f old old before written
followed_none r f old before written h e = record {
  seen = [];
  consumed = Consumes-nil old;
  represents = h;
  text = subst (λ (t : List ℕ). Appends before written t) (ap joined (sym (nothing_shown r))) (subst (λ (o : Option (List ℕ)). Appends before o []) e (Appends-nil before));
}

-- a follower of packets in this format
pub represented : {F : Type 0} (r : Rules) (format : Format) (f : Follower F) (s : List ℕ) → format ≡ Plain → RepresentsStream r Plain f s → RepresentsStream r format f s
represented r format f s e h = subst (λ (x : Format). RepresentsStream r x f s) (sym e) h

pub fed_by : {F : Type 0} (r : Rules) (format : Format) (limit : ℕ) (s t : List ℕ) (g : Follower F) (old new : Option (List ℕ)) (outcome : Option Verdict) → format ≡ Plain → limit ≡ program_limit → IsFed r format limit s t g old new outcome
    → IsFed r Plain program_limit s t g old new outcome
fed_by r format limit s t g old new outcome e d h =
    subst (λ (x : Format). IsFed r x program_limit s t g old new outcome) e (subst (λ (n : ℕ). IsFed r format n s t g old new outcome) d h)

-- a stream that has no verdict yet
pub is_open : {F : Type 0} (r : Rules) (f : Follower F) (s : List ℕ) → verdict_in f ≡ None → limit_of f ≡ program_limit → RepresentsStream r Plain f s → packet_verdict r s ≡ verdicts.Closed
is_open r f s none limit h = ap (λ (n : ℕ). stream_verdict r Plain n s) (sym limit) ∙ sym (unfinished IsOpenText r Plain f.answer s none h)

-- a stream that has one
pub is_final : {F : Type 0} (r : Rules) (f : Follower F) (s : List ℕ) (v : Verdict) → verdict_in f ≡ Some v → limit_of f ≡ program_limit → RepresentsStream r Plain f s → IsFinal r s v
is_final r f s v has limit (printed, inl h) more = let no = h.no_verdict in absurd cc
is_final r f s v has limit (printed, inr h) more =
    ap (λ (n : ℕ). stream_verdict r Plain n (s ++ more)) (sym limit) ∙ h.1.verdict_is more ∙ same_verdict (verdict_in f) h.0 v h.1.has_verdict has

-- all new texts were written
all_texts : (r : Rules) (s t : List ℕ) (before mid then : Option (List ℕ)) → Appends before mid (joined (packet_texts r s)) → WritesAllNew (packet_texts r s) (packet_texts r t) mid then
    → Appends before then (joined (packet_texts r t))
all_texts r s t before mid then h w =
    subst (λ (x : List ℕ). Appends before then x) (sym (joined-append (packet_texts r s) w.rest) ∙ sym (ap joined w.is_all)) (Appends-trans before mid then (joined (packet_texts r s)) (joined w.rest) h w.written)

-- a piece was taken, and the stream goes on
pub followed_more : {F : Type 0} (r : Rules) (f g : Follower F) (old mid new before wrote first then after : Option (List ℕ)) (piece : List ℕ) → (h : HasFollowed r f old mid before wrote) → Consumes mid new piece → first ≡ wrote
    → IsFed r Plain program_limit h.seen (h.seen ++ piece) g first then None → Keeps then after → HasFollowed r g old new before after
followed_more r f g old mid new before wrote first then after piece h c e fed k = record {
  seen = h.seen ++ piece;
  consumed = Consumes-trans old mid new h.seen piece h.consumed c;
  represents = fed.2;
  text = Appends-kept before then after _ (all_texts r h.seen (h.seen ++ piece) before first then (subst (λ (o : Option (List ℕ)). Appends before o (joined (packet_texts r h.seen))) (sym e) h.text) fed.0) k;
}

-- ---- how following ends

-- the last read, before which the follower had no verdict
last_read : {F : Type 0} (r : Rules) (f : Follower F) (old now before written : Option (List ℕ)) (piece : List ℕ) → (h : HasFollowed r f old now before written) → verdict_in f ≡ None → limit_of f ≡ program_limit → length piece ≤ 0x1_0000 → EndsReading r (h.seen ++ piece)
last_read r f old now before written piece h none limit most = record { earlier = h.seen; last = piece; parts = refl; goes_on = is_open r f h.seen none limit h.represents; most = most }

-- nothing was read after that
no_last_read : {F : Type 0} (r : Rules) (f : Follower F) (old now before written : Option (List ℕ)) → (h : HasFollowed r f old now before written) → verdict_in f ≡ None → limit_of f ≡ program_limit → EndsReading r h.seen
no_last_read r f old now before written h none limit = record { earlier = h.seen; last = []; parts = sym (append-nil h.seen); goes_on = is_open r f h.seen none limit h.represents; most = omega arith }

-- nothing was read at all
nothing_read : (r : Rules) → packet_verdict r [] ≡ verdicts.Closed
unfolding stream_verdict packets_in event_payloads verdict_of_other fault_after full_run framings
nothing_read r = refl

-- what was written of the text of all bytes read, after `Memory` and `Write`
some_texts : (r : Rules) (s t : List ℕ) (before mid then : Option (List ℕ)) (some : List (List ℕ)) → Appends before mid (joined (packet_texts r s)) → Appends mid then (joined some)
    → Appends before then (joined (packet_texts r s ++ some))
some_texts r s t before mid then some h w =
    subst (λ (x : List ℕ). Appends before then x) (sym (joined-append (packet_texts r s) some)) (Appends-trans before mid then (joined (packet_texts r s)) (joined some) h w)

-- A prefix of the text of all bytes read was written.
record WritesSoFar (r : Rules) (read : List ℕ) (before after : Option (List ℕ)) : Type 0 where
  text : List ℕ
  more : List ℕ
  prefix : text ++ more ≡ joined (packet_texts r read)
  written : Appends before after text

module _ {F : Type 0} (r : Rules) (g : Follower F) (s t : List ℕ) (before mid then after : Option (List ℕ)) (h : Appends before mid (joined (packet_texts r s))) (k : Keeps then after) where
  all_so_far : WritesAllNew (packet_texts r s) (packet_texts r t) mid then → WritesSoFar r t before after
  all_so_far w = record { text = joined (packet_texts r t); more = []; prefix = append-nil (joined (packet_texts r t)); written = Appends-kept before then after _ (all_texts r s t before mid then h w) k }

  so_far : (outcome : Option Verdict) (failed : Bool) → IsFed r Plain program_limit s t g mid then outcome → IsWriterFailure outcome failed → WritesSoFar r t before after
  so_far None failed w b = all_so_far w.0
  so_far (Some verdicts.Memory) failed w b = record {
    text = joined (packet_texts r s ++ w.some);
    more = joined w.more;
    prefix = sym (joined-append (packet_texts r s ++ w.some) w.more) ∙ sym (ap joined w.is_all);
    written = Appends-kept before then after _ (some_texts r s t before mid then w.some h w.written) k;
  }
  so_far (Some verdicts.Write) failed w b = record {
    text = joined (packet_texts r s) ++ w.text;
    more = w.more;
    prefix = append_assoc (joined (packet_texts r s)) w.text w.more ∙ sym w.prefix;
    written = Appends-kept before then after _ (Appends-trans before mid then (joined (packet_texts r s)) w.text h w.written) k;
  }
  so_far (Some verdicts.Read) failed w b = absurd b
  so_far (Some v) failed w b = all_so_far w.0

  -- the text for the verdict of a piece
  ends : (unread : Option (List ℕ)) (v : Verdict) (failed : Bool) → IsFed r Plain program_limit s t g mid then (Some v) → IsWriterFailure (Some v) failed → (RepresentsStream r Plain g t → IsFinal r t v)
      → (text : List ℕ) × Appends before after text × IsFollowedText r t unread text v
  ends unread verdicts.Memory failed w b final = (
    joined (packet_texts r s ++ w.some),
    Appends-kept before then after _ (some_texts r s t before mid then w.some h w.written) k,
    (length (packet_texts r s ++ w.some), ap joined (sym (ap (take (length (packet_texts r s ++ w.some))) w.is_all ∙ take-append_seam (packet_texts r s ++ w.some) w.more))),
  )
  ends unread verdicts.Write failed w b final = let p = so_far (Some verdicts.Write) failed w b in (p.text, p.written, (p.more, p.prefix))
  ends unread verdicts.Read failed w b final = absurd b
  ends unread verdicts.Closed failed w b final = (joined (packet_texts r t), Appends-kept before then after _ (all_texts r s t before mid then h w.0) k, (refl, inr (final w.2), w.1))
  ends unread v failed w b final = (joined (packet_texts r t), Appends-kept before then after _ (all_texts r s t before mid then h w.0) k, (refl, final w.2))

-- the piece gave a verdict
pub followed_end : {F : Type 0} (r : Rules) (f g : Follower F) (old mid new before wrote first then after : Option (List ℕ)) (piece : List ℕ) (read_failed write_failed flush_failed failed : Bool) (v : Verdict)
    → (h : HasFollowed r f old mid before wrote) → Consumes mid new piece → first ≡ wrote → IsFed r Plain program_limit h.seen (h.seen ++ piece) g first then (Some v) → Keeps then after
    → IsWriterFailure (Some v) failed → verdict_in g ≡ Some v → limit_of g ≡ program_limit → verdict_in f ≡ None → limit_of f ≡ program_limit → length piece ≤ 0x1_0000
    → FollowsPackets r (record { input = old; unread = new; before = before; written = after; read_failed = read_failed; write_failed = write_failed; flush_failed = flush_failed }) v
followed_end r f g old mid new before wrote first then after piece read_failed write_failed flush_failed failed v h c e fed k b has limit none limit_before most =
    let wrote_text = subst (λ (o : Option (List ℕ)). Appends before o (joined (packet_texts r h.seen))) (sym e) h.text in
    let t = ends r g h.seen (h.seen ++ piece) before first then after wrote_text k new v failed fed b (is_final r g (h.seen ++ piece) v has limit) in
    record { read = h.seen ++ piece; consumed = Consumes-trans old mid new h.seen piece h.consumed c; ends = last_read r f _ _ _ _ piece h none limit_before most; text = t.0; appended = t.1; is = t.2 }

-- the flush after a piece failed
pub followed_unflushed : {F : Type 0} (r : Rules) (f g : Follower F) (old mid new before wrote first then after : Option (List ℕ)) (piece : List ℕ) (read_failed write_failed flush_failed failed : Bool) (outcome : Option Verdict)
    → (h : HasFollowed r f old mid before wrote) → Consumes mid new piece → first ≡ wrote → IsFed r Plain program_limit h.seen (h.seen ++ piece) g first then outcome → Keeps then after
    → IsWriterFailure outcome failed → verdict_in f ≡ None → limit_of f ≡ program_limit → length piece ≤ 0x1_0000
    → FollowsPackets r (record { input = old; unread = new; before = before; written = after; read_failed = read_failed; write_failed = write_failed; flush_failed = flush_failed }) verdicts.Write
followed_unflushed r f g old mid new before wrote first then after piece read_failed write_failed flush_failed failed outcome h c e fed k b none limit most =
    let wrote_text = subst (λ (o : Option (List ℕ)). Appends before o (joined (packet_texts r h.seen))) (sym e) h.text in
    let p = so_far r g h.seen (h.seen ++ piece) before first then after wrote_text k outcome failed fed b in
    record { read = h.seen ++ piece; consumed = Consumes-trans old mid new h.seen piece h.consumed c; ends = last_read r f _ _ _ _ piece h none limit most; text = p.text; appended = p.written; is = (p.more, p.prefix) }

-- the reader failed, or ended
pub followed_read : {F : Type 0} (r : Rules) (f : Follower F) (old mid new before wrote : Option (List ℕ)) (read_failed write_failed flush_failed : Bool) → (h : HasFollowed r f old mid before wrote) → Keeps mid new
    → verdict_in f ≡ None → limit_of f ≡ program_limit
    → FollowsPackets r (record { input = old; unread = new; before = before; written = wrote; read_failed = read_failed; write_failed = write_failed; flush_failed = flush_failed }) verdicts.Read
followed_read r f old mid new before wrote read_failed write_failed flush_failed h k none limit =
    record { read = h.seen; consumed = Consumes-kept old mid new h.seen h.consumed k; ends = no_last_read r f _ _ _ _ h none limit; text = joined (packet_texts r h.seen); appended = h.text; is = (refl, is_open r f h.seen none limit h.represents) }

pub followed_closed : {F : Type 0} (r : Rules) (f : Follower F) (old mid new before wrote : Option (List ℕ)) (read_failed write_failed flush_failed : Bool) (piece : List ℕ) (v : Verdict) → (h : HasFollowed r f old mid before wrote)
    → Consumes mid new piece → piece ≡ [] → IsAtEnd new → verdict_in f ≡ None → limit_of f ≡ program_limit → v ≡ verdicts.Closed
    → FollowsPackets r (record { input = old; unread = new; before = before; written = wrote; read_failed = read_failed; write_failed = write_failed; flush_failed = flush_failed }) v
followed_closed r f old mid new before wrote read_failed write_failed flush_failed piece v h c none_read at_end none limit closed =
    let taken = Consumes-trans old mid new h.seen piece h.consumed c in
    rw closed (record {
      read = h.seen;
      consumed = subst (Consumes old new) (ap (λ (x : List ℕ). h.seen ++ x) none_read ∙ append-nil h.seen) taken;
      ends = no_last_read r f _ _ _ _ h none limit;
      text = joined (packet_texts r h.seen);
      appended = h.text;
      is = (refl, inl at_end, is_open r f h.seen none limit h.represents);
    })

-- ---- which device failed

pub or_right : (a b : Bool) → b ≡ true → (a || b) ≡ true
or_right true b h = refl
or_right false b h = h

or_left : (a b : Bool) → a ≡ true → (a || b) ≡ true
or_left a b h = rw h refl

pub blamed_piece : (v : Verdict) (failed : Bool) (d : Devices) → IsWriterFailure (Some v) failed → d.write_failed ≡ failed → IsFollowFailure v d
blamed_piece verdicts.Read failed d h e = absurd h
blamed_piece verdicts.Write failed d h e = or_left d.write_failed d.flush_failed (e ∙ h)
blamed_piece v failed d h e = tt

-- ---- before the first piece

-- the request doesn't matter
pub started : {F : Type 0} (checksum : F) (f : Follower F) (question : List ℕ) → Starts Plain 4 1 [] program_limit checksum f question → Starts Plain 4 1 [] program_limit checksum f (dump_request 4 1 [])
started checksum f question h = record {
  after = h.after;
  request = refl;
  asked_position = h.asked_position;
  server_is = h.server_is;
  name_is = h.name_is;
  format_is = h.format_is;
  limit_is = h.limit_is;
  checksum_is = h.checksum_is;
  none_waits = h.none_waits;
  no_verdict = h.no_verdict;
}

-- out of memory before anything was read
pub no_memory : (r : Rules) (old before after : Option (List ℕ)) (read_failed write_failed flush_failed : Bool) (ending : Ending) → Keeps before after → flush_failed ≡ false → IsVerdictEnding verdicts.Memory ending
    → WritesFollowed r (record { input = old; unread = old; before = before; written = after; read_failed = read_failed; write_failed = write_failed; flush_failed = flush_failed }) ending
no_memory r old before after read_failed write_failed flush_failed ending k flushed h = record {
  verdict = verdicts.Memory;
  follows = record { read = []; consumed = Consumes-nil old; ends = record { earlier = []; last = []; parts = refl; goes_on = nothing_read r; most = omega arith }; text = []; appended = Appends-kept before before after [] (Appends-nil before) k; is = (0, refl) };
  blamed = tt;
  flush = λ yes. absurd (true≢false (sym yes ∙ flushed));
  ending_is = h;
}
