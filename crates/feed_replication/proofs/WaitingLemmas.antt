-- The bytes that wait in a source, and the packets of short events.
use Rattle.std.proofs.Common.{◌≡◌, ℕ, ◌+◌, ◌≤◌, ◌<◌, List, ◌++◌, length, Option, Some, None, refl, sym, ap, ◌∙◌, append_assoc, arith}
use Rattle.std.specs.Io.KnownBytes.{Consumes, prepend_known}
use Rattle.events_frames.specs.Frames.{IsFrame, EndsWithoutEvent}
use Rattle.events_frames.specs.Sources.{TakesMore, TakesEvent, EndsWaiting}
use Rattle.wire_packets.specs.Framing.{max_chunk_len, chunk, framing}
use Rattle.wire_packets.proofs.PacketLemmas.{framing_short}
use Rattle.feed_replication.specs.declared.format.PayloadFormat.{PayloadFormat as Format}
use Rattle.feed_replication.specs.declared.format.PayloadFormat.TheVariants.{Plain, SemiSync}
use Rattle.feed_replication.specs.Streams.{payload_of}

-- ---- a source

-- the bytes that waited, and those that were taken
waiting_taken : (old new : Option (List ℕ)) (waiting taken after : List ℕ) → Consumes old new taken → after ≡ waiting ++ taken → Consumes (prepend_known waiting old) new after
waiting_taken None new waiting taken after p e = tt
waiting_taken (Some x) None waiting taken after p e = absurd p
waiting_taken (Some x) (Some y) waiting taken after p e = ap (λ (l : List ℕ). waiting ++ l) p ∙ sym (append_assoc waiting taken y) ∙ ap (λ (l : List ℕ). l ++ y) (sym e)

-- the bytes that wait, and those that the reader has yet to give
pub waiting_rest : (waiting : List ℕ) (rest : Option (List ℕ)) → Consumes (prepend_known waiting rest) rest waiting
waiting_rest waiting None = tt
waiting_rest waiting (Some x) = refl

pub more_taken : (old new : Option (List ℕ)) (waiting after : List ℕ) → TakesMore old new waiting after → Consumes (prepend_known waiting old) new after
more_taken old new waiting after h = waiting_taken old new waiting h.taken after h.consumed h.joined

-- an event was taken, and others wait after it
split_taken : (old new : Option (List ℕ)) (waiting taken e after : List ℕ) → Consumes old new taken → waiting ++ taken ≡ e ++ after → Consumes (prepend_known waiting old) (prepend_known after new) e
split_taken None new waiting taken e after p s = tt
split_taken (Some x) None waiting taken e after p s = absurd p
split_taken (Some x) (Some y) waiting taken e after p s = ap (λ (l : List ℕ). waiting ++ l) p ∙ sym (append_assoc waiting taken y) ∙ ap (λ (l : List ℕ). l ++ y) s ∙ append_assoc e after y

pub event_taken : (old new : Option (List ℕ)) (waiting e after : List ℕ) → TakesEvent old new waiting e after → IsFrame (prepend_known waiting old) (prepend_known after new) e
event_taken old new waiting e after h = record { consumed = split_taken old new waiting h.taken e after h.consumed h.joined; is = h.is }

pub end_taken : (old new : Option (List ℕ)) (waiting e after : List ℕ) → EndsWaiting old new waiting e after → EndsWithoutEvent (prepend_known waiting old) new after
end_taken old new waiting e after h = record { consumed = more_taken old new waiting after h.more; no_event = h.no_event; not_broken = h.not_broken; at_end = h.at_end }

-- ---- packets

-- a packet in one chunk: its header, what precedes the event, and the event
pub packet_put : (number : ℕ) (packets first second third header lead event : List ℕ) → first ≡ packets ++ header → second ≡ first ++ lead → third ≡ second ++ event
    → header ++ (lead ++ event) ≡ chunk number (lead ++ event) → length (lead ++ event) < max_chunk_len → third ≡ packets ++ framing number (lead ++ event)
packet_put number packets first second third header lead event p q r h short =
    r ∙ ap (λ (l : List ℕ). l ++ event) (q ∙ ap (λ (l : List ℕ). l ++ lead) p) ∙ append_assoc (packets ++ header) lead event ∙ append_assoc packets header (lead ++ event)
    ∙ ap (λ (l : List ℕ). packets ++ l) (h ∙ sym (framing_short number (lead ++ event) short))

-- what precedes an event has at most three bytes
pub payload_fits : (format : Format) (event : List ℕ) (limit : ℕ) → 3 + length event ≤ limit → length (payload_of format event) ≤ limit
payload_fits Plain event limit h = omega (arith, h)
payload_fits SemiSync event limit h = omega (arith, h)
