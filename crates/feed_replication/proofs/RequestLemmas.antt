-- Requests, and what a codec reads of them.
use Rattle.std.proofs.Common.{◌≡◌, ℕ, zero, suc, ◌+◌, ◌-◌, ◌*◌, ◌/◌, ◌<◌, ◌≤◌, Bool, true, false, inl, inr, List, [], ◌∷◌, ◌++◌, length, take, drop, All, Some, None, Result, refl, sym, ap, subst, ◌∙◌, length-append, arith}
use Rattle.std.specs.Prelude.{◌==◌, if◌then◌else◌}
use Rattle.std.specs.Str.{bytes_eq}
use Rattle.std.proofs.lemmas.List.{append-nil, take-append-drop, length-take-le}
use Rattle.std.proofs.lemmas.Bool.Decides.{Decides-eqb}
use Rattle.std.proofs.lemmas.Slice.Eq.{slice_eq-Decides}
use Rattle.wire_packets.specs.Framing.{max_chunk_len, chunk, framing, framings, sequence_id_after}
use Rattle.wire_packets.specs.Packets.{packets, packets_in}
use Rattle.wire_packets.specs.CodecState.{SplitsInto, HasRead, GivesPacket, Waits, Stops, Decodes, IsFresh, IsBeforeStreams, codec_limit}
use Rattle.wire_packets.specs.declared.error.PacketCodecError.{PacketCodecError}
use Rattle.wire_packets.specs.declared.error.PacketCodecError.TheVariants as codec
use Rattle.wire_packets.specs.declared.packet_codec.PacketCodec.{PacketCodec}
use Rattle.wire_packets.proofs.FramingLemmas.{chunks_none}
use Rattle.wire_packets.proofs.PacketLemmas.{framing_short, framing_long, framings_read, prefix_of_packets, packets_of, order}
use Rattle.feed_replication.specs.RequestedPackets.{sole_payload, payload_of_packet}

-- ---- lengths

long-by : (n k : ℕ) (p : List ℕ) → length p / max_chunk_len < n → length (framing k p) ≡ length p + 4 * (length p / max_chunk_len + 1)
long-by zero k p h = absurd (omega (arith, h))
long-by (suc n) k p h = elim (order (length p) max_chunk_len) [
  | inl short ↦ let e = ap length (framing_short k p short) in omega (arith, e, short)
  | inr long ↦ long-one n k p (take max_chunk_len p) (drop max_chunk_len p) h (sym (take-append-drop max_chunk_len p)) (length-take-le max_chunk_len p long) (λ m. long-by n (k + 1) (drop max_chunk_len p) m)
]
  where
    long-one : (n k : ℕ) (p a b : List ℕ) → length p / max_chunk_len < suc n → p ≡ a ++ b → length a ≡ max_chunk_len → (length b / max_chunk_len < n → length (framing (k + 1) b) ≡ length b + 4 * (length b / max_chunk_len + 1)) → length (framing k p) ≡ length p + 4 * (length p / max_chunk_len + 1)
    long-one n k p a b h is len go =
        let l : length p ≡ max_chunk_len + length b = omega (arith, ap length is, length-append a b, len) in
        let e = ap length (ap (framing k) is ∙ framing_long k a b len) in
        let c = length-append (chunk k a) (framing (k + 1) b) in
        let g = go (omega (arith, h, l)) in
        omega (arith, e, c, g, l, len)

pub framing-length : (k : ℕ) (p : List ℕ) → length (framing k p) ≡ length p + 4 * (length p / max_chunk_len + 1)
framing-length k p = long-by (suc (length p / max_chunk_len)) k p (omega arith)

-- ---- one packet

pub same_bytes : (l : List ℕ) → bytes_eq l l ≡ true
same_bytes [] = refl
same_bytes (x ∷ l) = let e : (x == x) ≡ true = search (arith) in rw e (same_bytes l)

pub equal_bytes : (a b : List ℕ) → bytes_eq a b ≡ true → a ≡ b
equal_bytes a b h = (slice_eq-Decides Decides-eqb a b true (sym h)).0 refl

pub one_payload : (limit : ℕ) (p : List ℕ) → length p ≤ limit → All (λ x. length x ≤ limit) (p ∷ [])
one_payload limit p h zero d q = h
one_payload limit p h (suc i) d q = absurd (omega (arith, q))

pub one_packet : (p : List ℕ) → packets (length (framing 0 p)) 0 (framing 0 p) ≡ p ∷ []
unfolding framings
one_packet p =
    ap (packets (length (framing 0 p)) 0) (sym (append-nil (framing 0 p))) ∙ (framings_read (length (framing 0 p)) 0 (p ∷ []) (one_payload (length (framing 0 p)) p (omega (arith, framing-length 0 p)))).0

-- a packet is that of its payload
pub payload_back : (p : List ℕ) → payload_of_packet (framing 0 p) ≡ Some p
unfolding payload_of_packet
payload_back p = ap (sole_payload (framing 0 p)) (one_packet p) ∙ rw (same_bytes (framing 0 p)) refl

pub packet_is : (bytes p : List ℕ) → bytes ≡ framing 0 p → payload_of_packet bytes ≡ Some p
packet_is bytes p h = ap payload_of_packet h ∙ payload_back p

sole_payload-is : (bytes p : List ℕ) (ps : List (List ℕ)) → sole_payload bytes ps ≡ Some p → bytes ≡ framing 0 p
sole_payload-is bytes p [] h = absurd cc
sole_payload-is bytes p (q ∷ ps) h = either (bytes_eq (framing 0 q) bytes) refl h
  where
    either : (b : Bool) → bytes_eq (framing 0 q) bytes ≡ b → (if b then Some q else None) ≡ Some p → bytes ≡ framing 0 p
    either true e k = let same : q ≡ p = cc in sym (equal_bytes (framing 0 q) bytes e) ∙ ap (framing 0) same
    either false e k = absurd cc

-- it is the only packet of its payload
pub packet_from : (bytes p : List ℕ) → payload_of_packet bytes ≡ Some p → bytes ≡ framing 0 p
unfolding payload_of_packet
packet_from bytes p h = sole_payload-is bytes p (packets (length bytes) 0 bytes) h

-- ---- what a codec reads

no_packets : (bytes : List ℕ) → packets (length bytes) 0 bytes ≡ [] → payload_of_packet bytes ≡ None
unfolding payload_of_packet
no_packets bytes h = ap (sole_payload bytes) h

longer : (bytes p u : List ℕ) (x : ℕ) (ps : List (List ℕ)) → bytes ≡ framing 0 p ++ x ∷ u → sole_payload bytes (p ∷ ps) ≡ None
longer bytes p u x ps is = either (bytes_eq (framing 0 p) bytes) refl
  where
    either : (b : Bool) → bytes_eq (framing 0 p) bytes ≡ b → (if b then Some p else None) ≡ None
    either true e = absurd (omega (arith, ap length (equal_bytes (framing 0 p) bytes e), ap length is, length-append (framing 0 p) (x ∷ u)))
    either false e = refl

-- before the bytes a fresh codec has read nothing
pub begun : (limit : ℕ) (c : PacketCodec) (bytes : List ℕ) → IsFresh limit 0 c → IsBeforeStreams c → HasRead c 0 bytes [] [] bytes
begun limit c bytes fresh before = before 0 bytes fresh.number_is

split-one : (limit : ℕ) (bytes p u : List ℕ) → SplitsInto limit 0 bytes (p ∷ []) [] u → bytes ≡ framing 0 p ++ u
unfolding framings
split-one limit bytes p u h =
    h.whole ∙ ap (λ (t : List ℕ). (framing 0 p ++ []) ++ (t ++ u)) (chunks_none max_chunk_len (sequence_id_after 0 (p ∷ [])) []) ∙ ap (λ (t : List ℕ). t ++ u) (append-nil (framing 0 p))

-- a complete packet, and no bytes after it
pub packet_whole : (c : PacketCodec) (bytes out u : List ℕ) → GivesPacket c 0 bytes [] [] out u → u ≡ [] → payload_of_packet bytes ≡ Some out
packet_whole c bytes out u h e =
    packet_is bytes out (split-one (codec_limit c) bytes h.packet u h.state.reads ∙ ap (λ (t : List ℕ). framing 0 h.packet ++ t) e ∙ append-nil (framing 0 h.packet) ∙ ap (framing 0) (sym h.out_is))

more_after : (bytes p u : List ℕ) (x : ℕ) → bytes ≡ framing 0 p ++ x ∷ u → payload_of_packet bytes ≡ None
unfolding payload_of_packet framings
more_after bytes p u x is =
    let fits : length p ≤ length bytes = omega (arith, ap length is, length-append (framing 0 p) (x ∷ u), framing-length 0 p) in
    ap (sole_payload bytes) (prefix_of_packets (length bytes) 0 bytes (p ∷ []) (x ∷ u) (one_payload (length bytes) p fits) (is ∙ ap (λ (t : List ℕ). t ++ x ∷ u) (sym (append-nil (framing 0 p)))))
    ∙ longer bytes p u x (packets_in (length bytes - 1) (length bytes) (sequence_id_after 0 (p ∷ [])) (x ∷ u)) is

-- there are bytes after it
pub packet_more : (c : PacketCodec) (n : ℕ) (bytes out u : List ℕ) → n ≡ length bytes → codec_limit c ≡ n → GivesPacket c 0 bytes [] [] out u → 0 < length u → payload_of_packet bytes ≡ None
packet_more c n bytes out [] e l h some = absurd (omega (arith, some))
packet_more c n bytes out (x ∷ u) e l h some = more_after bytes h.packet u x (split-one (codec_limit c) bytes h.packet (x ∷ u) h.state.reads)

-- no complete packet
pub packet_waits : (c : PacketCodec) (n : ℕ) (bytes out u : List ℕ) → n ≡ length bytes → codec_limit c ≡ n → Waits c 0 bytes [] [] out u → payload_of_packet bytes ≡ None
packet_waits c n bytes out u e l h = no_packets bytes (ap (λ (i : ℕ). packets i 0 bytes) (sym (l ∙ e)) ∙ packets_of (codec_limit c) 0 bytes [] h.bytes u None h.state.reads h.halts)

-- the bytes aren't a packet
pub packet_stops : (limit n : ℕ) (bytes out u : List ℕ) (fault : PacketCodecError) → n ≡ length bytes → limit ≡ n → (fault ≡ codec.Memory → ⊥) → Stops limit 0 bytes [] [] out u fault → payload_of_packet bytes ≡ None
packet_stops limit n bytes out u fault e l other h = elim h.why [
  | inl m ↦ absurd (other m)
  | inr halts ↦ no_packets bytes (ap (λ (i : ℕ). packets i 0 bytes) (sym (l ∙ e)) ∙ packets_of limit 0 bytes [] h.bytes u (Some fault) h.reads halts)
]

-- the result of a fresh codec for the bytes, which were appended to an empty buffer
pub decoded : (limit : ℕ) (c d : PacketCodec) (bytes none src dst out u : List ℕ) (r : Result Bool PacketCodecError) → IsFresh limit 0 c → IsBeforeStreams c → none ≡ [] → src ≡ none ++ bytes → dst ≡ []
    → ((k : ℕ) (s : List ℕ) (ps : List (List ℕ)) (g before : List ℕ) → HasRead c k s ps g src → dst ≡ before ++ g → Decodes d k s ps before out u r) → Decodes d 0 bytes [] [] out u r
decoded limit c d bytes none src dst out u r fresh before empty is clear h =
    let at : src ≡ bytes = is ∙ ap (λ (t : List ℕ). t ++ bytes) empty in
    h 0 bytes [] [] [] (subst (λ (t : List ℕ). HasRead c 0 bytes [] [] t) (sym at) (begun limit c bytes fresh before)) clear

is_zero : (n : ℕ) → (n == 0) ≡ true → n ≡ 0
is_zero n h = grind arith

not_zero : (n : ℕ) → (n == 0) ≡ false → 0 < n
not_zero n h = grind arith

pub left_none : (u : List ℕ) (b : Bool) → b ≡ (length u == 0) → b ≡ true → u ≡ []
left_none [] b h t = refl
left_none (x ∷ u) b h t = absurd (omega (arith, is_zero (length (x ∷ u)) (sym h ∙ t)))

pub left_some : (u : List ℕ) (b : Bool) → b ≡ (length u == 0) → b ≡ false → 0 < length u
left_some u b h t = not_zero (length u) (sym h ∙ t)
