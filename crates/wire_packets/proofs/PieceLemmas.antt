-- Reading a stream in pieces.
use Rattle.std.proofs.Common.{◌≡◌, ◌≢◌, ◌%◌, ℕ, ◌+◌, ◌/◌, ◌<◌, ◌≤◌, false, ◌⊎◌, inl, inr, List, [], ◌∷◌, ◌++◌, length, get_or, Some, None, refl, sym, ap, subst, ◌∙◌, append_assoc, take, drop, arith, length-append}
use Rattle.std.proofs.lemmas.List.{get_or_append_left, append-nil, take_all}
use Rattle.wire_packets.specs.Packets.{packets}
use Rattle.wire_packets.specs.Reading.{payload_len_at, has_chunk_of, chunk_fault}
use Rattle.wire_packets.specs.Framing.{framings, sequence_id_after, chunks, max_chunk_len}
use Rattle.wire_packets.specs.CodecState.{SplitsInto, HasRead, Halts, Stops, Waits, GivesPacket, sequence_id_after_chunks, codec_limit}
use Rattle.wire_packets.specs.StreamPieces.{Drains, joined_pieces, IsReading}
use Rattle.wire_packets.specs.declared.packet_codec.PacketCodec.{PacketCodec}
use Rattle.wire_packets.specs.declared.error.PacketCodecError.{PacketCodecError}
use Rattle.wire_packets.specs.declared.error.PacketCodecError.TheVariants.{Memory, PacketTooLarge, PacketsOutOfSync}
use Rattle.std.proofs.lemmas.Bool.{both_ways}
use Rattle.std.proofs.lemmas.List.Concat.{flat_map-append}
use Rattle.std.proofs.lemmas.List.{take_more, take-append-drop}
use Rattle.std.specs.Borrow.{Bor}
use Rattle.wire_packets.proofs.ReadingLemmas.{header_short, too_large, chunk_short, out_of_number, taken}
use Rattle.wire_packets.proofs.CodecStateLemmas.{splits_more}
use Rattle.wire_packets.proofs.PacketLemmas.{order, packets_of, fault_of_packets, prefix_of_packets}

-- reading stops when memory runs out
pub stops_for_memory : (n : ℕ) (c : PacketCodec) (k : ℕ) (s : List ℕ) (ps : List (List ℕ)) (g u : List ℕ) (e : PacketCodecError) → HasRead c k s ps g u → n ≡ codec_limit c → e ≡ Memory → Stops n k s ps [] g u e
stops_for_memory n c k s ps g u e st limit m = record { bytes = g; out_is = refl; reads = subst (λ (i : ℕ). SplitsInto i k s ps g u) (sym limit) st.reads; why = inl m }

-- out of memory for one more piece
pub stops_before : (n : ℕ) (c : PacketCodec) (k : ℕ) (s : List ℕ) (ps : List (List ℕ)) (g u piece : List ℕ) (e : PacketCodecError) → HasRead c k s ps g u → n ≡ codec_limit c → e ≡ Memory → Stops n k (s ++ piece) ps [] g (u ++ piece) e
stops_before n c k s ps g u piece e st limit m = record {
  bytes = g;
  out_is = refl;
  reads = subst (λ (i : ℕ). SplitsInto i k (s ++ piece) ps g (u ++ piece)) (sym limit) (splits_more (codec_limit c) k s ps g u piece st.reads);
  why = inl m;
}

pub drained : (c : PacketCodec) (k : ℕ) (s : List ℕ) (ps : List (List ℕ)) (out u : List ℕ) → Waits c k s ps [] out u → Drains c k s ps out u
drained c k s ps out u w = record {
  state = subst (λ (b : List ℕ). HasRead c k s ps b u) (sym w.out_is) w.state;
  halts = subst (λ (b : List ℕ). Halts (codec_limit c) k ps b u None) (sym w.out_is) w.halts;
}

-- one more packet
pub pushed : (c : PacketCodec) (k : ℕ) (s : List ℕ) (ps qs : List (List ℕ)) (p out u : List ℕ) → GivesPacket c k s ps [] p u → out ≡ [] → qs ≡ ps ++ p ∷ [] → HasRead c k s qs out u
pushed c k s ps qs p out u h none more =
    let a : HasRead c k s (ps ++ p ∷ []) [] u = subst (λ (q : List ℕ). HasRead c k s (ps ++ q ∷ []) [] u) (sym h.out_is) h.state in
    subst (λ (o : List ℕ). HasRead c k s qs o u) (sym none) (subst (λ (q : List (List ℕ)). HasRead c k s q [] u) (sym more) a)

-- more of the stream arrived
pub represents_more : (c : PacketCodec) (k : ℕ) (s : List ℕ) (ps : List (List ℕ)) (g u piece v : List ℕ) → HasRead c k s ps g u → v ≡ u ++ piece → HasRead c k (s ++ piece) ps g v
represents_more c k s ps g u piece v st is = subst (HasRead c k (s ++ piece) ps g) (sym is) (record {
  reads = splits_more (codec_limit c) k s ps g u piece st.reads;
  number = st.number;
  gathered = st.gathered;
  no_fault = st.no_fault;
})

-- nothing arrived yet
pub drains_none : (c : PacketCodec) (k : ℕ) → HasRead c k [] [] [] [] → Drains c k [] [] [] []
drains_none c k st = record { state = st; halts = record { nothing = refl; why = refl } }

-- the same if the two buffers are empty
pub drains_empty : (c : PacketCodec) (k : ℕ) (g u : List ℕ) → HasRead c k [] [] [] [] → g ≡ [] → u ≡ [] → Drains c k [] [] g u
drains_empty c k g u st ge ue =
    subst (λ (x : List ℕ). Drains c k [] [] x u) (sym ge) (subst (λ (x : List ℕ). Drains c k [] [] [] x) (sym ue) (drains_none c k st))

-- the payloads that were read are the first packets, whatever follows
pub packets_at : (limit k : ℕ) (s : List ℕ) (ps : List (List ℕ)) (g u more : List ℕ) → SplitsInto limit k s ps g u → (q : List (List ℕ)) × (packets limit k (s ++ more) ≡ ps ++ q)
packets_at limit k s ps g u more r =
    let m = splits_more limit k s ps g u more r in
    (_, prefix_of_packets limit k (s ++ more) ps _ m.each m.whole)

-- the payloads that were read of a stream
pub drains_reading : (c : PacketCodec) (k : ℕ) (s : List ℕ) (ps : List (List ℕ)) (g u : List ℕ) → Drains c k s ps g u → IsReading (codec_limit c) k s ps None
drains_reading c k s ps g u d = (packets_of (codec_limit c) k s ps g u None d.state.reads d.halts, fault_of_packets (codec_limit c) k s ps g u None d.state.reads d.halts)

-- a header stays the same when more bytes follow
len_more : (u t : List ℕ) → 4 ≤ length u → payload_len_at (u ++ t) ≡ payload_len_at u
len_more u t h =
    let a = get_or_append_left u t 0 0 (omega arith) in
    let b = get_or_append_left u t 0 1 (omega arith) in
    let c = get_or_append_left u t 0 2 (omega arith) in
    omega (arith, a, b, c)

-- the two faults as facts
fault_parts : (k limit g : ℕ) (u : List ℕ) (e : PacketCodecError) → has_chunk_of k limit g u ≡ false → chunk_fault limit g u ≡ Some e → ((4 ≤ length u) × (limit < g + payload_len_at u) × (e ≡ PacketTooLarge)) ⊎ ((4 + payload_len_at u ≤ length u) × (g + payload_len_at u ≤ limit) × (get_or u 3 0 ≢ k % 256) × (e ≡ PacketsOutOfSync))
fault_parts k limit g u e none why =
    elim (order (length u) 4) [
      | inl short ↦ no_fault (header_short k limit g u short).1
      | inr long ↦ elim (order limit (g + payload_len_at u)) [
        | inl over ↦ inl (long, over, of_some PacketTooLarge e (sym (too_large k limit g u long over).1 ∙ why))
        | inr within ↦ elim (order (length u) (4 + payload_len_at u)) [
          | inl short ↦ no_fault (chunk_short k limit g u within short).1
          | inr whole ↦ inr (whole, within, (λ is. both_ways (has_chunk_of k limit g u) none (taken k limit g u within whole is)), of_some PacketsOutOfSync e (sym (out_of_number k limit g u within whole (λ is. both_ways (has_chunk_of k limit g u) none (taken k limit g u within whole is))).1 ∙ why))
        ]
      ]
    ]
  where
    of_some : (a b : PacketCodecError) → Some a ≡ Some b → b ≡ a
    of_some a b h = cc

    no_fault : {X : Type 0} → chunk_fault limit g u ≡ None → X
    no_fault h = absurd (differ e (sym h ∙ why))
      where
        differ : (e : PacketCodecError) → None ≡ Some e → ⊥
        differ e h = cc

-- a fault stays one, whatever follows
pub halts_more : (limit k : ℕ) (ps : List (List ℕ)) (g u t : List ℕ) (e : PacketCodecError) → Halts limit k ps g u (Some e) → Halts limit k ps g (u ++ t) (Some e)
halts_more limit k ps g u t e h =
    elim (fault_parts (sequence_id_after_chunks k ps g) limit (length g) u e h.nothing h.why) [
      | inl x ↦
          let len = len_more u t x.0 in
          let all = length-append u t in
          let y = too_large (sequence_id_after_chunks k ps g) limit (length g) (u ++ t) (omega (arith, all, x.0)) (omega (arith, len, x.1)) in
          record { nothing = y.0; why = y.1 ∙ ap (λ (a : PacketCodecError). Some a) (sym x.2) }
      | inr x ↦
          let len = len_more u t (omega (arith, x.0)) in
          let all = length-append u t in
          let at : get_or (u ++ t) 3 0 ≡ get_or u 3 0 = get_or_append_left u t 0 3 (omega (arith, x.0)) in
          let y = out_of_number (sequence_id_after_chunks k ps g) limit (length g) (u ++ t) (omega (arith, len, x.1)) (omega (arith, len, all, x.0)) (λ is. x.2 (sym at ∙ is)) in
          record { nothing = y.0; why = y.1 ∙ ap (λ (a : PacketCodecError). Some a) (sym x.3) }
    ]

pub stops_reading : (limit k : ℕ) (s t : List ℕ) (ps : List (List ℕ)) (d out u : List ℕ) (e : PacketCodecError) → Stops limit k s ps d out u e → IsReading limit k (s ++ t) ps (Some e)
stops_reading limit k s t ps d out u e h =
    elim h.why [
      | inl m ↦ inl (m, _, prefix_of_packets limit k (s ++ t) ps _ h.reads.each (ap (λ (v : List ℕ). v ++ t) h.reads.whole ∙ append_assoc (framings k ps) (chunks max_chunk_len (sequence_id_after k ps) (length h.bytes / max_chunk_len) h.bytes ++ u) t))
      | inr w ↦ inr (packets_of limit k (s ++ t) ps h.bytes (u ++ t) (Some e) (splits_more limit k s ps h.bytes u t h.reads) (halts_more limit k ps h.bytes u t e w), fault_of_packets limit k (s ++ t) ps h.bytes (u ++ t) (Some e) (splits_more limit k s ps h.bytes u t h.reads) (halts_more limit k ps h.bytes u t e w))
    ]

-- one more piece
pub stream_more : (pieces : List (Bor (List ℕ))) (i : ℕ) (d : Bor (List ℕ)) → i < length pieces → joined_pieces (take (i + 1) pieces) ≡ joined_pieces (take i pieces) ++ (get_or pieces i d).now
stream_more pieces i d h =
    ap (λ (q : List (Bor (List ℕ))). joined_pieces q) (take_more pieces i d h)
    ∙ flat_map-append (λ (p : Bor (List ℕ)). p.now) (take i pieces) (get_or pieces i d ∷ [])
    ∙ ap (λ (v : List ℕ). joined_pieces (take i pieces) ++ v) (append-nil (get_or pieces i d).now)

pub stream_rest : (pieces : List (Bor (List ℕ))) (i : ℕ) → joined_pieces pieces ≡ joined_pieces (take i pieces) ++ joined_pieces (drop i pieces)
stream_rest pieces i =
    ap (λ (q : List (Bor (List ℕ))). joined_pieces q) (sym (take-append-drop i pieces)) ∙ flat_map-append (λ (p : Bor (List ℕ)). p.now) (take i pieces) (drop i pieces)

pub stream_all : (pieces : List (Bor (List ℕ))) (i : ℕ) → length pieces ≤ i → joined_pieces (take i pieces) ≡ joined_pieces pieces
stream_all pieces i h = ap (λ (q : List (Bor (List ℕ))). joined_pieces q) (take_all i pieces h)

pub drains_from : (c : PacketCodec) (k : ℕ) (s s' : List ℕ) (ps qs : List (List ℕ)) (g g' u u' : List ℕ) → Drains c k s ps g u → s ≡ s' → ps ≡ qs → g ≡ g' → u ≡ u' → Drains c k s' qs g' u'
drains_from c k s s' ps qs g g' u u' d a b e f =
    subst (λ (x : List ℕ). Drains c k x qs g' u') a (subst (λ (x : List (List ℕ)). Drains c k s x g' u') b (subst (λ (x : List ℕ). Drains c k s ps x u') e (subst (λ (x : List ℕ). Drains c k s ps g x) f d)))

-- reading stopped at a piece: that is the result for all of them
pub stops_at_piece : (limit limit' k : ℕ) (pieces : List (Bor (List ℕ))) (i : ℕ) (d : Bor (List ℕ)) (ps : List (List ℕ)) (out u : List ℕ) (e : PacketCodecError) → i < length pieces → Stops limit k (joined_pieces (take i pieces) ++ (get_or pieces i d).now) ps [] out u e → limit ≡ limit' → IsReading limit' k (joined_pieces pieces) ps (Some e)
stops_at_piece limit limit' k pieces i d ps out u e h stops same =
    let all : (joined_pieces (take i pieces) ++ (get_or pieces i d).now) ++ joined_pieces (drop (i + 1) pieces) ≡ joined_pieces pieces =
    ap (λ (x : List ℕ). x ++ joined_pieces (drop (i + 1) pieces)) (sym (stream_more pieces i d h)) ∙ sym (stream_rest pieces (i + 1)) in
    subst (λ (n : ℕ). IsReading n k (joined_pieces pieces) ps (Some e)) same
    (subst (λ (s : List ℕ). IsReading limit k s ps (Some e)) all (stops_reading limit k (joined_pieces (take i pieces) ++ (get_or pieces i d).now) (joined_pieces (drop (i + 1) pieces)) ps [] out u e stops))
