-- The packet of an acknowledgement, field by field.
use Rattle.std.proofs.Common.{◌≡◌, ℕ, ◌+◌, ◌<◌, ◌≤◌, List, [], ◌∷◌, ◌++◌, length, sym, ap, ◌∙◌, append_assoc, length-append, arith}
use Rattle.wire_packets.specs.Framing.{max_chunk_len, chunk, framing}
use Rattle.wire_packets.proofs.PacketLemmas.{framing_short}

-- the fields are appended in sequence
pub packet_is : (old header position name : List ℕ) → ((bytes : List ℕ) → length bytes ≡ 9 + length name → header ++ bytes ≡ chunk 0 bytes) → length position ≡ 8 → length name ≤ 511 → (((old ++ header) ++ 239 ∷ []) ++ position) ++ name ≡ old ++ framing 0 (239 ∷ position ++ name)
packet_is old header position name h eight short =
    let len : length (239 ∷ position ++ name) ≡ 9 + length name = omega (arith, length-append position name, eight) in
    let bound : length (239 ∷ position ++ name) < max_chunk_len = omega (arith, len, short) in
    append_assoc ((old ++ header) ++ 239 ∷ []) position name ∙ append_assoc (old ++ header) (239 ∷ []) (position ++ name) ∙ append_assoc old header (239 ∷ position ++ name)
    ∙ ap (λ (x : List ℕ). old ++ x) (h (239 ∷ position ++ name) len ∙ sym (framing_short 0 (239 ∷ position ++ name) bound))
