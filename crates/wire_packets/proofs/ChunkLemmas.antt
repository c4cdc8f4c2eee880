-- A header that was taken.
use Rattle.std.proofs.Common.{◌≡◌, ℕ, ◌+◌, ◌*◌, ◌/◌, ◌%◌, ◌<◌, ◌≤◌, List, ◌∷◌, ◌++◌, length, get_or, drop, sym, ap, ◌∙◌, arith}
use Rattle.std.proofs.lemmas.List.{drop_more, get_or_read}
use Rattle.wire_packets.specs.Reading.{payload_len_at}
use Rattle.wire_packets.specs.Chunks.{held_header}
use Rattle.wire_packets.specs.declared.chunk_decoder.ChunkDecoder.TheVariants.{Chunk}

pub header_len : (number needed : ℕ) (u : List ℕ) → payload_len_at (held_header (Chunk number needed) ++ u) ≡ needed
header_len number needed u = omega arith

-- the four bytes that were taken are the header that the decoder holds
pub header_eaten : (u v : List ℕ) (a b c n needed : ℕ) → 4 ≤ length u → a ≡ get_or u 0 a → b ≡ get_or u 1 b → c ≡ get_or u 2 c → n ≡ get_or u 3 n → a < 256 → b < 256 → c < 256 → needed ≡ a + 256 * b + 65536 * c → v ≡ drop 4 u → held_header (Chunk n needed) ++ v ≡ u
header_eaten u v a b c n needed h p q r s la lb lc is rest =
    let p' : a ≡ get_or u 0 0 = get_or_read u 0 a (omega arith) p 0 in
    let q' : b ≡ get_or u 1 0 = get_or_read u 1 b (omega arith) q 0 in
    let r' : c ≡ get_or u 2 0 = get_or_read u 2 c (omega arith) r 0 in
    let s' : n ≡ get_or u 3 0 = get_or_read u 3 n (omega arith) s 0 in
    let x : needed % 256 ≡ get_or u 0 0 = omega arith in
    let y : needed / 256 % 256 ≡ get_or u 1 0 = omega arith in
    let z : needed / 65536 ≡ get_or u 2 0 = omega arith in
    let all : u ≡ get_or u 0 0 ∷ get_or u 1 0 ∷ get_or u 2 0 ∷ get_or u 3 0 ∷ drop 4 u =
    drop_more u 0 0 (omega arith)
    ∙ ap (λ (t : List ℕ). get_or u 0 0 ∷ t) (drop_more u 1 0 (omega arith))
    ∙ ap (λ (t : List ℕ). get_or u 0 0 ∷ get_or u 1 0 ∷ t) (drop_more u 2 0 (omega arith))
    ∙ ap (λ (t : List ℕ). get_or u 0 0 ∷ get_or u 1 0 ∷ get_or u 2 0 ∷ t) (drop_more u 3 0 (omega arith)) in
    joined_up (needed % 256) (needed / 256 % 256) (needed / 65536) n (get_or u 0 0) (get_or u 1 0) (get_or u 2 0) (get_or u 3 0) v (drop 4 u) x y z s' rest ∙ sym all
  where
    joined_up : (a b c d a' b' c' d' : ℕ) (t t' : List ℕ) → a ≡ a' → b ≡ b' → c ≡ c' → d ≡ d' → t ≡ t' → a ∷ b ∷ c ∷ d ∷ t ≡ a' ∷ b' ∷ c' ∷ d' ∷ t'
    joined_up a b c d a' b' c' d' t t' p q r s u = cc
