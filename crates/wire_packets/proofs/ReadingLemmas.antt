-- The chunk at the start of bytes.
use Rattle.std.proofs.Common.{◌≡◌, ◌≢◌, ℕ, ◌+◌, ◌%◌, ◌<◌, ◌≤◌, Bool, true, false, ◌&&◌, List, ◌∷◌, ◌++◌, length, get_or, drop, sym, ap, ◌∙◌, ◌/◌, length-drop, Some, None, refl, arith, eq-eqb, nat_le, nat_eq}
use Rattle.std.proofs.lemmas.Bool.{le-leb, lt-leb, ne_eqb, leb-true, eqb-true}
use Rattle.std.proofs.lemmas.List.{take-append-drop, drop-drop, drop_more, length-take-le}
use Rattle.wire_packets.specs.Framing.{chunk, max_chunk_len}
use Rattle.wire_packets.specs.Packets.{payload_in}
use Rattle.wire_packets.specs.Reading.{payload_len_at, has_chunk_of, chunk_fault, has_chunk, chunk_payload, after_chunk}
use Rattle.wire_packets.specs.declared.error.PacketCodecError.TheVariants.{PacketTooLarge, PacketsOutOfSync}

and_false : (b : Bool) → (b && false) ≡ false
and_false true = refl
and_false false = refl

pub header_short : (k limit g : ℕ) (s : List ℕ) → length s < 4 → (has_chunk_of k limit g s ≡ false) × (chunk_fault limit g s ≡ None)
header_short k limit g s h =
    let e : nat_le (4 + payload_len_at s) (length s) ≡ false = lt-leb (4 + payload_len_at s) (length s) (omega arith) in
    let f : nat_le 4 (length s) ≡ false = lt-leb 4 (length s) h in
    (rw e refl, rw (f, e) refl)

pub too_large : (k limit g : ℕ) (s : List ℕ) → 4 ≤ length s → limit < g + payload_len_at s → (has_chunk_of k limit g s ≡ false) × (chunk_fault limit g s ≡ Some PacketTooLarge)
too_large k limit g s h over =
    let e : nat_le (g + payload_len_at s) limit ≡ false = lt-leb (g + payload_len_at s) limit over in
    let f : nat_le 4 (length s) ≡ true = le-leb 4 (length s) h in
    let o : nat_le (limit + 1) (g + payload_len_at s) ≡ true = le-leb (limit + 1) (g + payload_len_at s) (omega arith) in
    (rw e (and_false _), rw (f, o) refl)

pub chunk_short : (k limit g : ℕ) (s : List ℕ) → g + payload_len_at s ≤ limit → length s < 4 + payload_len_at s → (has_chunk_of k limit g s ≡ false) × (chunk_fault limit g s ≡ None)
chunk_short k limit g s within short =
    let e : nat_le (4 + payload_len_at s) (length s) ≡ false = lt-leb (4 + payload_len_at s) (length s) short in
    let o : nat_le (limit + 1) (g + payload_len_at s) ≡ false = lt-leb (limit + 1) (g + payload_len_at s) (omega arith) in
    (rw e refl, rw (o, e) (rw and_false refl))

pub out_of_number : (k limit g : ℕ) (s : List ℕ) → g + payload_len_at s ≤ limit → 4 + payload_len_at s ≤ length s → get_or s 3 0 ≢ k % 256 → (has_chunk_of k limit g s ≡ false) × (chunk_fault limit g s ≡ Some PacketsOutOfSync)
out_of_number k limit g s within whole ne =
    let e : nat_le (4 + payload_len_at s) (length s) ≡ true = le-leb (4 + payload_len_at s) (length s) whole in
    let o : nat_le (limit + 1) (g + payload_len_at s) ≡ false = lt-leb (limit + 1) (g + payload_len_at s) (omega arith) in
    let q : nat_eq (get_or s 3 0) (k % 256) ≡ false = ne_eqb (get_or s 3 0) (k % 256) ne in
    (rw (e, q) refl, rw (o, e) (rw and_false refl))

pub taken : (k limit g : ℕ) (s : List ℕ) → g + payload_len_at s ≤ limit → 4 + payload_len_at s ≤ length s → get_or s 3 0 ≡ k % 256 → has_chunk_of k limit g s ≡ true
taken k limit g s within whole is =
    let e : nat_le (4 + payload_len_at s) (length s) ≡ true = le-leb (4 + payload_len_at s) (length s) whole in
    let o : nat_le (g + payload_len_at s) limit ≡ true = le-leb (g + payload_len_at s) limit within in
    let q : nat_eq (get_or s 3 0) (k % 256) ≡ true = eq-eqb (get_or s 3 0) (k % 256) is in
    rw (e, q, o) refl

pub record Taken (k limit g : ℕ) (s : List ℕ) : Type 0 where
  pub whole : 4 + payload_len_at s ≤ length s
  pub number : get_or s 3 0 ≡ k % 256
  pub fits : g + payload_len_at s ≤ limit

pub taken_parts : (k limit g : ℕ) (s : List ℕ) → has_chunk_of k limit g s ≡ true → Taken k limit g s
taken_parts k limit g s h =
    let a = and_true (has_chunk s && (nat_eq (get_or s 3 0) (k % 256))) (nat_le (g + payload_len_at s) limit) h in
    let b = and_true (has_chunk s) (nat_eq (get_or s 3 0) (k % 256)) a.0 in
    record {
      whole = leb-true (4 + payload_len_at s) (length s) b.0;
      number = eqb-true (get_or s 3 0) (k % 256) b.1;
      fits = leb-true (g + payload_len_at s) limit a.1;
    }
  where
    and_true : (a b : Bool) → (a && b) ≡ true → (a ≡ true) × (b ≡ true)
    and_true true b h = (refl, h)
    and_true false b h = cc

-- a sequence id counts modulo 256
pub takes_same : (a n limit g : ℕ) (s : List ℕ) → a ≡ n % 256 → has_chunk_of a limit g s ≡ has_chunk_of n limit g s
takes_same a n limit g s e =
    let m : a % 256 ≡ n % 256 = omega arith in
    ap (λ (i : ℕ). has_chunk s && nat_eq (get_or s 3 0) i && nat_le (g + payload_len_at s) limit) m

pub len_bytes : (s : List ℕ) → 4 + payload_len_at s ≤ length s → length (chunk_payload s) ≡ payload_len_at s
len_bytes s h = length-take-le (payload_len_at s) (drop 4 s) (omega (arith, length-drop 4 s))

-- the bytes that are taken are a chunk
pub chunk_at : (n : ℕ) (s : List ℕ) → 4 + payload_len_at s ≤ length s → get_or s 0 0 < 256 → get_or s 1 0 < 256 → get_or s 2 0 < 256 → get_or s 3 0 ≡ n % 256 → s ≡ chunk n (chunk_payload s) ++ after_chunk s
chunk_at n s whole a b c number =
    let len = len_bytes s whole in
    let x : length (chunk_payload s) % 256 ≡ get_or s 0 0 = omega arith in
    let y : length (chunk_payload s) / 256 % 256 ≡ get_or s 1 0 = omega arith in
    let z : length (chunk_payload s) / 65536 ≡ get_or s 2 0 = omega arith in
    let body : drop 4 s ≡ chunk_payload s ++ after_chunk s = sym (take-append-drop (payload_len_at s) (drop 4 s)) ∙ ap (λ (t : List ℕ). chunk_payload s ++ t) (drop-drop (payload_len_at s) 4 s) in
    let head : s ≡ get_or s 0 0 ∷ get_or s 1 0 ∷ get_or s 2 0 ∷ get_or s 3 0 ∷ drop 4 s =
    drop_more s 0 0 (omega arith)
    ∙ ap (λ (t : List ℕ). get_or s 0 0 ∷ t) (drop_more s 1 0 (omega arith))
    ∙ ap (λ (t : List ℕ). get_or s 0 0 ∷ get_or s 1 0 ∷ t) (drop_more s 2 0 (omega arith))
    ∙ ap (λ (t : List ℕ). get_or s 0 0 ∷ get_or s 1 0 ∷ get_or s 2 0 ∷ t) (drop_more s 3 0 (omega arith)) in
    head ∙ joined_up (get_or s 0 0) (get_or s 1 0) (get_or s 2 0) (get_or s 3 0) (length (chunk_payload s) % 256) (length (chunk_payload s) / 256 % 256) (length (chunk_payload s) / 65536) (n % 256) (drop 4 s) (chunk_payload s ++ after_chunk s) x y z number body
  where
    joined_up : (a b c d a' b' c' d' : ℕ) (t t' : List ℕ) → a' ≡ a → b' ≡ b → c' ≡ c → d ≡ d' → t ≡ t' → a ∷ b ∷ c ∷ d ∷ t ≡ a' ∷ b' ∷ c' ∷ d' ∷ t'
    joined_up a b c d a' b' c' d' t t' p q r s u = cc

-- a packet of one chunk, and no packet
pub no_chunk : (k limit : ℕ) (s : List ℕ) → has_chunk_of k limit 0 s ≡ false → payload_in 1 limit k 0 s ≡ None
unfolding payload_in
no_chunk k limit s h = rw h refl

pub full_chunk : (k limit : ℕ) (s : List ℕ) → has_chunk_of k limit 0 s ≡ true → payload_len_at s ≡ max_chunk_len → payload_in 1 limit k 0 s ≡ None
unfolding payload_in
full_chunk k limit s h full =
    let e : nat_eq (payload_len_at s) max_chunk_len ≡ true = eq-eqb (payload_len_at s) max_chunk_len full in
    rw (h, e) refl

pub one_chunk : (k limit : ℕ) (s : List ℕ) → has_chunk_of k limit 0 s ≡ true → payload_len_at s < max_chunk_len → payload_in 1 limit k 0 s ≡ Some (chunk_payload s)
unfolding payload_in
one_chunk k limit s h short =
    let e : nat_eq (payload_len_at s) max_chunk_len ≡ false = ne_eqb (payload_len_at s) max_chunk_len (λ same. omega (arith, same, short)) in
    rw (h, e) refl
