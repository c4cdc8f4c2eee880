-- The packets of framings are the payloads.
use Rattle.std.proofs.Common.{◌≡◌, ℕ, zero, suc, ◌+◌, ◌-◌, ◌*◌, ◌/◌, ◌<◌, ◌≤◌, true, false, ◌⊎◌, inl, inr, List, [], ◌∷◌, ◌++◌, length, get_or, take, drop, Option, Some, None, option_map, All, refl, sym, ap, subst, ◌∙◌, append_assoc, arith, rules, eq-eqb, nat_lt, nat_eq, length-append, add-one}
use Rattle.std.proofs.lemmas.List.{get_or-drop, append-nil, take_at, drop_at, take-append-drop, length-take-le, drop-drop, append_cancel_left}
use Rattle.std.proofs.lemmas.Bool.{ne_eqb, ltb-true, ltb-false, cases_Bool}
use Rattle.wire_packets.specs.Framing.{max_chunk_len, chunk, chunks, slice_of, framing, framings, sequence_id_after, next_sequence_id}
use Rattle.wire_packets.specs.Reading.{payload_len_at, has_chunk_of, chunk_fault, chunk_payload, after_chunk}
use Rattle.wire_packets.specs.Packets.{payload_in, packets_in, packets, full_run, after_packets, packet_fault}
use Rattle.wire_packets.specs.CodecState.{SplitsInto, Halts, sequence_id_after_chunks}
use Rattle.wire_packets.specs.declared.error.PacketCodecError.{PacketCodecError}
use Rattle.wire_packets.proofs.FramingLemmas.{chunks_none, chunks_more, chunks_snoc}
use Rattle.wire_packets.proofs.ReadingLemmas.{taken, taken_parts, len_bytes, chunk_at}

-- the header of a chunk at the start
pub chunk_len : (k : ℕ) (a r : List ℕ) → payload_len_at (chunk k a ++ r) ≡ length a
chunk_len k a r = omega arith

pub chunk_bytes : (k : ℕ) (a r : List ℕ) → chunk_payload (chunk k a ++ r) ≡ a
chunk_bytes k a r = ap (λ (n : ℕ). take n (a ++ r)) (chunk_len k a r) ∙ take_at a r (length a) refl

pub chunk_after : (k : ℕ) (a r : List ℕ) → after_chunk (chunk k a ++ r) ≡ r
chunk_after k a r = ap (λ (n : ℕ). drop (4 + n) (chunk k a ++ r)) (chunk_len k a r) ∙ drop_at (chunk k a) r (4 + length a) (omega arith)

pub chunk_taken : (k limit before : ℕ) (a r : List ℕ) → before + length a ≤ limit → has_chunk_of k limit before (chunk k a ++ r) ≡ true
chunk_taken k limit before a r fits =
    let l = chunk_len k a r in
    taken k limit before (chunk k a ++ r) (omega (arith, l)) (omega (arith, l, length-append a r)) refl

-- the slices after the first
slice_prefix : (w m : ℕ) (a b : List ℕ) → length a ≡ w → slice_of w (a ++ b) (m + 1) ≡ slice_of w b m
unfolding slice_of
slice_prefix w m a b len =
    let e : (m + 1) * w ≡ w + m * w = omega arith in
    ap (λ (n : ℕ). take w (drop n (a ++ b))) e ∙ ap (λ (t : List ℕ). take w t) (sym (drop-drop (m * w) w (a ++ b))) ∙ ap (λ (t : List ℕ). take w (drop (m * w) t)) (drop_at a b w len)

slice_first : (w : ℕ) (a b : List ℕ) → length a ≡ w → slice_of w (a ++ b) 0 ≡ a
unfolding slice_of
slice_first w a b len =
    let e : 0 * w ≡ 0 = omega arith in
    ap (λ (n : ℕ). take w (drop n (a ++ b))) e ∙ take_at a b w len

pub chunks_prefix : (w k m : ℕ) (a b : List ℕ) → length a ≡ w → chunks w k (m + 1) (a ++ b) ≡ chunk k a ++ chunks w (k + 1) m b
chunks_prefix w k zero a b len =
    let e : k + 0 ≡ k = omega arith in
    chunks_more w k 0 (a ++ b) ∙ ap (λ (t : List ℕ). t ++ chunk (k + 0) (slice_of w (a ++ b) 0)) (chunks_none w k (a ++ b))
    ∙ ap (λ (t : List ℕ). chunk (k + 0) t) (slice_first w a b len) ∙ ap (λ (i : ℕ). chunk i a) e
    ∙ sym (append-nil (chunk k a)) ∙ ap (λ (t : List ℕ). chunk k a ++ t) (sym (chunks_none w (k + 1) b))
chunks_prefix w k (suc m) a b len =
    let e : k + (m + 1) ≡ k + 1 + m = omega arith in
    let h : chunks w k (m + 1 + 1) (a ++ b) ≡ chunk k a ++ chunks w (k + 1) (m + 1) b =
    chunks_more w k (m + 1) (a ++ b)
    ∙ ap (λ (t : List ℕ). t ++ chunk (k + (m + 1)) (slice_of w (a ++ b) (m + 1))) (chunks_prefix w k m a b len)
    ∙ append_assoc (chunk k a) (chunks w (k + 1) m b) (chunk (k + (m + 1)) (slice_of w (a ++ b) (m + 1)))
    ∙ ap (λ (t : List ℕ). chunk k a ++ (chunks w (k + 1) m b ++ chunk (k + (m + 1)) t)) (slice_prefix w m a b len)
    ∙ ap (λ (i : ℕ). chunk k a ++ (chunks w (k + 1) m b ++ chunk i (slice_of w b m))) e
    ∙ ap (λ (t : List ℕ). chunk k a ++ t) (sym (chunks_more w (k + 1) m b)) in
    subst (λ (i : ℕ). chunks w k (i + 1) (a ++ b) ≡ chunk k a ++ chunks w (k + 1) i b) (add-one m) h

pub framing_short : (k : ℕ) (p : List ℕ) → length p < max_chunk_len → framing k p ≡ chunk k p
framing_short k p short =
    let z : length p / max_chunk_len ≡ 0 = omega arith in
    let e : k + 0 ≡ k = omega arith in
    ap (λ (m : ℕ). chunks max_chunk_len k (m + 1) p) z ∙ chunks_snoc max_chunk_len k 0 [] p (omega arith) (omega arith)
    ∙ ap (λ (t : List ℕ). t ++ chunk (k + 0) p) (chunks_none max_chunk_len k []) ∙ ap (λ (i : ℕ). chunk i p) e

pub framing_long : (k : ℕ) (a b : List ℕ) → length a ≡ max_chunk_len → framing k (a ++ b) ≡ chunk k a ++ framing (k + 1) b
framing_long k a b len =
    let z : length (a ++ b) / max_chunk_len ≡ length b / max_chunk_len + 1 = omega (arith, length-append a b) in
    ap (λ (m : ℕ). chunks max_chunk_len k (m + 1) (a ++ b)) z ∙ chunks_prefix max_chunk_len k (length b / max_chunk_len + 1) a b len

-- the last chunk of a payload, and a full one
payload_last : (n limit k before : ℕ) (s : List ℕ) → has_chunk_of k limit before s ≡ true → payload_len_at s < max_chunk_len → payload_in (suc n) limit k before s ≡ Some (chunk_payload s)
unfolding payload_in
payload_last n limit k before s t short =
    let e : nat_eq (payload_len_at s) max_chunk_len ≡ false = ne_eqb (payload_len_at s) max_chunk_len (λ h. omega arith) in
    rw (t, e) refl

payload_more : (n limit k before : ℕ) (s : List ℕ) → has_chunk_of k limit before s ≡ true → payload_len_at s ≡ max_chunk_len → payload_in (suc n) limit k before s ≡ option_map (λ more. chunk_payload s ++ more) (payload_in n limit (k + 1) (before + max_chunk_len) (after_chunk s))
unfolding payload_in
payload_more n limit k before s t full =
    let e : nat_eq (payload_len_at s) max_chunk_len ≡ true = eq-eqb (payload_len_at s) max_chunk_len full in
    rw (t, e) refl

payload_none : (n limit k before : ℕ) (s : List ℕ) → has_chunk_of k limit before s ≡ false → payload_in n limit k before s ≡ None
unfolding payload_in
payload_none zero limit k before s t = refl
payload_none (suc n) limit k before s t = rw t refl

payload_zero : (limit k before : ℕ) (s : List ℕ) → payload_in 0 limit k before s ≡ None
unfolding payload_in
payload_zero limit k before s = refl

-- a full chunk before bytes that are no payload
payload_full : (n limit k before : ℕ) (a r : List ℕ) → length a ≡ max_chunk_len → payload_in n limit (k + 1) (before + max_chunk_len) r ≡ None → payload_in (suc n) limit k before (chunk k a ++ r) ≡ None
payload_full n limit k before a r len h =
    elim (cases_Bool (has_chunk_of k limit before (chunk k a ++ r))) [
      | inl t ↦ payload_more n limit k before (chunk k a ++ r) t (chunk_len k a r ∙ len)
          ∙ ap (λ (x : List ℕ). option_map (λ more. chunk_payload (chunk k a ++ r) ++ more) (payload_in n limit (k + 1) (before + max_chunk_len) x)) (chunk_after k a r)
          ∙ ap (λ (o : Option (List ℕ)). option_map (λ more. chunk_payload (chunk k a ++ r) ++ more) o) h
      | inr f ↦ payload_none (suc n) limit k before (chunk k a ++ r) f
    ]

pub order : (a b : ℕ) → (a < b) ⊎ (b ≤ a)
order a b = elim (cases_Bool (nat_lt a b)) [ inl h ↦ inl (ltb-true a b h) | inr h ↦ inr (ltb-false a b h) ]

-- a payload's framing is read as the payload
pub payload_read : (n limit k before : ℕ) (p r : List ℕ) → before + length p ≤ limit → length p / max_chunk_len < n → payload_in n limit k before (framing k p ++ r) ≡ Some p
payload_read zero limit k before p r fits fuel = absurd (omega arith)
payload_read (suc n) limit k before p r fits fuel =
    elim (order (length p) max_chunk_len) [ inl short ↦ short_one short | inr long ↦ long_one (take max_chunk_len p) (drop max_chunk_len p) (sym (take-append-drop max_chunk_len p)) (length-take-le max_chunk_len p long) (payload_read n limit (k + 1) (before + max_chunk_len) (drop max_chunk_len p) r) ]
  where
    short_one : length p < max_chunk_len → payload_in (suc n) limit k before (framing k p ++ r) ≡ Some p
    short_one short =
        ap (λ (t : List ℕ). payload_in (suc n) limit k before (t ++ r)) (framing_short k p short)
        ∙ payload_last n limit k before (chunk k p ++ r) (chunk_taken k limit before p r fits) (omega (arith, chunk_len k p r))
        ∙ ap (λ (t : List ℕ). Some t) (chunk_bytes k p r)

    long_one : (a b : List ℕ) → p ≡ a ++ b → length a ≡ max_chunk_len → (before + max_chunk_len + length b ≤ limit → length b / max_chunk_len < n → payload_in n limit (k + 1) (before + max_chunk_len) (framing (k + 1) b ++ r) ≡ Some b) → payload_in (suc n) limit k before (framing k p ++ r) ≡ Some p
    long_one a b is len go =
        let all : length p ≡ max_chunk_len + length b = omega (arith, ap length is, length-append a b) in
        let s : List ℕ = chunk k a ++ (framing (k + 1) b ++ r) in
        ap (λ (q : List ℕ). payload_in (suc n) limit k before (framing k q ++ r)) is
        ∙ ap (λ (t : List ℕ). payload_in (suc n) limit k before (t ++ r)) (framing_long k a b len)
        ∙ ap (λ (t : List ℕ). payload_in (suc n) limit k before t) (append_assoc (chunk k a) (framing (k + 1) b) r)
        ∙ payload_more n limit k before (chunk k a ++ (framing (k + 1) b ++ r)) (chunk_taken k limit before a (framing (k + 1) b ++ r) (omega arith)) (chunk_len k a (framing (k + 1) b ++ r) ∙ len)
        ∙ ap (λ (t : List ℕ). option_map (λ more. t ++ more) (payload_in n limit (k + 1) (before + max_chunk_len) (after_chunk (chunk k a ++ (framing (k + 1) b ++ r))))) (chunk_bytes k a (framing (k + 1) b ++ r))
        ∙ ap (λ (t : List ℕ). option_map (λ more. a ++ more) (payload_in n limit (k + 1) (before + max_chunk_len) t)) (chunk_after k a (framing (k + 1) b ++ r))
        ∙ ap (λ (o : Option (List ℕ)). option_map (λ more. a ++ more) o) (go (omega arith) (omega arith))
        ∙ ap (λ (t : List ℕ). Some t) (sym is)

-- full chunks followed by bytes from which no chunk can be taken are no payload
pub none_read : (m n limit k before : ℕ) (g u : List ℕ) → m * max_chunk_len ≡ length g → has_chunk_of (k + m) limit (before + length g) u ≡ false → payload_in n limit k before (chunks max_chunk_len k m g ++ u) ≡ None
none_read zero n limit k before g u even t =
    let e : k + 0 ≡ k = omega arith in
    let f : before + length g ≡ before = omega arith in
    ap (λ (x : List ℕ). payload_in n limit k before (x ++ u)) (chunks_none max_chunk_len k g)
    ∙ payload_none n limit k before u (sym (ap (λ (i : ℕ). has_chunk_of i limit (before + length g) u) e ∙ ap (λ (i : ℕ). has_chunk_of k limit i u) f) ∙ t)
none_read (suc m) zero limit k before g u even t = payload_zero limit k before (chunks max_chunk_len k (suc m) g ++ u)
none_read (suc m) (suc n) limit k before g u even t =
    cut (take max_chunk_len g) (drop max_chunk_len g) (sym (take-append-drop max_chunk_len g)) (length-take-le max_chunk_len g (omega arith)) (none_read m n limit (k + 1) (before + max_chunk_len) (drop max_chunk_len g) u)
  where
    cut : (a b : List ℕ) → g ≡ a ++ b → length a ≡ max_chunk_len → (m * max_chunk_len ≡ length b → has_chunk_of (k + 1 + m) limit (before + max_chunk_len + length b) u ≡ false → payload_in n limit (k + 1) (before + max_chunk_len) (chunks max_chunk_len (k + 1) m b ++ u) ≡ None) → payload_in (suc n) limit k before (chunks max_chunk_len k (suc m) g ++ u) ≡ None
    cut a b is len go =
        let all : length g ≡ max_chunk_len + length b = omega (arith, ap length is, length-append a b) in
        let e : k + 1 + m ≡ k + suc m = omega arith in
        let f : before + max_chunk_len + length b ≡ before + length g = omega arith in
        let t' : has_chunk_of (k + 1 + m) limit (before + max_chunk_len + length b) u ≡ false = ap (λ (i : ℕ). has_chunk_of i limit (before + max_chunk_len + length b) u) e ∙ ap (λ (i : ℕ). has_chunk_of (k + suc m) limit i u) f ∙ t in
        let h = go (omega arith) t' in
        ap (λ (i : ℕ). payload_in (suc n) limit k before (chunks max_chunk_len k i g ++ u)) (sym (add-one m))
        ∙ ap (λ (q : List ℕ). payload_in (suc n) limit k before (chunks max_chunk_len k (m + 1) q ++ u)) is
        ∙ ap (λ (q : List ℕ). payload_in (suc n) limit k before (q ++ u)) (chunks_prefix max_chunk_len k m a b len)
        ∙ ap (λ (q : List ℕ). payload_in (suc n) limit k before q) (append_assoc (chunk k a) (chunks max_chunk_len (k + 1) m b) u)
        ∙ payload_full n limit k before a (chunks max_chunk_len (k + 1) m b ++ u) len h

-- each chunk has a header
chunks_long : (w k m : ℕ) (p : List ℕ) → 4 * m ≤ length (chunks w k m p)
chunks_long w k zero p = omega arith
chunks_long w k (suc m) p =
    let h : 4 * (m + 1) ≤ length (chunks w k (m + 1) p) = omega (arith, ap length (chunks_more w k m p), length-append (chunks w k m p) (chunk (k + m) (slice_of w p m)), chunks_long w k m p) in
    subst (λ (i : ℕ). 4 * i ≤ length (chunks w k i p)) (add-one m) h

run_stop : (n limit k before : ℕ) (s : List ℕ) → has_chunk_of k limit before s ≡ false → full_run n limit k before s ≡ (before, s)
unfolding full_run
run_stop zero limit k before s t = refl
run_stop (suc n) limit k before s t = rw t refl

run_more : (n limit k before : ℕ) (s : List ℕ) → has_chunk_of k limit before s ≡ true → payload_len_at s ≡ max_chunk_len → full_run (suc n) limit k before s ≡ full_run n limit (k + 1) (before + max_chunk_len) (after_chunk s)
unfolding full_run
run_more n limit k before s t full =
    let e : nat_eq (payload_len_at s) max_chunk_len ≡ true = eq-eqb (payload_len_at s) max_chunk_len full in
    rw (t, e) refl

-- the run of full chunks ends where no chunk can be taken
pub run_read : (m n limit k before : ℕ) (g u : List ℕ) → m * max_chunk_len ≡ length g → m ≤ n → before + length g ≤ limit → has_chunk_of (k + m) limit (before + length g) u ≡ false → full_run n limit k before (chunks max_chunk_len k m g ++ u) ≡ (before + length g, u)
run_read zero n limit k before g u even fuel fits t =
    let e : k + 0 ≡ k = omega arith in
    let f : before + length g ≡ before = omega arith in
    ap (λ (x : List ℕ). full_run n limit k before (x ++ u)) (chunks_none max_chunk_len k g)
    ∙ run_stop n limit k before u (sym (ap (λ (i : ℕ). has_chunk_of i limit (before + length g) u) e ∙ ap (λ (i : ℕ). has_chunk_of k limit i u) f) ∙ t)
    ∙ ap (λ (i : ℕ). (i, u)) (sym f)
run_read (suc m) zero limit k before g u even fuel fits t = absurd (omega arith)
run_read (suc m) (suc n) limit k before g u even fuel fits t =
    cut (take max_chunk_len g) (drop max_chunk_len g) (sym (take-append-drop max_chunk_len g)) (length-take-le max_chunk_len g (omega arith)) (run_read m n limit (k + 1) (before + max_chunk_len) (drop max_chunk_len g) u)
  where
    cut : (a b : List ℕ) → g ≡ a ++ b → length a ≡ max_chunk_len → (m * max_chunk_len ≡ length b → m ≤ n → before + max_chunk_len + length b ≤ limit → has_chunk_of (k + 1 + m) limit (before + max_chunk_len + length b) u ≡ false → full_run n limit (k + 1) (before + max_chunk_len) (chunks max_chunk_len (k + 1) m b ++ u) ≡ (before + max_chunk_len + length b, u)) → full_run (suc n) limit k before (chunks max_chunk_len k (suc m) g ++ u) ≡ (before + length g, u)
    cut a b is len go =
        let all : length g ≡ max_chunk_len + length b = omega (arith, ap length is, length-append a b) in
        let e : k + 1 + m ≡ k + suc m = omega arith in
        let f : before + max_chunk_len + length b ≡ before + length g = omega arith in
        let t' : has_chunk_of (k + 1 + m) limit (before + max_chunk_len + length b) u ≡ false = ap (λ (i : ℕ). has_chunk_of i limit (before + max_chunk_len + length b) u) e ∙ ap (λ (i : ℕ). has_chunk_of (k + suc m) limit i u) f ∙ t in
        ap (λ (i : ℕ). full_run (suc n) limit k before (chunks max_chunk_len k i g ++ u)) (sym (add-one m))
        ∙ ap (λ (q : List ℕ). full_run (suc n) limit k before (chunks max_chunk_len k (m + 1) q ++ u)) is
        ∙ ap (λ (q : List ℕ). full_run (suc n) limit k before (q ++ u)) (chunks_prefix max_chunk_len k m a b len)
        ∙ ap (λ (q : List ℕ). full_run (suc n) limit k before q) (append_assoc (chunk k a) (chunks max_chunk_len (k + 1) m b) u)
        ∙ run_more n limit k before (chunk k a ++ (chunks max_chunk_len (k + 1) m b ++ u)) (chunk_taken k limit before a (chunks max_chunk_len (k + 1) m b ++ u) (omega arith)) (chunk_len k a (chunks max_chunk_len (k + 1) m b ++ u) ∙ len)
        ∙ ap (λ (q : List ℕ). full_run n limit (k + 1) (before + max_chunk_len) q) (chunk_after k a (chunks max_chunk_len (k + 1) m b ++ u))
        ∙ go (omega arith) (omega arith) (omega arith) t'
        ∙ ap (λ (i : ℕ). (i, u)) f

packets_cons : (n limit k : ℕ) (s p : List ℕ) → payload_in (suc (limit / max_chunk_len)) limit k 0 s ≡ Some p → packets_in (suc n) limit k s ≡ p ∷ packets_in n limit (next_sequence_id k p) (drop (length (framing k p)) s)
unfolding packets_in
packets_cons n limit k s p e = rw (e, packets_in) refl

packets_nil : (n limit k : ℕ) (s : List ℕ) → payload_in (suc (limit / max_chunk_len)) limit k 0 s ≡ None → packets_in n limit k s ≡ []
unfolding packets_in
packets_nil zero limit k s e = refl
packets_nil (suc n) limit k s e = rw (e, packets_in) refl

-- framings of payloads are read as the payloads
pub packets_seen : (n limit k : ℕ) (ps : List (List ℕ)) (r : List ℕ) → All (λ p. length p ≤ limit) ps → length ps ≤ n → packets_in n limit k (framings k ps ++ r) ≡ ps ++ packets_in (n - length ps) limit (sequence_id_after k ps) r
unfolding framings sequence_id_after
packets_seen n limit k [] r all fuel =
    let e : n ≡ n - 0 = omega arith in
    ap (λ (i : ℕ). packets_in i limit k r) e
packets_seen zero limit k (p ∷ ps) r all fuel = absurd (omega arith)
packets_seen (suc n) limit k (p ∷ ps) r all fuel =
    let first : length p ≤ limit = all 0 [] (omega arith) in
    let rest : All (λ p. length p ≤ limit) ps = λ i d h. all (suc i) d (omega arith) in
    let s : List ℕ = framings (next_sequence_id k p) ps ++ r in
    let e : suc n - length (p ∷ ps) ≡ n - length ps = omega arith in
    ap (λ (t : List ℕ). packets_in (suc n) limit k t) (append_assoc (framing k p) (framings (next_sequence_id k p) ps) r)
    ∙ packets_cons n limit k (framing k p ++ (framings (next_sequence_id k p) ps ++ r)) p (payload_read (suc (limit / max_chunk_len)) limit k 0 p (framings (next_sequence_id k p) ps ++ r) (omega arith) (omega arith))
    ∙ ap (λ (t : List ℕ). p ∷ packets_in n limit (next_sequence_id k p) t) (drop_at (framing k p) (framings (next_sequence_id k p) ps ++ r) (length (framing k p)) refl)
    ∙ ap (λ (t : List (List ℕ)). p ∷ t) (packets_seen n limit (next_sequence_id k p) ps r rest (omega arith))
    ∙ ap (λ (i : ℕ). p ∷ (ps ++ packets_in i limit (sequence_id_after (next_sequence_id k p) ps) r)) (sym e)

framings_long : (k : ℕ) (ps : List (List ℕ)) → length ps ≤ length (framings k ps)
unfolding framings
framings_long k [] = omega arith
framings_long k (p ∷ ps) = omega (arith, length-append (framing k p) (framings (next_sequence_id k p) ps), chunks_long max_chunk_len k (length p / max_chunk_len + 1) p, framings_long (next_sequence_id k p) ps)

-- the payloads that were read up to where no chunk can be taken are the packets
pub packets_of : (limit k : ℕ) (s : List ℕ) (ps : List (List ℕ)) (g u : List ℕ) (fault : Option PacketCodecError) → SplitsInto limit k s ps g u → Halts limit k ps g u fault → packets limit k s ≡ ps
packets_of limit k s ps g u fault r h =
    let c : List ℕ = chunks max_chunk_len (sequence_id_after k ps) (length g / max_chunk_len) g ++ u in
    let none = none_read (length g / max_chunk_len) (suc (limit / max_chunk_len)) limit (sequence_id_after k ps) 0 g u r.even (nothing_at h.nothing) in
    let fuel : length ps ≤ length s = omega (arith, ap length r.whole, length-append (framings k ps) (chunks max_chunk_len (sequence_id_after k ps) (length g / max_chunk_len) g ++ u), framings_long k ps) in
    ap (λ (t : List ℕ). packets_in (length s) limit k t) r.whole
    ∙ packets_seen (length s) limit k ps (chunks max_chunk_len (sequence_id_after k ps) (length g / max_chunk_len) g ++ u) r.each fuel
    ∙ ap (λ (t : List (List ℕ)). ps ++ t) (packets_nil (length s - length ps) limit (sequence_id_after k ps) (chunks max_chunk_len (sequence_id_after k ps) (length g / max_chunk_len) g ++ u) none)
    ∙ append-nil ps
  where
    nothing_at : has_chunk_of (sequence_id_after_chunks k ps g) limit (length g) u ≡ false → has_chunk_of (sequence_id_after k ps + length g / max_chunk_len) limit (0 + length g) u ≡ false
    nothing_at t =
        let z : 0 + length g ≡ length g = omega arith in
        ap (λ (i : ℕ). has_chunk_of (sequence_id_after_chunks k ps g) limit i u) z ∙ t

abbrev fault_of_run : ℕ → ℕ × List ℕ → Option PacketCodecError
fault_of_run limit x = chunk_fault limit x.0 x.1

pub fault_of_packets : (limit k : ℕ) (s : List ℕ) (ps : List (List ℕ)) (g u : List ℕ) (fault : Option PacketCodecError) → SplitsInto limit k s ps g u → Halts limit k ps g u fault → packet_fault limit k s ≡ fault
fault_of_packets limit k s ps g u fault r h =
    let is = packets_of limit k s ps g u fault r h in
    let z : 0 + length g ≡ length g = omega arith in
    let rest : after_packets limit k s ≡ chunks max_chunk_len (sequence_id_after k ps) (length g / max_chunk_len) g ++ u =
    ap (λ (q : List (List ℕ)). drop (length (framings k q)) s) is ∙ ap (λ (t : List ℕ). drop (length (framings k ps)) t) r.whole
    ∙ drop_at (framings k ps) (chunks max_chunk_len (sequence_id_after k ps) (length g / max_chunk_len) g ++ u) (length (framings k ps)) refl in
    let fuel : length g / max_chunk_len ≤ length (chunks max_chunk_len (sequence_id_after k ps) (length g / max_chunk_len) g ++ u) =
    omega (arith, length-append (chunks max_chunk_len (sequence_id_after k ps) (length g / max_chunk_len) g) u, chunks_long max_chunk_len (sequence_id_after k ps) (length g / max_chunk_len) g) in
    let run = run_read (length g / max_chunk_len) (length (chunks max_chunk_len (sequence_id_after k ps) (length g / max_chunk_len) g ++ u)) limit (sequence_id_after k ps) 0 g u r.even fuel (omega (arith, r.fits)) (ap (λ (i : ℕ). has_chunk_of (sequence_id_after_chunks k ps g) limit i u) z ∙ h.nothing) in
    ap (λ (q : List (List ℕ)). (fault_of_run limit) (full_run (length (after_packets limit k s)) limit (sequence_id_after k q) 0 (after_packets limit k s))) is
    ∙ ap (λ (t : List ℕ). (fault_of_run limit) (full_run (length t) limit (sequence_id_after k ps) 0 t)) rest
    ∙ ap (fault_of_run limit) run ∙ ap (λ (i : ℕ). chunk_fault limit i u) z ∙ h.why

-- framings from the same sequence id are equal only if payloads and rests are
pub framings_apart : (k : ℕ) (p q r t : List ℕ) → framing k p ++ r ≡ framing k q ++ t → (p ≡ q) × (r ≡ t)
framings_apart k p q r t e =
    let limit : ℕ = length p + length q in
    let a = payload_read (suc (length p + length q)) (length p + length q) k 0 p r (omega arith) (omega arith) in
    let b = payload_read (suc (length p + length q)) (length p + length q) k 0 q t (omega arith) (omega arith) in
    let c : Some p ≡ Some q = sym a ∙ ap (λ (s : List ℕ). payload_in (suc (length p + length q)) (length p + length q) k 0 s) e ∙ b in
    let same : p ≡ q = cc in
    (same, append_cancel_left (framing k p) r t (e ∙ ap (λ (x : List ℕ). framing k x ++ t) (sym same)))

-- if a stream begins with the framings of payloads, its packets begin with these payloads
pub prefix_of_packets : (limit k : ℕ) (s : List ℕ) (ps : List (List ℕ)) (r : List ℕ) → All (λ p. length p ≤ limit) ps → s ≡ framings k ps ++ r → packets limit k s ≡ ps ++ packets_in (length s - length ps) limit (sequence_id_after k ps) r
prefix_of_packets limit k s ps r all is =
    let fuel : length ps ≤ length s = omega (arith, ap length is, length-append (framings k ps) r, framings_long k ps) in
    ap (λ (t : List ℕ). packets_in (length s) limit k t) is ∙ packets_seen (length s) limit k ps r all fuel

-- a list of bytes
bytes_after : (n : ℕ) (s : List ℕ) → ((i : ℕ) → get_or s i 0 < 256) → (i : ℕ) → get_or (drop n s) i 0 < 256
bytes_after n s h i = rw (get_or-drop n s i 0) (h (n + i))

-- the reader takes only what is there
payload_in-sound : (n limit k before : ℕ) (s p : List ℕ) → ((i : ℕ) → get_or s i 0 < 256) → payload_in n limit k before s ≡ Some p → (r : List ℕ) × (s ≡ framing k p ++ r) × (before + length p ≤ limit)
payload_in-sound zero limit k before s p h e = absurd (differ p (sym (payload_zero limit k before s) ∙ e))
  where
    differ : (p : List ℕ) → None ≡ Some p → ⊥
    differ p h = cc
payload_in-sound (suc n) limit k before s p h e =
    elim (cases_Bool (has_chunk_of k limit before s)) [
      | inl t ↦ elim (order (payload_len_at s) max_chunk_len) [
        | inl short ↦ last t short
        | inr long ↦ more t (full_at t long) (λ b q. payload_in-sound n limit (k + 1) (before + max_chunk_len) (after_chunk s) b (bytes_after (4 + payload_len_at s) s h) q) (payload_in n limit (k + 1) (before + max_chunk_len) (after_chunk s)) refl
      ]
      | inr f ↦ absurd (differ p (sym (payload_none (suc n) limit k before s f) ∙ e))
    ]
  where
    differ : (p : List ℕ) → None ≡ Some p → ⊥
    differ p h = cc

    same : (a b : List ℕ) → Some a ≡ Some b → a ≡ b
    same a b h = cc

    full_at : has_chunk_of k limit before s ≡ true → max_chunk_len ≤ payload_len_at s → payload_len_at s ≡ max_chunk_len
    full_at t long =
        let a = h 0 in
        let b = h 1 in
        let c = h 2 in
        omega (arith, a, b, c)

    at : has_chunk_of k limit before s ≡ true → s ≡ chunk k (chunk_payload s) ++ after_chunk s
    at t =
        let parts = taken_parts k limit before s t in
        chunk_at k s parts.whole (h 0) (h 1) (h 2) parts.number

    last : has_chunk_of k limit before s ≡ true → payload_len_at s < max_chunk_len → (r : List ℕ) × (s ≡ framing k p ++ r) × (before + length p ≤ limit)
    last t short =
        let parts = taken_parts k limit before s t in
        let len = len_bytes s parts.whole in
        let is : chunk_payload s ≡ p = same (chunk_payload s) p (sym (payload_last n limit k before s t short) ∙ e) in
        (after_chunk s, at t ∙ ap (λ (x : List ℕ). x ++ after_chunk s) (sym (framing_short k (chunk_payload s) (omega (arith, len)))) ∙ ap (λ (x : List ℕ). framing k x ++ after_chunk s) is, omega (arith, len, ap length is, parts.fits))

    more : has_chunk_of k limit before s ≡ true → payload_len_at s ≡ max_chunk_len → ((b : List ℕ) → payload_in n limit (k + 1) (before + max_chunk_len) (after_chunk s) ≡ Some b → (r : List ℕ) × (after_chunk s ≡ framing (k + 1) b ++ r) × (before + max_chunk_len + length b ≤ limit)) → (o : Option (List ℕ)) → payload_in n limit (k + 1) (before + max_chunk_len) (after_chunk s) ≡ o → (r : List ℕ) × (s ≡ framing k p ++ r) × (before + length p ≤ limit)
    more t full go None q = absurd (differ p (sym (payload_more n limit k before s t full ∙ ap (λ (o : Option (List ℕ)). option_map (λ more. chunk_payload s ++ more) o) q) ∙ e))
    more t full go (Some b) q =
        let parts = taken_parts k limit before s t in
        let len : length (chunk_payload s) ≡ max_chunk_len = len_bytes s parts.whole ∙ full in
        let is : chunk_payload s ++ b ≡ p = same (chunk_payload s ++ b) p (sym (payload_more n limit k before s t full ∙ ap (λ (o : Option (List ℕ)). option_map (λ more. chunk_payload s ++ more) o) q) ∙ e) in
        let x = go b q in (
          x.0,
          at t ∙ ap (λ (y : List ℕ). chunk k (chunk_payload s) ++ y) x.1 ∙ sym (append_assoc (chunk k (chunk_payload s)) (framing (k + 1) b) x.0)
              ∙ ap (λ (y : List ℕ). y ++ x.0) (sym (framing_long k (chunk_payload s) b len)) ∙ ap (λ (y : List ℕ). framing k y ++ x.0) is,
          omega (arith, len, ap length is, length-append (chunk_payload s) b, x.2),
        )

bytes_of_prefix : (s a r : List ℕ) → s ≡ a ++ r → ((i : ℕ) → get_or s i 0 < 256) → (i : ℕ) → get_or r i 0 < 256
bytes_of_prefix s a r is h i = subst (λ (t : List ℕ). get_or t i 0 < 256) (ap (λ (t : List ℕ). drop (length a) t) is ∙ drop_at a r (length a) refl) (bytes_after (length a) s h i)

prefix_none : (limit k : ℕ) (s : List ℕ) (ps : List (List ℕ)) → ps ≡ [] → (r : List ℕ) × (s ≡ framings k ps ++ r) × All (λ p. length p ≤ limit) ps
unfolding framings
prefix_none limit k s ps e = (s, ap (λ (q : List (List ℕ)). framings k q ++ s) (sym e), subst (λ (q : List (List ℕ)). All (λ p. length p ≤ limit) q) (sym e) (search rules))

packets_zero : (limit k : ℕ) (s : List ℕ) → packets_in 0 limit k s ≡ []
unfolding packets_in
packets_zero limit k s = refl

prefix_cons : (limit k : ℕ) (s p r t : List ℕ) (ps qs : List (List ℕ)) → qs ≡ p ∷ ps → s ≡ framing k p ++ r → r ≡ framings (next_sequence_id k p) ps ++ t → length p ≤ limit → All (λ q. length q ≤ limit) ps → (t : List ℕ) × (s ≡ framings k qs ++ t) × All (λ q. length q ≤ limit) qs
unfolding framings
prefix_cons limit k s p r t ps qs e a b short all = (
  t,
  a ∙ ap (λ (x : List ℕ). framing k p ++ x) b ∙ sym (append_assoc (framing k p) (framings (next_sequence_id k p) ps) t) ∙ ap (λ (q : List (List ℕ)). framings k q ++ t) (sym e),
  subst (λ (q : List (List ℕ)). All (λ x. length x ≤ limit) q) (sym e) (cons_all p ps limit short all),
)
  where
    cons_all : (p : List ℕ) (ps : List (List ℕ)) (limit : ℕ) → length p ≤ limit → All (λ q. length q ≤ limit) ps → All (λ q. length q ≤ limit) (p ∷ ps)
    cons_all p ps limit h all zero d lt = h
    cons_all p ps limit h all (suc i) d lt = all i d (omega arith)

-- a stream begins with the packets' framings
pub packets_in-sound : (n limit k : ℕ) (s : List ℕ) → ((i : ℕ) → get_or s i 0 < 256) → (r : List ℕ) × (s ≡ framings k (packets_in n limit k s) ++ r) × All (λ p. length p ≤ limit) (packets_in n limit k s)
packets_in-sound zero limit k s h = nothing limit k s
  where
    nothing : (limit k : ℕ) (s : List ℕ) → (r : List ℕ) × (s ≡ framings k (packets_in 0 limit k s) ++ r) × All (λ p. length p ≤ limit) (packets_in 0 limit k s)
    nothing limit k s = prefix_none limit k s (packets_in 0 limit k s) (packets_zero limit k s)
packets_in-sound (suc n) limit k s h =
    go (λ p r. packets_in-sound n limit (next_sequence_id k p) r) (payload_in (suc (limit / max_chunk_len)) limit k 0 s) refl
  where
    go : ((p r : List ℕ) → ((i : ℕ) → get_or r i 0 < 256) → (t : List ℕ) × (r ≡ framings (next_sequence_id k p) (packets_in n limit (next_sequence_id k p) r) ++ t) × All (λ q. length q ≤ limit) (packets_in n limit (next_sequence_id k p) r)) → (o : Option (List ℕ)) → payload_in (suc (limit / max_chunk_len)) limit k 0 s ≡ o → (r : List ℕ) × (s ≡ framings k (packets_in (suc n) limit k s) ++ r) × All (λ p. length p ≤ limit) (packets_in (suc n) limit k s)
    go rec None q = prefix_none limit k s (packets_in (suc n) limit k s) (packets_nil (suc n) limit k s q)
    go rec (Some p) q =
        let x = payload_in-sound (suc (limit / max_chunk_len)) limit k 0 s p h q in
        let y = rec p x.0 (bytes_of_prefix s (framing k p) x.0 x.1 h) in
        let e : packets_in (suc n) limit k s ≡ p ∷ packets_in n limit (next_sequence_id k p) x.0 =
        packets_cons n limit k s p q ∙ ap (λ (t : List ℕ). p ∷ packets_in n limit (next_sequence_id k p) t) (ap (λ (t : List ℕ). drop (length (framing k p)) t) x.1 ∙ drop_at (framing k p) x.0 (length (framing k p)) refl) in
        prefix_cons limit k s p x.0 y.0 (packets_in n limit (next_sequence_id k p) x.0) (packets_in (suc n) limit k s) e x.1 y.1 (omega (arith, x.2)) y.2

-- framings with no bytes after them are read as the payloads
pub framings_read : (limit k : ℕ) (ps : List (List ℕ)) → All (λ p. length p ≤ limit) ps → (packets limit k (framings k ps) ≡ ps) × (packet_fault limit k (framings k ps) ≡ None)
framings_read limit k ps all =
    let r : SplitsInto limit k (framings k ps) ps [] [] = record {
      whole = sym (append-nil (framings k ps)) ∙ ap (λ (t : List ℕ). framings k ps ++ (t ++ [])) (sym (chunks_none max_chunk_len (sequence_id_after k ps) []));
      even = refl;
      each = all;
      fits = omega arith;
    } in
    let h : Halts limit k ps [] [] None = record { nothing = refl; why = refl } in
    (packets_of limit k (framings k ps) ps [] [] None r h, fault_of_packets limit k (framings k ps) ps [] [] None r h)
