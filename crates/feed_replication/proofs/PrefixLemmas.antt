-- The packets in a prefix of framings are a prefix of the payloads.
use Rattle.std.proofs.Common.{◌≡◌, ℕ, zero, suc, ◌+◌, ◌-◌, ◌/◌, ◌<◌, ◌≤◌, true, false, ◌⊎◌, inl, inr, List, [], ◌∷◌, ◌++◌, length, take, drop, Option, Some, None, option_map, All, refl, sym, ap, ◌∙◌, arith, nat_eq, length-append, eq-eqb}
use Rattle.std.proofs.lemmas.List.{drop_at, take-append-le, take-append-drop, length-take, length-take-le}
use Rattle.std.proofs.lemmas.Bool.{cases_Bool}
use Rattle.std.proofs.Math.Seq.{take-append-add}
use Rattle.wire_packets.specs.Framing.{max_chunk_len, chunk, framing, framings, next_sequence_id}
use Rattle.wire_packets.specs.Reading.{payload_len_at, has_chunk_of, chunk_payload, after_chunk}
use Rattle.wire_packets.specs.Packets.{payload_in, packets_in}
use Rattle.wire_packets.proofs.ReadingLemmas.{header_short, too_large, chunk_short}
use Rattle.wire_packets.proofs.PacketLemmas.{chunk_len, chunk_after, framing_short, framing_long, payload_read, order}

-- ---- payloads

payload_zero : (limit k before : ℕ) (s : List ℕ) → payload_in 0 limit k before s ≡ None
unfolding payload_in
payload_zero limit k before s = refl

payload_none : (n limit k before : ℕ) (s : List ℕ) → has_chunk_of k limit before s ≡ false → payload_in n limit k before s ≡ None
unfolding payload_in
payload_none zero limit k before s t = refl
payload_none (suc n) limit k before s t = rw t refl

payload_more : (n limit k before : ℕ) (s : List ℕ) → has_chunk_of k limit before s ≡ true → payload_len_at s ≡ max_chunk_len → payload_in (suc n) limit k before s ≡ option_map (λ more. chunk_payload s ++ more) (payload_in n limit (k + 1) (before + max_chunk_len) (after_chunk s))
unfolding payload_in
payload_more n limit k before s t full =
    let e : nat_eq (payload_len_at s) max_chunk_len ≡ true = eq-eqb (payload_len_at s) max_chunk_len full in
    rw (t, e) refl

-- a full chunk before bytes that are no payload
payload_full : (n limit k before : ℕ) (a r : List ℕ) → length a ≡ max_chunk_len → payload_in n limit (k + 1) (before + max_chunk_len) r ≡ None → payload_in (suc n) limit k before (chunk k a ++ r) ≡ None
payload_full n limit k before a r len h =
    elim (cases_Bool (has_chunk_of k limit before (chunk k a ++ r))) [
      | inl t ↦ payload_more n limit k before (chunk k a ++ r) t (chunk_len k a r ∙ len)
          ∙ ap (λ (x : List ℕ). option_map (λ more. chunk_payload (chunk k a ++ r) ++ more) (payload_in n limit (k + 1) (before + max_chunk_len) x)) (chunk_after k a r)
          ∙ ap (λ (o : Option (List ℕ)). option_map (λ more. chunk_payload (chunk k a ++ r) ++ more) o) h
      | inr f ↦ payload_none (suc n) limit k before (chunk k a ++ r) f
    ]

-- a truncated chunk isn't taken
not-taken : (k limit before n : ℕ) (s : List ℕ) → 4 ≤ length s → payload_len_at s ≡ n → length s < 4 + n → has_chunk_of k limit before s ≡ false
not-taken k limit before n s four is short = elim (order limit (before + payload_len_at s)) [
  | inl over ↦ (too_large k limit before s four over).0
  | inr within ↦ (chunk_short k limit before s within (omega (arith, is))).0
]

cut-chunk : (k limit before c : ℕ) (a : List ℕ) → c < 4 + length a → has_chunk_of k limit before (take c (chunk k a)) ≡ false
cut-chunk k limit before zero a h = (header_short k limit before (take 0 (chunk k a)) (omega arith)).0
cut-chunk k limit before (suc zero) a h = (header_short k limit before (take 1 (chunk k a)) (omega arith)).0
cut-chunk k limit before (suc (suc zero)) a h = (header_short k limit before (take 2 (chunk k a)) (omega arith)).0
cut-chunk k limit before (suc (suc (suc zero))) a h = (header_short k limit before (take 3 (chunk k a)) (omega arith)).0
cut-chunk k limit before (suc (suc (suc (suc d)))) a h =
    let l : length (take d a) ≡ d = length-take-le d a (omega arith) in
    not-taken k limit before (length a) (take (suc (suc (suc (suc d)))) (chunk k a)) (omega arith) (omega arith) (omega (arith, l))

-- a cut in two concatenated lists is in the first or in the second
cut : {A : Type 0} (c : ℕ) (x y : List A) → (c < length x) ⊎ ((d : ℕ) × (take c (x ++ y) ≡ x ++ take d y))
cut {A = A} c x y = elim (order c (length x)) [
  | inl h ↦ inl h
  | inr h ↦ inr (c - length x, let e : c ≡ length x + (c - length x) = omega arith in ap (λ (n : ℕ). take n (x ++ y)) e ∙ take-append-add x y (c - length x))
]

-- a truncated framing holds no payload
cut-framing : (n limit k before c : ℕ) (p : List ℕ) → c < length (framing k p) → payload_in n limit k before (take c (framing k p)) ≡ None
cut-framing zero limit k before c p h = payload_zero limit k before (take c (framing k p))
cut-framing (suc n) limit k before c p h =
    elim (order (length p) max_chunk_len) [
      | inl short ↦ let e = framing_short k p short in
          ap (λ (t : List ℕ). payload_in (suc n) limit k before (take c t)) e ∙ payload_none (suc n) limit k before (take c (chunk k p)) (cut-chunk k limit before c p (omega (arith, ap length e)))
      | inr long ↦ long_one (take max_chunk_len p) (drop max_chunk_len p) (sym (take-append-drop max_chunk_len p)) (length-take-le max_chunk_len p long) (λ d g. cut-framing n limit (k + 1) (before + max_chunk_len) d (drop max_chunk_len p) g)
    ]
  where
    long_one : (a b : List ℕ) → p ≡ a ++ b → length a ≡ max_chunk_len → ((d : ℕ) → d < length (framing (k + 1) b) → payload_in n limit (k + 1) (before + max_chunk_len) (take d (framing (k + 1) b)) ≡ None) → payload_in (suc n) limit k before (take c (framing k p)) ≡ None
    long_one a b is len go =
        let e : framing k p ≡ chunk k a ++ framing (k + 1) b = ap (framing k) is ∙ framing_long k a b len in
        let l : c < length (chunk k a) + length (framing (k + 1) b) = omega (arith, ap length e, length-append (chunk k a) (framing (k + 1) b)) in
        ap (λ (t : List ℕ). payload_in (suc n) limit k before (take c t)) e
        ∙ (elim (order c (length (chunk k a))) [
          | inl g ↦ ap (λ (t : List ℕ). payload_in (suc n) limit k before t) (take-append-le c (chunk k a) (framing (k + 1) b) (omega arith))
              ∙ payload_none (suc n) limit k before (take c (chunk k a)) (cut-chunk k limit before c a (omega arith))
          | inr g ↦ let d : ℕ = c - length (chunk k a) in
              let f : c ≡ length (chunk k a) + (c - length (chunk k a)) = omega arith in
              ap (λ (i : ℕ). payload_in (suc n) limit k before (take i (chunk k a ++ framing (k + 1) b))) f
              ∙ ap (λ (t : List ℕ). payload_in (suc n) limit k before t) (take-append-add (chunk k a) (framing (k + 1) b) (c - length (chunk k a)))
              ∙ payload_full n limit k before a (take (c - length (chunk k a)) (framing (k + 1) b)) len (go (c - length (chunk k a)) (omega arith))
        ])

-- ---- packets

packets_cons : (n limit k : ℕ) (s p : List ℕ) → payload_in (suc (limit / max_chunk_len)) limit k 0 s ≡ Some p → packets_in (suc n) limit k s ≡ p ∷ packets_in n limit (next_sequence_id k p) (drop (length (framing k p)) s)
unfolding packets_in
packets_cons n limit k s p e = rw (e, packets_in) refl

packets_nil : (n limit k : ℕ) (s : List ℕ) → payload_in (suc (limit / max_chunk_len)) limit k 0 s ≡ None → packets_in n limit k s ≡ []
unfolding packets_in
packets_nil zero limit k s e = refl
packets_nil (suc n) limit k s e = rw (e, packets_in) refl

packets_zero : (limit k : ℕ) (s : List ℕ) → packets_in 0 limit k s ≡ []
unfolding packets_in
packets_zero limit k s = refl

-- a list is a prefix of another
abbrev pub IsPrefix : {A : Type 0} → List A → List A → Type 0
IsPrefix {A = A} x y = (more : List A) × (y ≡ x ++ more)

nothing-taken : (x : List ℕ) (c : ℕ) → x ≡ [] → length (take c x) ≡ 0
nothing-taken x c e = omega (arith, length-take c x, ap length e)

-- the packets in a prefix of framings are a prefix of the payloads
pub packets-prefix : (limit n k c : ℕ) (ps : List (List ℕ)) → All (λ p. length p ≤ limit) ps → IsPrefix (packets_in n limit k (take c (framings k ps))) ps
unfolding framings
packets-prefix limit zero k c ps all = (ps, sym (ap (λ (q : List (List ℕ)). q ++ ps) (packets_zero limit k (take c (framings k ps)))))
packets-prefix limit (suc n) k c [] all =
    let l = nothing-taken [] c refl in
    ([], sym (ap (λ (q : List (List ℕ)). q ++ []) (packets_nil (suc n) limit k (take c []) (payload_none (suc (limit / max_chunk_len)) limit k 0 (take c []) (header_short k limit 0 (take c []) (omega (arith, l))).0))))
packets-prefix limit (suc n) k c (p ∷ ps) all =
    let rest : All (λ p. length p ≤ limit) ps = λ i d h. all (suc i) d (omega arith) in
    let fits : length p ≤ limit = all 0 [] (omega arith) in
    elim (cut c (framing k p) (framings (next_sequence_id k p) ps)) [
      | inl h ↦ (
        p ∷ ps,
        sym (ap (λ (q : List (List ℕ)). q ++ p ∷ ps) (
            ap (λ (t : List ℕ). packets_in (suc n) limit k t) (take-append-le c (framing k p) (framings (next_sequence_id k p) ps) (omega arith))
            ∙ packets_nil (suc n) limit k (take c (framing k p)) (cut-framing (suc (limit / max_chunk_len)) limit k 0 c p h))),
      )
      | inr h ↦ let g = packets-prefix limit n (next_sequence_id k p) h.0 ps rest in (
        g.0,
        ap (λ (t : List (List ℕ)). p ∷ t) g.1 ∙ sym (ap (λ (q : List (List ℕ)). q ++ g.0) (
            ap (λ (t : List ℕ). packets_in (suc n) limit k t) h.1
            ∙ packets_cons n limit k (framing k p ++ take h.0 (framings (next_sequence_id k p) ps)) p (payload_read (suc (limit / max_chunk_len)) limit k 0 p (take h.0 (framings (next_sequence_id k p) ps)) (omega arith) (omega arith))
            ∙ ap (λ (t : List ℕ). p ∷ packets_in n limit (next_sequence_id k p) t) (drop_at (framing k p) (take h.0 (framings (next_sequence_id k p) ps)) (length (framing k p)) refl))),
      )
    ]
