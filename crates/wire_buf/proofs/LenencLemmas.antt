-- Reading a length-encoded integer finds its encoding.
use Rattle.std.proofs.Common.{◌≡◌, ◌≤◌, ◌<◌, ◌++◌, inl, inr, ℕ, suc, ◌^◌, List, [], ◌∷◌, length, drop, arith, refl, sym, ap, ◌∙◌, Some, None}
use Rattle.std.proofs.lemmas.Bool.Decides.{leb_tells, eqb_tells}
use Rattle.std.proofs.lemmas.List.{length-append, append-nil}
use Rattle.std.proofs.Math.Seq.{drop-append_seam}
use Rattle.byteorder.specs.Endian.{little_number, little_bytes}
use Rattle.byteorder.specs.Numbers.{little_from-append, little_from-lt, little_number-reads_back, length-bytes_low_first}
use Rattle.wire_buf.specs.Encoding.{Begins, Reads, Lacks, Alone, IsFixed, AreBytes, IsShortest}
use Rattle.wire_buf.specs.Numbers.{IsLenenc, one, two, three, eight, lenenc_encoded}
use Rattle.wire_buf.specs.LenencSplit.{split_number, split_lenenc}
use Rattle.wire_buf.proofs.EncodingLemmas.{Reads-fixed, Reads-prefix, Lacks-prefix, same_parts}

pub split_number-complete : (n v : ℕ) (bytes r : List ℕ) → IsFixed (little_number n) n v bytes → split_number n (bytes ++ r) ≡ Some (v, r)
unfolding split_number
split_number-complete n v bytes r h = elim (leb_tells n (length (bytes ++ r))) [
  | inl t ↦
      let size = h.size in
      let enough : n ≤ length bytes = omega (arith, size) in
      let value : little_number n (bytes ++ r) ≡ v = little_from-append n bytes r enough ∙ sym h.value_is in
      let rest : drop n (bytes ++ r) ≡ r = rw (← size) (drop-append_seam bytes r) in
      rw (t.0, value, rest) refl
  | inr f ↦ let size = h.size in absurd (omega (arith, f.1, size, length-append bytes r))
]

pub split_number-sound : (n v : ℕ) (x r : List ℕ) → split_number n x ≡ Some (v, r) → Begins (Alone (IsFixed (little_number n) n) v) x r
unfolding split_number
split_number-sound n v x r e = elim (leb_tells n (length x)) [
  | inl t ↦
      let f = rw t.0 at e in
      let p = same_parts (little_number n x) v (drop n x) r f in
      (Reads-fixed (little_number n) n v x r (little_from-append n) t.1 (sym p.0) (sym p.1)).begins
  | inr t ↦ let f = rw t.0 at e in absurd cc
]

pub split_lenenc-complete : (v : ℕ) (bytes r : List ℕ) → IsLenenc v bytes → split_lenenc (bytes ++ r) ≡ Some (v, r)
unfolding split_lenenc
split_lenenc-complete v bytes r (one h) = elim (leb_tells v 250) [
  | inl t ↦ rw t.0 refl
  | inr t ↦ absurd (omega (arith, t.1))
]
split_lenenc-complete v bytes r (two h) = split_number-complete 2 v _ r h
split_lenenc-complete v bytes r (three h) = split_number-complete 3 v _ r h
split_lenenc-complete v bytes r (eight h) = split_number-complete 8 v _ r h

-- a known byte first
after_byte : (encodes tail : ℕ → List ℕ → Type 0) (b k v : ℕ) (x r : List ℕ) → b ≡ k → ((bytes : List ℕ) → tail v bytes → encodes v (k ∷ bytes)) → Begins (Alone tail v) x r → Begins (Alone encodes v) (b ∷ x) r
after_byte encodes tail b k v x r e wider t = record {
  bytes = k ∷ t.bytes;
  joined = ap (λ (n : ℕ). n ∷ x) e ∙ ap (λ (l : List ℕ). k ∷ l) t.joined;
  is = wider t.bytes t.is;
}

pub split_lenenc-sound : (v : ℕ) (x r : List ℕ) → split_lenenc x ≡ Some (v, r) → Begins (Alone IsLenenc v) x r
unfolding split_lenenc
split_lenenc-sound v [] r e = absurd cc
split_lenenc-sound v (b ∷ x) r e = elim (leb_tells b 250) [
  | inl t ↦
      let f = rw t.0 at e in
      let p = same_parts b v x r f in
      record { bytes = v ∷ []; joined = rw (p.0, p.1) refl; is = one (omega (arith, t.1, p.0)) }
  | inr t ↦ let f = rw t.0 at e in elim (eqb_tells b 252) [
    | inl k ↦ after_byte IsLenenc (IsFixed (little_number 2) 2) b 252 v x r k.1 (λ bytes h. two h) (split_number-sound 2 v x r (rw k.0 at f))
    | inr k ↦ let g = rw k.0 at f in elim (eqb_tells b 253) [
      | inl m ↦ after_byte IsLenenc (IsFixed (little_number 3) 3) b 253 v x r m.1 (λ bytes h. three h) (split_number-sound 3 v x r (rw m.0 at g))
      | inr m ↦ let j = rw m.0 at g in elim (eqb_tells b 254) [
        | inl n ↦ after_byte IsLenenc (IsFixed (little_number 8) 8) b 254 v x r n.1 (λ bytes h. eight h) (split_number-sound 8 v x r (rw n.0 at j))
        | inr n ↦ let o = rw n.0 at j in absurd cc
      ]
    ]
  ]
]

pub lenenc_reads : (v : ℕ) (x r : List ℕ) → split_lenenc x ≡ Some (v, r) → Reads (Alone IsLenenc) v x r
lenenc_reads v x r e = Reads-prefix IsLenenc split_lenenc split_lenenc-complete v x r (split_lenenc-sound v x r e)

pub lenenc_lacks : (x : List ℕ) → split_lenenc x ≡ None → Lacks (Alone IsLenenc) x
lenenc_lacks x e = Lacks-prefix IsLenenc split_lenenc split_lenenc-complete x e

-- little-endian bytes encode their number
pub little_bytes-sound : (n v : ℕ) → v < 256 ^ n → IsFixed (little_number n) n v (little_bytes n v)
little_bytes-sound n v fits = record {
  size = length-bytes_low_first 0 n v;
  value_is = sym (little_number-reads_back n v [] fits) ∙ ap (little_number n) (append-nil (little_bytes n v));
}

-- bytes after the first
tail_bytes : (b : ℕ) (xs : List ℕ) → AreBytes (b ∷ xs) → AreBytes xs
tail_bytes b xs h k = h (suc k)

-- the encoding of a number above a bound has at least so many bytes
lenenc_long : (v : ℕ) (other : List ℕ) → IsLenenc v other → AreBytes other
    → (1 ≤ length other) × (250 < v → 3 ≤ length other) × (65535 < v → 4 ≤ length other) × (16777215 < v → 9 ≤ length other)
lenenc_long v other (one h) bytes = (omega arith, (λ far. absurd (omega (arith, h, far))), (λ far. absurd (omega (arith, h, far))), (λ far. absurd (omega (arith, h, far))))
lenenc_long v other (two {bytes = xs} h) bytes =
    let size = h.size in
    let small : v < 65536 = rw h.value_is (little_from-lt 0 2 xs (tail_bytes 252 xs bytes)) in
    (omega arith, (λ _. omega (arith, size)), (λ far. absurd (omega (arith, small, far))), (λ far. absurd (omega (arith, small, far))))
lenenc_long v other (three {bytes = xs} h) bytes =
    let size = h.size in
    let small : v < 16777216 = rw h.value_is (little_from-lt 0 3 xs (tail_bytes 253 xs bytes)) in
    (omega arith, (λ _. omega (arith, size)), (λ _. omega (arith, size)), (λ far. absurd (omega (arith, small, far))))
lenenc_long v other (eight {bytes = xs} h) bytes =
    let size = h.size in
    (omega arith, (λ _. omega (arith, size)), (λ _. omega (arith, size)), (λ _. omega (arith, size)))

pub lenenc_least : (v : ℕ) → v < 2 ^ 64 → IsShortest IsLenenc v (lenenc_encoded v)
unfolding lenenc_encoded
lenenc_least v fits = elim (leb_tells (suc v) 251) [
  | inl t ↦ rw t.0 (record { is = one {v = v} (omega (arith, t.1)); least = λ other h bytes. (lenenc_long v other h bytes).0 })
  | inr t ↦ rw t.0 (elim (leb_tells (suc v) 65536) [
    | inl u ↦ rw u.0 (record { is = two (little_bytes-sound 2 v (omega (arith, u.1))); least = λ other h bytes. (lenenc_long v other h bytes).1 (omega (arith, t.1)) })
    | inr u ↦ rw u.0 (elim (leb_tells (suc v) 16777216) [
      | inl w ↦ rw w.0 (record { is = three (little_bytes-sound 3 v (omega (arith, w.1))); least = λ other h bytes. (lenenc_long v other h bytes).2 (omega (arith, u.1)) })
      | inr w ↦ rw w.0 (record { is = eight (little_bytes-sound 8 v (omega (arith, fits))); least = λ other h bytes. (lenenc_long v other h bytes).3 (omega (arith, w.1)) })
    ])
  ])
]
