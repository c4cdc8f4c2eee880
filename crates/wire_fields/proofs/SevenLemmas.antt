-- Reading seven bits a byte finds the encodings.
use Rattle.std.proofs.Common.{◌≡◌, ◌≤◌, ◌<◌, ◌+◌, ◌*◌, ◌-◌, ◌^◌, ◌++◌, inl, inr, ℕ, zero, suc, List, [], ◌∷◌, arith, refl, sym, ap, ◌∙◌, subst, Option, Some, None, option_map, false, take, length, set, append_assoc, add-one, slice_index, ◌/◌, ◌%◌}
use Rattle.std.proofs.lemmas.Bool.Decides.{leb_tells}
use Rattle.std.proofs.lemmas.List.{take_more_set}
use Rattle.wire_buf.specs.Eating.{Eats, IsShort}
use Rattle.std.proofs.Math.Nat.{pow-le-pow_right, pow-succ', mul-le-mul, mul-le-mul_left, mul-add, mul_assoc, add_assoc}
use Rattle.wire_buf.specs.Encoding.{Begins, Reads, Lacks, Alone}
use Rattle.wire_buf.proofs.EncodingLemmas.{same_parts}
use Rattle.std.specs.Prelude.{nat_le}
use Rattle.std.specs.List.{list_all}
use Rattle.wire_buf.specs.declared.fault.WireFault.TheVariants.{BadNumber}
use Rattle.wire_buf.specs.Encoding.{AreBytes, IsShortest}
use Rattle.wire_buf.specs.Writing.{Writes}
use Rattle.wire_fields.specs.IntFaults.{varlen_fault}
use Rattle.wire_fields.specs.Sevens.{IsSevens, IsVarLen, last, more, sevens_split, sevens_encoded, varlen_encoded}

pub sevens_split-complete : (k v : ℕ) (bytes r : List ℕ) → IsSevens k v bytes → sevens_split k (bytes ++ r) ≡ Some (v, r)
unfolding sevens_split
sevens_split-complete k v bytes r (last {b = b} h) = elim (leb_tells (suc b) 128) [
  | inl t ↦ rw t.0 refl
  | inr t ↦ absurd (omega (arith, t.1, h))
]
sevens_split-complete k v bytes r (more {k = j} {d = d} {v = w} {bytes = xs} big h) = elim (leb_tells (suc d) 128) [
  | inl t ↦ absurd (omega (arith, t.1, big))
  | inr t ↦ let rest = sevens_split-complete j w xs r h in rw (t.0, rest) refl
]

-- the bytes after a first byte with its top bit set
after_byte_found : (d v : ℕ) (r : List ℕ) (o : Option (ℕ × List ℕ)) → ◌≡◌ {A = Option (ℕ × List ℕ)} (option_map (λ p. ((d - 128) + 128 * p.0, p.1)) o) (Some (v, r)) → (w : ℕ) × (o ≡ Some (w, r)) × (v ≡ (d - 128) + 128 * w)
after_byte_found d v r None e = absurd cc
after_byte_found d v r (Some q) e =
    let p = same_parts ((d - 128) + 128 * q.0) v q.1 r e in
    (q.0, ap (λ l. Some (q.0, l)) p.1, sym p.0)

pub sevens_split-sound : (k v : ℕ) (x r : List ℕ) → sevens_split k x ≡ Some (v, r) → Begins (Alone (IsSevens k) v) x r
unfolding sevens_split
sevens_split-sound zero v x r e = absurd cc
sevens_split-sound (suc k) v [] r e = absurd cc
sevens_split-sound (suc k) v (b ∷ x) r e = elim (leb_tells (suc b) 128) [
  | inl t ↦
      let f = rw t.0 at e in
      let p = same_parts b v x r f in
      record { bytes = b ∷ []; joined = rw p.1 refl; is = subst (λ n. IsSevens (suc k) n (b ∷ [])) p.0 (last t.1) }
  | inr t ↦
      let f = rw t.0 at e in
      let q = after_byte_found b v r (sevens_split k x) f in
      let rest = sevens_split-sound k q.0 x r q.1 in
      record {
        bytes = b ∷ rest.bytes;
        joined = ap (λ l. b ∷ l) rest.joined;
        is = subst (λ n. IsSevens (suc k) n (b ∷ rest.bytes)) (sym q.2) (more (omega (arith, t.1)) rest.is);
      }
]

-- the remaining bytes give the number, once the bytes before them are added
unfoldable pub LeavesSevens : ℕ → ℕ → ℕ → List ℕ → List ℕ → Type 0
LeavesSevens value scale left all rest = sevens_split 5 all ≡ option_map (λ p. (value + scale * p.0, p.1)) (sevens_split left rest)

option_map-same : (o : Option (ℕ × List ℕ)) → o ≡ option_map (λ p. (0 + 1 * p.0, p.1)) o
option_map-same None = refl
option_map-same (Some p) = let same : p.0 ≡ 0 + 1 * p.0 = omega arith in ap (λ n. Some (n, p.1)) same

pub sevens_begun : (x : List ℕ) → LeavesSevens 0 1 5 x x
unfolding LeavesSevens
sevens_begun x = option_map-same (sevens_split 5 x)

grouped : (value scale low high : ℕ) → value + scale * (low + 128 * high) ≡ (value + scale * low) + (scale * 128) * high
grouped value scale low high = ap (λ n. value + n) (mul-add scale low (128 * high) ∙ ap (λ n. scale * low + n) (sym (mul_assoc scale 128 high))) ∙ sym (add_assoc value (scale * low) ((scale * 128) * high))

option_map-twice : (value scale low : ℕ) (o : Option (ℕ × List ℕ)) → option_map {U = ℕ × List ℕ} (λ p. (value + scale * p.0, p.1)) (option_map {U = ℕ × List ℕ} (λ p. (low + 128 * p.0, p.1)) o) ≡ option_map {U = ℕ × List ℕ} (λ p. ((value + scale * low) + (scale * 128) * p.0, p.1)) o
option_map-twice value scale low None = refl
option_map-twice value scale low (Some p) = ap (λ n. Some (n, p.1)) (grouped value scale low p.0)

-- the byte that was read is the first one
eaten_byte : (b : ℕ) (x y : List ℕ) → Eats (λ z. slice_index z 0) 1 b x y → x ≡ b ∷ y
eaten_byte b [] y e = let room = e.room in absurd (omega (arith, room))
eaten_byte b (a ∷ x) y e = ap (λ n. n ∷ x) (sym e.value_is) ∙ ap (λ l. b ∷ l) (sym e.rest)

-- no byte was read
none_eaten : (x y : List ℕ) → IsShort 1 x y → x ≡ []
none_eaten [] y e = refl
none_eaten (a ∷ x) y e = let missing = e.missing in absurd (omega (arith, missing))

-- one more byte whose top bit is set
pub sevens_gone_on : (value scale left n a b : ℕ) (all x y : List ℕ) → LeavesSevens value scale left all x → Eats (λ z. slice_index z 0) 1 a x y → b ≡ a → left ≡ suc n → 128 ≤ b
    → LeavesSevens (value + scale * (b - 128)) (scale * 128) n all y
unfolding LeavesSevens sevens_split
sevens_gone_on value scale left n a b all x y h eaten same e big = elim (leb_tells (suc b) 128) [
  | inl t ↦ absurd (omega (arith, t.1, big))
  | inr t ↦
      let f = rw (e, eaten_byte a x y eaten, ← same, t.0) at h in
      f ∙ option_map-twice value scale (b - 128) (sevens_split n y)
]

-- the last byte
pub sevens_ended : (value scale left n a b : ℕ) (all x y : List ℕ) → LeavesSevens value scale left all x → Eats (λ z. slice_index z 0) 1 a x y → b ≡ a → left ≡ suc n → b < 128
    → ◌≡◌ {A = Option (ℕ × List ℕ)} (Some (value + scale * b, y)) (sevens_split 5 all)
unfolding LeavesSevens sevens_split
sevens_ended value scale left n a b all x y h eaten same e small = elim (leb_tells (suc b) 128) [
  | inl t ↦ let f = rw (e, eaten_byte a x y eaten, ← same, t.0) at h in sym f
  | inr t ↦ absurd (omega (arith, t.1, small))
]

-- no byte remains, or none may follow
pub sevens_cut_off : (value scale left n : ℕ) (all x y : List ℕ) → LeavesSevens value scale left all x → IsShort 1 x y → left ≡ suc n → ◌≡◌ {A = Option (ℕ × List ℕ)} None (sevens_split 5 all)
unfolding LeavesSevens sevens_split
sevens_cut_off value scale left n all x y h short e = let f = rw (e, none_eaten x y short) at h in sym f

pub sevens_run_out : (value scale left : ℕ) (all x : List ℕ) → LeavesSevens value scale left all x → left ≡ 0 → ◌≡◌ {A = Option (ℕ × List ℕ)} None (sevens_split 5 all)
unfolding LeavesSevens sevens_split
sevens_run_out value scale left all x h e = let f = rw e at h in sym f

-- what each of the first five bytes contributes
pub part_fits : (i scale b : ℕ) → scale ≡ 128 ^ i → i < 5 → b ≤ 255 → (scale ≤ 268435456) × (scale * b ≤ 268435456 * 255)
part_fits i scale b e few small =
    let most : 128 ^ i ≤ 128 ^ 4 = pow-le-pow_right {n = 128} (omega arith) {i = i} {j = 4} (omega arith) in
    let at_most : scale ≤ 268435456 = omega (arith, e, most) in
    (at_most, mul-le-mul at_most small)

pub scale_more : (i scale : ℕ) → scale ≡ 128 ^ i → scale * 128 ≡ 128 ^ (i + 1)
scale_more i scale e = let more = pow-succ' 128 i in rw add-one (omega (arith, e, more))

pub below_more : (value scale b : ℕ) → value < scale → b ≤ 127 → value + scale * b < scale * 128
below_more value scale b low small =
    let part : scale * b ≤ scale * 127 = mul-le-mul_left scale small in
    omega (arith, low, part)

begins_varlen : (v : ℕ) (x r : List ℕ) → Begins (Alone IsVarLen v) x r → sevens_split 5 x ≡ Some (v, r)
begins_varlen v x r t = rw t.joined (sevens_split-complete 5 v t.bytes r t.is.sevens)

pub varlen_reads : (v : ℕ) (x r : List ℕ) → sevens_split 5 x ≡ Some (v, r) → v < 2 ^ 32 → Reads (Alone IsVarLen) v x r
varlen_reads v x r e fits =
    let t = sevens_split-sound 5 v x r e in
    record {
      begins = record { bytes = t.bytes; joined = t.joined; is = record { sevens = t.is; fits = fits } };
      only = λ w s u. let p = same_parts w v s r (sym (begins_varlen w x s u) ∙ e) in (p.1, sym p.0);
    }

pub varlen_lacks : (x : List ℕ) → sevens_split 5 x ≡ None → Lacks (Alone IsVarLen) x
varlen_lacks x e v r t = let f : ◌≡◌ {A = Option (ℕ × List ℕ)} (Some (v, r)) None = sym (begins_varlen v x r t) ∙ e in absurd cc

pub varlen_lacks_big : (v : ℕ) (x r : List ℕ) → sevens_split 5 x ≡ Some (v, r) → 2 ^ 32 ≤ v → Lacks (Alone IsVarLen) x
varlen_lacks_big v x r e big w s t =
    let p = same_parts w v s r (sym (begins_varlen w x s t) ∙ e) in
    let fits = t.is.fits in
    omega (arith, p.0, fits, big)

-- if a number is found, one of its bytes is the last
more_is_false : (k v : ℕ) (x r : List ℕ) → sevens_split k x ≡ Some (v, r) → list_all (λ b. nat_le 128 b) x ≡ false
unfolding sevens_split
more_is_false zero v x r e = absurd cc
more_is_false (suc k) v [] r e = absurd cc
more_is_false (suc k) v (b ∷ x) r e = elim (leb_tells (suc b) 128) [
  | inl t ↦ elim (leb_tells 128 b) [
    | inl s ↦ absurd (omega (arith, t.1, s.1))
    | inr s ↦ rw s.0 refl
  ]
  | inr t ↦
      let f = rw t.0 at e in
      let q = after_byte_found b v r (sevens_split k x) f in
      let tail = more_is_false k q.0 x r q.1 in
      elim (leb_tells 128 b) [
        | inl s ↦ rw (s.0, tail) refl
        | inr s ↦ rw s.0 refl
      ]
]

pub varlen_fault-found : (v : ℕ) (x r : List ℕ) → sevens_split 5 x ≡ Some (v, r) → varlen_fault x ≡ BadNumber
varlen_fault-found v x r e =
    let f = more_is_false 5 v x r e in
    elim (leb_tells (suc (length x)) 5) [
      | inl t ↦ rw (t.0, f) refl
      | inr t ↦ rw t.0 refl
    ]

-- in the array of five bytes there is room for one more
pub room_for_more : (len rest : ℕ) → len ≤ 4 → rest < 128 ^ (5 - len) → 128 ≤ rest → (len + 1 ≤ 4) × (rest / 128 < 128 ^ (5 - (len + 1)))
room_for_more zero rest room fits big = (omega arith, omega (arith, fits))
room_for_more (suc zero) rest room fits big = (omega arith, omega (arith, fits))
room_for_more (suc (suc zero)) rest room fits big = (omega arith, omega (arith, fits))
room_for_more (suc (suc (suc zero))) rest room fits big = (omega arith, omega (arith, fits))
room_for_more (suc (suc (suc (suc zero)))) rest room fits big = absurd (omega (arith, fits, big))
room_for_more (suc (suc (suc (suc (suc n))))) rest room fits big = absurd (omega (arith, room))

-- a number of more than seven bits is encoded as its lowest seven bits, then the rest
sevens_step : (j rest : ℕ) → 128 ≤ rest → sevens_encoded (suc j) rest ≡ (rest % 128 + 128) ∷ sevens_encoded j (rest / 128)
unfolding sevens_encoded
sevens_step j rest big = elim (leb_tells (suc rest) 128) [
  | inl t ↦ absurd (omega (arith, t.1, big))
  | inr t ↦ rw t.0 refl
]

sevens_end : (j rest : ℕ) → rest < 128 → sevens_encoded (suc j) rest ≡ rest ∷ []
unfolding sevens_encoded
sevens_end j rest small = elim (leb_tells (suc rest) 128) [
  | inl t ↦ rw t.0 refl
  | inr t ↦ absurd (omega (arith, t.1, small))
]

-- one more byte in the array
pub sevens_more : (len rest : ℕ) (bytes all : List ℕ) → 128 ≤ rest → len + 1 ≤ 4 → length bytes ≡ 5
    → take len bytes ++ sevens_encoded (5 - len) rest ≡ all
    → take (len + 1) (set bytes len (rest % 128 + 128)) ++ sevens_encoded (5 - (len + 1)) (rest / 128) ≡ all
sevens_more len rest bytes all big room size e =
    let left : 5 - len ≡ suc (5 - (len + 1)) = omega (arith, room) in
    let inside : len < length bytes = omega (arith, room, size) in
    let y = rest % 128 + 128 in
    ap (λ (l : List ℕ). l ++ sevens_encoded (5 - (len + 1)) (rest / 128)) (take_more_set bytes len y inside)
    ∙ append_assoc (take len bytes) (y ∷ []) (sevens_encoded (5 - (len + 1)) (rest / 128))
    ∙ ap (λ (l : List ℕ). take len bytes ++ l) (sym (sevens_step (5 - (len + 1)) rest big))
    ∙ ap (λ (n : ℕ). take len bytes ++ sevens_encoded n rest) (sym left) ∙ e

-- the last byte in the array
pub sevens_last : (len rest : ℕ) (bytes all : List ℕ) → rest < 128 → len ≤ 4 → length bytes ≡ 5
    → take len bytes ++ sevens_encoded (5 - len) rest ≡ all → take (len + 1) (set bytes len rest) ≡ all
sevens_last len rest bytes all small room size e =
    let left : 5 - len ≡ suc (4 - len) = omega (arith, room) in
    let inside : len < length bytes = omega (arith, room, size) in
    take_more_set bytes len rest inside
    ∙ ap (λ (l : List ℕ). take len bytes ++ l) (sym (sevens_end (4 - len) rest small))
    ∙ ap (λ (n : ℕ). take len bytes ++ sevens_encoded n rest) (sym left) ∙ e

-- the encoding encodes its number
sevens_encoded-sound : (k v : ℕ) → v < 128 ^ suc k → IsSevens (suc k) v (sevens_encoded (suc k) v)
sevens_encoded-sound zero v fits = let small : v < 128 = omega (arith, fits) in rw (sevens_end zero v small) (last small)
sevens_encoded-sound (suc k) v fits = elim (leb_tells (suc v) 128) [
  | inl t ↦ rw (sevens_end (suc k) v t.1) (last t.1)
  | inr t ↦
      let p : 128 ^ suc (suc k) ≡ 128 * 128 ^ suc k = omega arith in
      let high : v / 128 < 128 ^ suc k = omega (arith, fits, p) in
      let d = v % 128 + 128 in
      let whole : (d - 128) + 128 * (v / 128) ≡ v = omega arith in
      rw (sevens_step (suc k) v (omega (arith, t.1)))
      (subst (λ (n : ℕ). IsSevens (suc (suc k)) n (d ∷ sevens_encoded (suc k) (v / 128))) whole (more (omega arith) (sevens_encoded-sound k (v / 128) high)))
]

-- bytes after the first
tail_bytes : (b : ℕ) (xs : List ℕ) → AreBytes (b ∷ xs) → AreBytes xs
tail_bytes b xs h k = h (suc k)

none_long : (v : ℕ) (other : List ℕ) → length (sevens_encoded zero v) ≤ length other
unfolding sevens_encoded
none_long v other = omega arith

-- no encoding is shorter
sevens_least : (k j v : ℕ) (other : List ℕ) → IsSevens j v other → AreBytes other → length (sevens_encoded k v) ≤ length other
sevens_least zero j v other h bytes = none_long v other
sevens_least (suc k) j v other (last {b = b} small) bytes = rw (sevens_end k b small) (omega arith)
sevens_least (suc k) j v other (more {k = i} {d = d} {v = w} {bytes = xs} big h) bytes =
    let n = (d - 128) + 128 * w in
    elim (leb_tells (suc n) 128) [
      | inl t ↦ rw (sevens_end k n t.1) (omega arith)
      | inr t ↦
          let byte : d < 256 = bytes 0 in
          let high : n / 128 ≡ w = omega (arith, byte, big) in
          let shorter = sevens_least k i w xs h (tail_bytes d xs bytes) in
          rw (sevens_step k n (omega (arith, t.1)), high) (omega (arith, shorter))
    ]

pub varlen_least : (v : ℕ) → v < 2 ^ 32 → IsShortest IsVarLen v (varlen_encoded v)
varlen_least v fits = record {
  is = record { sevens = sevens_encoded-sound 4 v (omega (arith, fits)); fits = fits };
  least = λ other h bytes. sevens_least 5 5 v other h.sevens bytes;
}

pub varlen_writes : (v : ℕ) (old new : List ℕ) → v < 2 ^ 32 → new ≡ old ++ varlen_encoded v → Writes (λ w. Some (varlen_encoded w)) IsVarLen v old new
varlen_writes v old new fits e = record { bytes = varlen_encoded v; is = refl; appended = e; least = varlen_least v fits }
