-- Numbers whose first byte gives the number of bytes after it by its trailing ones.
use Rattle.std.proofs.Common.{◌≡◌, ◌≤◌, ◌<◌, ◌+◌, ◌*◌, ◌-◌, ◌/◌, ◌%◌, ◌^◌, ◌++◌, ◌⊎◌, inl, inr, ℕ, zero, suc, List, [], ◌∷◌, length, take, drop, slice_index, arith, refl, sym, ap, subst, ◌∙◌, Some}
use Rattle.std.specs.Prelude.{if◌then◌else◌, ◌==◌}
use Rattle.std.specs.Int.{w8, trailing_ones}
use Rattle.std.specs.Int.Count.{trailing_of_zero}
use Rattle.std.proofs.lemmas.Nat.Bits.{bit_at-trailing_zeros}
use Rattle.std.proofs.Math.Nat.{pow-le-pow_right}
use Rattle.std.proofs.Math.Seq.{take-append_seam}
use Rattle.std.proofs.lemmas.Bool.Decides.{leb_tells, eqb_tells}
use Rattle.std.proofs.lemmas.List.{length-append, append-nil}
use Rattle.std.proofs.Math.ListN.{get_or-append}
use Rattle.byteorder.specs.Endian.{little_number, little_bytes}
use Rattle.byteorder.specs.Numbers.{little_from-append, little_number-reads_back, length-bytes_low_first, little_from-lt}
use Rattle.wire_buf.specs.Encoding.{Begins, Reads, Lacks, Alone, IsFixed, AreBytes, IsShortest}
use Rattle.wire_buf.specs.Numbers.{IsLittle}
use Rattle.wire_buf.specs.Writing.{Writes}
use Rattle.wire_buf.proofs.EncodingLemmas.{Reads-fixed}
use Rattle.wire_buf.proofs.LenencLemmas.{little_bytes-sound}
use Rattle.wire_buf.proofs.NumberLemmas.{little_reads}
use Rattle.wire_fields_extra.specs.TrailingOnes.{HasTrailingOnes, IsVarlenUint, short, long, varlen_uint_len, varlen_uint_encoded, trailing_ones_number}

-- the number of trailing ones of a byte, by its remainders
ones_of : ℕ → ℕ
ones_of b =
    if (b % 2) == 0 then 0
    else if (b % 4) == 1 then 1
    else if (b % 8) == 3 then 2
    else if (b % 16) == 7 then 3
    else if (b % 32) == 15 then 4
    else if (b % 64) == 31 then 5
    else if (b % 128) == 63 then 6
    else if (b % 256) == 127 then 7
    else 8

holds : (x y : ℕ) (a b : ℕ) → x ≡ y → (if x == y then a else b) ≡ a
holds x y a b e = elim (eqb_tells x y) [ inl t ↦ rw t.0 refl | inr t ↦ absurd (t.1 e) ]

fails : (x y : ℕ) (a b : ℕ) → (x ≡ y → ⊥) → (if x == y then a else b) ≡ b
fails x y a b e = elim (eqb_tells x y) [ inl t ↦ absurd (e t.1) | inr t ↦ rw t.0 refl ]

ones_of-complete : (n b : ℕ) → n ≤ 7 → b % 2 ^ suc n ≡ 2 ^ n - 1 → ones_of b ≡ n
unfolding ones_of
ones_of-complete zero b room h = holds (b % 2) 0 _ _ h
ones_of-complete (suc zero) b room h = fails (b % 2) 0 _ _ (λ e. omega (arith, e, h))
    ∙ holds (b % 4) 1 _ _ h
ones_of-complete (suc (suc zero)) b room h = fails (b % 2) 0 _ _ (λ e. omega (arith, e, h))
    ∙ fails (b % 4) 1 _ _ (λ e. omega (arith, e, h))
    ∙ holds (b % 8) 3 _ _ h
ones_of-complete (suc (suc (suc zero))) b room h = fails (b % 2) 0 _ _ (λ e. omega (arith, e, h))
    ∙ fails (b % 4) 1 _ _ (λ e. omega (arith, e, h))
    ∙ fails (b % 8) 3 _ _ (λ e. omega (arith, e, h))
    ∙ holds (b % 16) 7 _ _ h
ones_of-complete (suc (suc (suc (suc zero)))) b room h = fails (b % 2) 0 _ _ (λ e. omega (arith, e, h))
    ∙ fails (b % 4) 1 _ _ (λ e. omega (arith, e, h))
    ∙ fails (b % 8) 3 _ _ (λ e. omega (arith, e, h))
    ∙ fails (b % 16) 7 _ _ (λ e. omega (arith, e, h))
    ∙ holds (b % 32) 15 _ _ h
ones_of-complete (suc (suc (suc (suc (suc zero))))) b room h = fails (b % 2) 0 _ _ (λ e. omega (arith, e, h))
    ∙ fails (b % 4) 1 _ _ (λ e. omega (arith, e, h))
    ∙ fails (b % 8) 3 _ _ (λ e. omega (arith, e, h))
    ∙ fails (b % 16) 7 _ _ (λ e. omega (arith, e, h))
    ∙ fails (b % 32) 15 _ _ (λ e. omega (arith, e, h))
    ∙ holds (b % 64) 31 _ _ h
ones_of-complete (suc (suc (suc (suc (suc (suc zero)))))) b room h = fails (b % 2) 0 _ _ (λ e. omega (arith, e, h))
    ∙ fails (b % 4) 1 _ _ (λ e. omega (arith, e, h))
    ∙ fails (b % 8) 3 _ _ (λ e. omega (arith, e, h))
    ∙ fails (b % 16) 7 _ _ (λ e. omega (arith, e, h))
    ∙ fails (b % 32) 15 _ _ (λ e. omega (arith, e, h))
    ∙ fails (b % 64) 31 _ _ (λ e. omega (arith, e, h))
    ∙ holds (b % 128) 63 _ _ h
ones_of-complete (suc (suc (suc (suc (suc (suc (suc zero))))))) b room h = fails (b % 2) 0 _ _ (λ e. omega (arith, e, h))
    ∙ fails (b % 4) 1 _ _ (λ e. omega (arith, e, h))
    ∙ fails (b % 8) 3 _ _ (λ e. omega (arith, e, h))
    ∙ fails (b % 16) 7 _ _ (λ e. omega (arith, e, h))
    ∙ fails (b % 32) 15 _ _ (λ e. omega (arith, e, h))
    ∙ fails (b % 64) 31 _ _ (λ e. omega (arith, e, h))
    ∙ fails (b % 128) 63 _ _ (λ e. omega (arith, e, h))
    ∙ holds (b % 256) 127 _ _ h
ones_of-complete (suc (suc (suc (suc (suc (suc (suc (suc n)))))))) b room h = absurd (omega (arith, room))

-- the number of trailing ones of a byte is unique
ones_unique : (n m b : ℕ) → n ≤ 7 → m ≤ 7 → HasTrailingOnes n b → HasTrailingOnes m b → n ≡ m
ones_unique n m b p q h k = sym (ones_of-complete n b p h.ones) ∙ ones_of-complete m b q k.ones

-- 255 has eight
all_ones : 8 ≡ ones_of 255
unfolding ones_of
all_ones = refl

ones_of_255 : (n : ℕ) → n ≤ 7 → HasTrailingOnes n 255 → ⊥
ones_of_255 n room h = let e : 8 ≡ n = all_ones ∙ ones_of-complete n 255 room h.ones in omega (arith, e, room)

-- the lowest zero bit of a byte, as the lowest one bit of its complement
pub ones_from_bits : (n b : ℕ) → n ≤ 7 → b < 256 → (255 - b) / 2 ^ n % 2 ≡ 1 → ((i : ℕ) → i < n → (255 - b) / 2 ^ i % 2 ≡ 0) → b % 2 ^ suc n ≡ 2 ^ n - 1
ones_from_bits zero b room byte one zeros = omega (arith, byte, one)
ones_from_bits (suc zero) b room byte one zeros = let z0 = zeros 0 (omega arith) in omega (arith, byte, one, z0)
ones_from_bits (suc (suc zero)) b room byte one zeros = let z0 = zeros 0 (omega arith) in let z1 = zeros 1 (omega arith) in omega (arith, byte, one, z0, z1)
ones_from_bits (suc (suc (suc zero))) b room byte one zeros = let z0 = zeros 0 (omega arith) in let z1 = zeros 1 (omega arith) in let z2 = zeros 2 (omega arith) in omega (arith, byte, one, z0, z1, z2)
ones_from_bits (suc (suc (suc (suc zero)))) b room byte one zeros = let z0 = zeros 0 (omega arith) in let z1 = zeros 1 (omega arith) in let z2 = zeros 2 (omega arith) in let z3 = zeros 3 (omega arith) in omega (arith, byte, one, z0, z1, z2, z3)
ones_from_bits (suc (suc (suc (suc (suc zero))))) b room byte one zeros = let z0 = zeros 0 (omega arith) in let z1 = zeros 1 (omega arith) in let z2 = zeros 2 (omega arith) in let z3 = zeros 3 (omega arith) in let z4 = zeros 4 (omega arith) in omega (arith, byte, one, z0, z1, z2, z3, z4)
ones_from_bits (suc (suc (suc (suc (suc (suc zero)))))) b room byte one zeros = let z0 = zeros 0 (omega arith) in let z1 = zeros 1 (omega arith) in let z2 = zeros 2 (omega arith) in let z3 = zeros 3 (omega arith) in let z4 = zeros 4 (omega arith) in let z5 = zeros 5 (omega arith) in omega (arith, byte, one, z0, z1, z2, z3, z4, z5)
ones_from_bits (suc (suc (suc (suc (suc (suc (suc zero))))))) b room byte one zeros = let z0 = zeros 0 (omega arith) in let z1 = zeros 1 (omega arith) in let z2 = zeros 2 (omega arith) in let z3 = zeros 3 (omega arith) in let z4 = zeros 4 (omega arith) in let z5 = zeros 5 (omega arith) in let z6 = zeros 6 (omega arith) in omega (arith, byte, one, z0, z1, z2, z3, z4, z5, z6)
ones_from_bits (suc (suc (suc (suc (suc (suc (suc (suc n)))))))) b room byte one zeros = absurd (omega (arith, room))

-- a value that fits in n + 1 bytes, with its trailing ones
pub with_magic_facts : (n v : ℕ) → n ≤ 7 → v < 128 ^ suc n
    → (trailing_ones_number (suc n) v < 256 ^ suc n) × (trailing_ones_number (suc n) v % 256 % 2 ^ suc n ≡ 2 ^ n - 1) × (trailing_ones_number (suc n) v / 2 ^ suc n ≡ v)
with_magic_facts zero v room fits = (omega (arith, fits), omega (arith, fits), omega (arith, fits))
with_magic_facts (suc zero) v room fits = (omega (arith, fits), omega (arith, fits), omega (arith, fits))
with_magic_facts (suc (suc zero)) v room fits = (omega (arith, fits), omega (arith, fits), omega (arith, fits))
with_magic_facts (suc (suc (suc zero))) v room fits = (omega (arith, fits), omega (arith, fits), omega (arith, fits))
with_magic_facts (suc (suc (suc (suc zero)))) v room fits = (omega (arith, fits), omega (arith, fits), omega (arith, fits))
with_magic_facts (suc (suc (suc (suc (suc zero))))) v room fits = (omega (arith, fits), omega (arith, fits), omega (arith, fits))
with_magic_facts (suc (suc (suc (suc (suc (suc zero)))))) v room fits = (omega (arith, fits), omega (arith, fits), omega (arith, fits))
with_magic_facts (suc (suc (suc (suc (suc (suc (suc zero))))))) v room fits = (omega (arith, fits), omega (arith, fits), omega (arith, fits))
with_magic_facts (suc (suc (suc (suc (suc (suc (suc (suc n)))))))) v room fits = absurd (omega (arith, room))

-- the value of n + 1 bytes is below 128 ^ (n + 1)
pub shifted_fits : (n x : ℕ) → n ≤ 7 → x < 256 ^ suc n → x / 2 ^ suc n < 128 ^ suc n
shifted_fits zero x room fits = omega (arith, fits)
shifted_fits (suc zero) x room fits = omega (arith, fits)
shifted_fits (suc (suc zero)) x room fits = omega (arith, fits)
shifted_fits (suc (suc (suc zero))) x room fits = omega (arith, fits)
shifted_fits (suc (suc (suc (suc zero)))) x room fits = omega (arith, fits)
shifted_fits (suc (suc (suc (suc (suc zero))))) x room fits = omega (arith, fits)
shifted_fits (suc (suc (suc (suc (suc (suc zero)))))) x room fits = omega (arith, fits)
shifted_fits (suc (suc (suc (suc (suc (suc (suc zero))))))) x room fits = omega (arith, fits)
shifted_fits (suc (suc (suc (suc (suc (suc (suc (suc n)))))))) x room fits = absurd (omega (arith, room))

-- the trailing ones that the standard library counts
pub trailing_ones_tells : (b r : ℕ) → b < 256 → r ≡ trailing_ones w8 b → ((r ≡ 8) × (b ≡ 255)) ⊎ ((r ≤ 7) × HasTrailingOnes r b)
trailing_ones_tells b r byte e = elim (leb_tells 255 b) [
  | inl t ↦
      let all : b ≡ 255 = omega (arith, byte, t.1) in
      inl (e ∙ ap (λ n. trailing_ones w8 n) all ∙ trailing_of_zero 8, all)
  | inr t ↦
      let some : 0 < 255 - b = omega (arith, t.1) in
      let f = bit_at-trailing_zeros w8 (255 - b) some (omega arith) in
      let low = f.0 in
      let room : r ≤ 7 = omega (arith, e, low) in
      let one = subst (λ (n : ℕ). (255 - b) / 2 ^ n % 2 ≡ 1) (sym e) f.1 in
      inr (room, record { ones = ones_from_bits r b room byte one (λ i below. f.2 i (omega (arith, below, e))) })
]

first_byte : (x bytes s : List ℕ) → x ≡ bytes ++ s → 0 < length bytes → slice_index x 0 ≡ slice_index bytes 0
first_byte x bytes s joined some = ap (λ l. slice_index l 0) joined ∙ get_or-append bytes s 0 0 some

module _ (n : ℕ) (room : n ≤ 7) (x : List ℕ) (ones : HasTrailingOnes n (slice_index x 0)) where
  -- any encoding at the start has n + 1 bytes
  short_only : (w : ℕ) (s bytes : List ℕ) → x ≡ bytes ++ s → IsVarlenUint w bytes → Begins (Alone (IsFixed (λ b. little_number (suc n) b / 2 ^ suc n) (suc n)) w) x s
  short_only w s bytes joined (short {n = m} small h f) =
      let size = f.size in
      let some : 0 < length bytes = omega (arith, size) in
      let first = first_byte x bytes s joined some in
      let here : HasTrailingOnes m (slice_index x 0) = subst (λ (b : ℕ). HasTrailingOnes m b) (sym first) h in
      let same = ones_unique m n (slice_index x 0) small room here ones in
      record { bytes = bytes; joined = joined; is = subst (λ (k : ℕ). IsFixed (λ b. little_number (suc k) b / 2 ^ suc k) (suc k) w bytes) same f }
  short_only w s bytes joined (long {bytes = xs} h) =
      let first : slice_index x 0 ≡ 255 = ap (λ l. slice_index l 0) joined in
      absurd (ones_of_255 n room (subst (λ (b : ℕ). HasTrailingOnes n b) first ones))

  pub short_reads : (v : ℕ) (y : List ℕ) → suc n ≤ length x → v ≡ little_number (suc n) x / 2 ^ suc n → y ≡ drop (suc n) x → Reads (Alone IsVarlenUint) v x y
  short_reads v y enough is rest =
      let f = Reads-fixed (λ b. little_number (suc n) b / 2 ^ suc n) (suc n) v x y (λ a b h. ap (λ k. k / 2 ^ suc n) (little_from-append (suc n) a b h)) enough is rest in
      let size = f.begins.is.size in
      let some : 0 < length f.begins.bytes = omega (arith, size) in
      let first = first_byte x f.begins.bytes y f.begins.joined some in
      record {
        begins = record {
          bytes = f.begins.bytes;
          joined = f.begins.joined;
          is = short room (subst (λ (b : ℕ). HasTrailingOnes n b) first ones) f.begins.is;
        };
        only = λ w s t. f.only w s (short_only w s t.bytes t.joined t.is);
      }

  pub short_lacks : length x < suc n → Lacks (Alone IsVarlenUint) x
  short_lacks few w s t =
      let b = short_only w s t.bytes t.joined t.is in
      let size = b.is.size in
      omega (arith, size, few, ap length b.joined, length-append b.bytes s)

-- an encoding has a first byte
has_first : (w : ℕ) (bytes : List ℕ) → IsVarlenUint w bytes → 1 ≤ length bytes
has_first w bytes (short small h f) = let size = f.size in omega (arith, size)
has_first w bytes (long h) = omega arith

pub none_lacks : (x : List ℕ) → length x < 1 → Lacks (Alone IsVarlenUint) x
none_lacks x none w s t = let some = has_first w t.bytes t.is in omega (arith, none, some, ap length t.joined, length-append t.bytes s)

-- eight bytes follow 255
long_only : (b : ℕ) (x : List ℕ) → b ≡ 255 → (w : ℕ) (s bytes : List ℕ) → b ∷ x ≡ bytes ++ s → IsVarlenUint w bytes → Begins (Alone (IsLittle 8) w) x s
long_only b x all w s bytes joined (short {n = m} small h f) =
    let size = f.size in
    let some : 0 < length bytes = omega (arith, size) in
    let first : 255 ≡ slice_index bytes 0 = sym all ∙ first_byte (b ∷ x) bytes s joined some in
    absurd (ones_of_255 m small (subst (λ (k : ℕ). HasTrailingOnes m k) (sym first) h))
long_only b x all w s bytes joined (long {bytes = xs} h) =
    let tail : x ≡ xs ++ s = cc in
    record { bytes = xs; joined = tail; is = h }

pub long_reads : (v : ℕ) (x r y : List ℕ) → 1 ≤ length x → slice_index x 0 ≡ 255 → r ≡ drop 1 x → 8 ≤ length r → v ≡ little_number 8 r → y ≡ drop 8 r → Reads (Alone IsVarlenUint) v x y
long_reads v [] r y some all tail room is rest = absurd (omega (arith, some))
long_reads v (b ∷ x) r y some all tail room is rest =
    let f = subst (λ (l : List ℕ). Reads (Alone (IsLittle 8)) v l y) tail (little_reads 8 v r y room is rest) in
    record {
      begins = record {
        bytes = 255 ∷ f.begins.bytes;
        joined = ap (λ k. k ∷ x) all ∙ ap (λ l. 255 ∷ l) f.begins.joined;
        is = long f.begins.is;
      };
      only = λ w s t. f.only w s (long_only b x all w s t.bytes t.joined t.is);
    }

pub long_lacks : (x r : List ℕ) → slice_index x 0 ≡ 255 → r ≡ drop 1 x → length r < 8 → Lacks (Alone IsVarlenUint) x
long_lacks [] r all tail few = none_lacks [] (omega arith)
long_lacks (b ∷ x) r all tail few = λ w s t.
    let o = long_only b x all w s t.bytes t.joined t.is in
    let size = o.is.size in
    omega (arith, few, ap length tail, size, ap length o.joined, length-append o.bytes s)

-- the facts that the length of the shortest encoding gives
pub record LenFacts (v n : ℕ) : Type 0 where
  pub low : 1 ≤ n
  pub high : n ≤ 9
  pub fits : n ≤ 8 → v < 128 ^ n
  pub least : (m : ℕ) → 1 ≤ m → m ≤ 8 → v < 128 ^ m → n ≤ m

-- m bytes are too few for a number from 128 ^ k on, if m ≤ k
not_below : (v k m : ℕ) → 128 ^ k ≤ v → v < 128 ^ m → suc k ≤ m
not_below v k m low fits = elim (leb_tells (suc k) m) [
  | inl t ↦ t.1
  | inr t ↦
      let small : m ≤ k = omega (arith, t.1) in
      let more = pow-le-pow_right {n = 128} (omega arith) small in
      absurd (omega (arith, more, low, fits))
]

pub len_facts : (v : ℕ) → LenFacts v (varlen_uint_len v)
unfolding varlen_uint_len
len_facts v = elim (leb_tells (suc v) (2 ^ 7)) [
  | inl t1 ↦ rw t1.0 (record { low = omega arith; high = omega arith; fits = λ few. omega (arith, t1.1); least = λ m some room small. some })
  | inr t1 ↦ rw t1.0 (elim (leb_tells (suc v) (2 ^ 14)) [
    | inl t2 ↦ rw t2.0 (record { low = omega arith; high = omega arith; fits = λ few. omega (arith, t2.1); least = λ m some room small. not_below v 1 m (omega (arith, t1.1)) small })
    | inr t2 ↦ rw t2.0 (elim (leb_tells (suc v) (2 ^ 21)) [
      | inl t3 ↦ rw t3.0 (record { low = omega arith; high = omega arith; fits = λ few. omega (arith, t3.1); least = λ m some room small. not_below v 2 m (omega (arith, t2.1)) small })
      | inr t3 ↦ rw t3.0 (elim (leb_tells (suc v) (2 ^ 28)) [
        | inl t4 ↦ rw t4.0 (record { low = omega arith; high = omega arith; fits = λ few. omega (arith, t4.1); least = λ m some room small. not_below v 3 m (omega (arith, t3.1)) small })
        | inr t4 ↦ rw t4.0 (elim (leb_tells (suc v) (2 ^ 35)) [
          | inl t5 ↦ rw t5.0 (record { low = omega arith; high = omega arith; fits = λ few. omega (arith, t5.1); least = λ m some room small. not_below v 4 m (omega (arith, t4.1)) small })
          | inr t5 ↦ rw t5.0 (elim (leb_tells (suc v) (2 ^ 42)) [
            | inl t6 ↦ rw t6.0 (record { low = omega arith; high = omega arith; fits = λ few. omega (arith, t6.1); least = λ m some room small. not_below v 5 m (omega (arith, t5.1)) small })
            | inr t6 ↦ rw t6.0 (elim (leb_tells (suc v) (2 ^ 49)) [
              | inl t7 ↦ rw t7.0 (record { low = omega arith; high = omega arith; fits = λ few. omega (arith, t7.1); least = λ m some room small. not_below v 6 m (omega (arith, t6.1)) small })
              | inr t7 ↦ rw t7.0 (elim (leb_tells (suc v) (2 ^ 56)) [
                | inl t8 ↦ rw t8.0 (record { low = omega arith; high = omega arith; fits = λ few. omega (arith, t8.1); least = λ m some room small. not_below v 7 m (omega (arith, t7.1)) small })
                | inr t8 ↦ rw t8.0 (record { low = omega arith; high = omega arith; fits = λ few. absurd (omega (arith, few)); least = λ m some room small. let far = not_below v 8 m (omega (arith, t8.1)) small in absurd (omega (arith, far, room)) })
              ])
            ])
          ])
        ])
      ])
    ])
  ])
]

-- the shift and the sum that the writer computes
pub with_magic_code : (n v : ℕ) → n ≤ 8 → 1 ≤ n → v < 128 ^ n
    → (v * 2 ^ n % 2 ^ 64 + (1 * 2 ^ (n - 1) % 2 ^ 64 - 1) ≡ trailing_ones_number n v) × (trailing_ones_number n v < 256 ^ n) × (trailing_ones_number n v < 2 ^ 64) × (1 ≤ 1 * 2 ^ (n - 1) % 2 ^ 64)
with_magic_code zero v room some fits = absurd (omega (arith, some))
with_magic_code (suc zero) v room some fits = (omega (arith, fits), omega (arith, fits), omega (arith, fits), omega arith)
with_magic_code (suc (suc zero)) v room some fits = (omega (arith, fits), omega (arith, fits), omega (arith, fits), omega arith)
with_magic_code (suc (suc (suc zero))) v room some fits = (omega (arith, fits), omega (arith, fits), omega (arith, fits), omega arith)
with_magic_code (suc (suc (suc (suc zero)))) v room some fits = (omega (arith, fits), omega (arith, fits), omega (arith, fits), omega arith)
with_magic_code (suc (suc (suc (suc (suc zero))))) v room some fits = (omega (arith, fits), omega (arith, fits), omega (arith, fits), omega arith)
with_magic_code (suc (suc (suc (suc (suc (suc zero)))))) v room some fits = (omega (arith, fits), omega (arith, fits), omega (arith, fits), omega arith)
with_magic_code (suc (suc (suc (suc (suc (suc (suc zero))))))) v room some fits = (omega (arith, fits), omega (arith, fits), omega (arith, fits), omega arith)
with_magic_code (suc (suc (suc (suc (suc (suc (suc (suc zero)))))))) v room some fits = (omega (arith, fits), omega (arith, fits), omega (arith, fits), omega arith)
with_magic_code (suc (suc (suc (suc (suc (suc (suc (suc (suc n))))))))) v room some fits = absurd (omega (arith, room))

-- an encoding is as long as its value requires
encoding_is_fits : (w : ℕ) (bytes : List ℕ) → IsVarlenUint w bytes → AreBytes bytes → (length bytes ≤ 8 → w < 128 ^ length bytes) × (length bytes ≤ 9) × (1 ≤ length bytes)
encoding_is_fits w bytes (short {n = m} small h f) are =
    let size = f.size in
    let below : little_number (suc m) bytes < 256 ^ suc m = little_from-lt 0 (suc m) bytes are in
    let fits = shifted_fits m (little_number (suc m) bytes) small below in
    let is = f.value_is in
    ((λ _. rw size (rw is fits)), omega (arith, size, small), omega (arith, size))
encoding_is_fits w bytes (long h) are = let size = h.size in ((λ few. absurd (omega (arith, few, size))), omega (arith, size), omega arith)

short_encoded-sound : (n v : ℕ) → n ≤ 7 → v < 128 ^ suc n → IsVarlenUint v (little_bytes (suc n) (trailing_ones_number (suc n) v))
short_encoded-sound n v room fits =
    let m = with_magic_facts n v room fits in
    let back = little_number-reads_back (suc n) (trailing_ones_number (suc n) v) [] m.0 in
    let whole : little_number (suc n) (little_bytes (suc n) (trailing_ones_number (suc n) v)) ≡ trailing_ones_number (suc n) v = ap (little_number (suc n)) (sym (append-nil (little_bytes (suc n) (trailing_ones_number (suc n) v)))) ∙ back in
    short room (record { ones = m.1 }) (record { size = length-bytes_low_first 0 (suc n) (trailing_ones_number (suc n) v); value_is = sym m.2 ∙ ap (λ k. k / 2 ^ suc n) (sym whole) })

pub varlen_uint_least : (v : ℕ) → v < 2 ^ 64 → IsShortest IsVarlenUint v (varlen_uint_encoded v)
unfolding varlen_uint_encoded
varlen_uint_least v fits =
    let n = varlen_uint_len v in
    let f = len_facts v in
    let low = f.low in
    let high = f.high in
    elim (eqb_tells n 9) [
      | inl t ↦ rw t.0 (record {
        is = long (little_bytes-sound 8 v (omega (arith, fits)));
        least = λ other h are.
            let s = encoding_is_fits v other h are in
            elim (leb_tells (length other) 8) [
              | inl few ↦ let l = f.least (length other) s.2 few.1 (s.0 few.1) in omega (arith, l, few.1, t.1)
              | inr more ↦ omega (arith, more.1, length-bytes_low_first 0 8 v)
            ];
      })
      | inr t ↦
          let room : n ≤ 8 = omega (arith, high, t.1) in
          let m : n ≡ suc (n - 1) = omega (arith, low) in
          rw t.0 (record {
            is = rw m (short_encoded-sound (n - 1) v (omega (arith, room, low)) (rw (← m) (f.fits room)));
            least = λ other h are.
                let s = encoding_is_fits v other h are in
                let size = length-bytes_low_first 0 n (trailing_ones_number n v) in
                elim (leb_tells (length other) 8) [
                  | inl few ↦ let l = f.least (length other) s.2 few.1 (s.0 few.1) in omega (arith, l, size)
                  | inr more ↦ omega (arith, more.1, size, room)
                ];
          })
    ]

pub varlen_uint_writes : (v : ℕ) (old new : List ℕ) → v < 2 ^ 64 → new ≡ old ++ varlen_uint_encoded v → Writes (λ w. Some (varlen_uint_encoded w)) IsVarlenUint v old new
varlen_uint_writes v old new fits e = record { bytes = varlen_uint_encoded v; is = refl; appended = e; least = varlen_uint_least v fits }

-- the two formats that are written
pub encoded_long : (v : ℕ) → varlen_uint_len v ≡ 9 → varlen_uint_encoded v ≡ 255 ∷ little_bytes 8 v
unfolding varlen_uint_encoded
encoded_long v e = elim (eqb_tells (varlen_uint_len v) 9) [ inl t ↦ rw t.0 refl | inr t ↦ absurd (t.1 e) ]

pub encoded_short : (v n : ℕ) → n ≡ varlen_uint_len v → (n ≡ 9 → ⊥) → varlen_uint_encoded v ≡ little_bytes n (trailing_ones_number n v)
unfolding varlen_uint_encoded
encoded_short v n e not = elim (eqb_tells (varlen_uint_len v) 9) [ inl t ↦ absurd (not (e ∙ t.1)) | inr t ↦ rw (t.0, ← e) refl ]

-- the length of the bytes that are written
pub encoded_length : (v : ℕ) → length (varlen_uint_encoded v) ≡ varlen_uint_len v
encoded_length v = elim (eqb_tells (varlen_uint_len v) 9) [
  | inl t ↦ ap length (encoded_long v t.1) ∙ ap suc (length-bytes_low_first 0 8 v) ∙ sym t.1
  | inr t ↦ ap length (encoded_short v (varlen_uint_len v) refl t.1) ∙ length-bytes_low_first 0 (varlen_uint_len v) (trailing_ones_number (varlen_uint_len v) v)
]

-- the facts about the byte that the count of trailing ones gives
pub full_byte : (r b : ℕ) → r ≡ 8 → ((r ≡ 8) × (b ≡ 255)) ⊎ ((r ≤ 7) × HasTrailingOnes r b) → b ≡ 255
full_byte r b e (inl p) = p.1
full_byte r b e (inr p) = let small = p.0 in absurd (omega (arith, e, small))

pub part_byte : (r b : ℕ) → (r ≡ 8 → ⊥) → ((r ≡ 8) × (b ≡ 255)) ⊎ ((r ≤ 7) × HasTrailingOnes r b) → (r ≤ 7) × HasTrailingOnes r b
part_byte r b not (inl p) = absurd (not p.0)
part_byte r b not (inr p) = p

-- the same with the count as the code has it
pub short_reads_code : (n m number : ℕ) (x y : List ℕ) → n ≤ 7 → HasTrailingOnes n (slice_index x 0) → m ≡ suc n → m ≤ length x → number ≡ little_number m x → y ≡ drop m x
    → Reads (Alone IsVarlenUint) (number / 2 ^ m) x y
short_reads_code n m number x y room ones e =
    let P : ℕ → Type 0 = λ k. k ≤ length x → number ≡ little_number k x → y ≡ drop k x → Reads (Alone IsVarlenUint) (number / 2 ^ k) x y in
    subst P (sym e) (λ a b d. short_reads n room x ones (number / 2 ^ suc n) y a (ap (λ k. k / 2 ^ suc n) b) d)

-- the facts that the writer needs about the length of the shortest encoding
pub len_low : (v n : ℕ) → n ≡ varlen_uint_len v → (1 ≤ n) × (n ≤ 9) × (n ≤ 8 → v < 128 ^ n)
len_low v n e = let f = len_facts v in let P : ℕ → Type 0 = λ k. (1 ≤ k) × (k ≤ 9) × (k ≤ 8 → v < 128 ^ k) in subst P (sym e) (f.low, f.high, f.fits)

-- the bytes of a number, taken from the array that holds them
pub taken_bytes : (n k : ℕ) (buf tail : List ℕ) → buf ≡ little_bytes n k ++ tail → take n buf ≡ little_bytes n k
taken_bytes n k buf tail e =
    let size : length (little_bytes n k) ≡ n = length-bytes_low_first 0 n k in
    ap (take n) e ∙ ap (λ m. take m (little_bytes n k ++ tail)) (sym size) ∙ take-append_seam (little_bytes n k) tail

pub room_of_bytes : (n k : ℕ) (buf tail : List ℕ) → buf ≡ little_bytes n k ++ tail → n ≤ length buf
room_of_bytes n k buf tail e = omega (arith, ap length e, length-append (little_bytes n k) tail, length-bytes_low_first 0 n k)

pub size_of_bytes : (n k : ℕ) (buf tail : List ℕ) → buf ≡ little_bytes n k ++ tail → n ≡ length (take n buf)
size_of_bytes n k buf tail e = sym (length-bytes_low_first 0 n k) ∙ ap length (sym (taken_bytes n k buf tail e))
