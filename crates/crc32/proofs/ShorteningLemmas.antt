-- Bytes that are removed from a message and added to later ones.
use Rattle.std.proofs.Common.{◌≡◌, ℕ, zero, suc, ◌+◌, ◌-◌, ◌*◌, ◌^◌, ◌<◌, ◌≤◌, List, [], ◌∷◌, ◌++◌, bit_xor, length, get_or, take, drop, replicate, refl, sym, ap, ◌∙◌, arith}
use Rattle.std.proofs.lemmas.Nat.{pow-add}
use Rattle.std.proofs.lemmas.List.{length-drop, length-take-le, drop-drop, take_all, get_or-drop, get_or-take, get_or-append_right, get_or-replicate}
use Rattle.std.proofs.Math.ListN.{get_or-append}
use Rattle.std.proofs.Math.Nat.{mul_assoc}
use Rattle.std.proofs.lemmas.Simd.{length-replicate, get_or-zip2, length-zip2, get_or-put_chunk_at, length-put_chunk}
use lib.Bits.{xor_block, xor_lt, xor_comm, xor_zero_l, xor_zero_r}
use lib.Lanes.{zip2, put_chunk}
use borrow.Rule.Slice.PartMut.{mid_of, post_of, put_mid}
use Rattle.byteorder.specs.Endian.{little_from, little_number}
use Rattle.crc32.specs.Checksums.{after_bytes}
use Rattle.crc32.specs.Division.{message_number}
use Rattle.crc32.specs.Shortening.{AreByteValues, AreLanes, added, xor_of_four, number_at, pending}
use Rattle.crc32.proofs.ZerosLemmas.{steps, zeros, xor_split, zeros-xor, steps-shifted}
use Rattle.crc32.proofs.MessageLemmas.{after_all, after_block, number_is, small_prefix, small_rest}
use Rattle.crc32.proofs.SparseLemmas.{xor_of_four-xor, xor_of_four-zeros, sparse}

-- ---- numbers in bytes

one_byte_more : (n : ℕ) → 2 ^ (8 * suc n) ≡ 2 ^ (8 * n) * 256
one_byte_more n = let e : 8 * suc n ≡ 8 * n + 8 = omega arith in ap (λ (k : ℕ). 2 ^ k) e ∙ pow-add 2 (8 * n) 8

number_at-lt : (n i : ℕ) (xs : List ℕ) → AreByteValues xs → number_at i n xs < 2 ^ (8 * n)
unfolding number_at
number_at-lt zero i xs h = omega arith
number_at-lt (suc n) i xs h =
    let l : little_from (suc i) n xs < 2 ^ (8 * n) = number_at-lt n (suc i) xs h in
    let b : get_or xs i 0 < 256 = h i in
    let e : 2 ^ (8 * suc n) ≡ 2 ^ (8 * n) * 256 = one_byte_more n in
    omega arith

-- the first m bytes separated
number_at-split : (m n k i j : ℕ) (xs : List ℕ) → m + n ≡ k → i + m ≡ j → number_at i k xs ≡ number_at j n xs * 2 ^ (8 * m) + number_at i m xs
unfolding number_at
number_at-split zero n k i j xs e f =
    let p : k ≡ n = omega (arith, e) in
    let q : i ≡ j = omega (arith, f) in
    ap (λ (y : ℕ). little_from i y xs) p ∙ ap (λ (y : ℕ). little_from y n xs) q ∙ omega arith
number_at-split (suc m) n zero i j xs e f = absurd (omega (arith, e))
number_at-split (suc m) n (suc k) i j xs e f =
    let r : little_from (suc i) k xs ≡ little_from j n xs * 2 ^ (8 * m) + little_from (suc i) m xs =
    number_at-split m n k (suc i) j xs (omega (arith, e)) (omega (arith, f)) in
    let s : little_from j n xs * 2 ^ (8 * m) * 256 ≡ little_from j n xs * 2 ^ (8 * suc m) =
    mul_assoc (little_from j n xs) (2 ^ (8 * m)) 256 ∙ ap (λ (y : ℕ). little_from j n xs * y) (sym (one_byte_more m)) in
    omega arith

-- the same bytes
pub number_at-same : (n i j : ℕ) (xs ys : List ℕ) → ((k a b : ℕ) → k < n → a ≡ i + k → b ≡ j + k → get_or xs a 0 ≡ get_or ys b 0)
    → number_at i n xs ≡ number_at j n ys
unfolding number_at
number_at-same zero i j xs ys h = refl
number_at-same (suc n) i j xs ys h =
    let e : get_or xs i 0 ≡ get_or ys j 0 = h 0 i j (omega arith) (omega arith) (omega arith) in
    let r : little_from (suc i) n xs ≡ little_from (suc j) n ys =
    number_at-same n (suc i) (suc j) xs ys (λ k a b l p q. h (suc k) a b (omega (arith, l)) (omega (arith, p)) (omega (arith, q))) in
    omega arith

-- the sum of bytes
number_at-xor : (n h i j : ℕ) (zs xs ys : List ℕ) → AreByteValues xs → AreByteValues ys
    → ((k a b c : ℕ) → k < n → a ≡ h + k → b ≡ i + k → c ≡ j + k → get_or zs a 0 ≡ bit_xor (get_or xs b 0) (get_or ys c 0))
    → number_at h n zs ≡ bit_xor (number_at i n xs) (number_at j n ys)
unfolding number_at
number_at-xor zero h i j zs xs ys u v f = refl
number_at-xor (suc n) h i j zs xs ys u v f =
    let x : ℕ = get_or xs i 0 in
    let y : ℕ = get_or ys j 0 in
    let xr : ℕ = little_from (suc i) n xs in
    let yr : ℕ = little_from (suc j) n ys in
    let e : get_or zs h 0 ≡ bit_xor x y = f 0 h i j (omega arith) (omega arith) (omega arith) (omega arith) in
    let r : little_from (suc h) n zs ≡ bit_xor xr yr =
    number_at-xor n (suc h) (suc i) (suc j) zs xs ys u v (λ k a b c l p q w. f (suc k) a b c (omega (arith, l)) (omega (arith, p)) (omega (arith, q)) (omega (arith, w))) in
    let s : bit_xor (xr * 2 ^ 8 + x) (yr * 2 ^ 8 + y) ≡ bit_xor xr yr * 2 ^ 8 + bit_xor x y = xor_block 8 xr yr x y (u i) (v j) in
    let p : xr * 2 ^ 8 + x ≡ x + 256 * xr = omega arith in
    let q : yr * 2 ^ 8 + y ≡ y + 256 * yr = omega arith in
    let t : bit_xor (x + 256 * xr) (y + 256 * yr) ≡ bit_xor xr yr * 2 ^ 8 + bit_xor x y =
    ap (λ (z : ℕ). bit_xor z (y + 256 * yr)) (sym p) ∙ ap (bit_xor (xr * 2 ^ 8 + x)) (sym q) ∙ s in
    omega arith

number_at-zero : (n i : ℕ) (xs : List ℕ) → ((k a : ℕ) → k < n → a ≡ i + k → get_or xs a 0 ≡ 0) → number_at i n xs ≡ 0
unfolding number_at
number_at-zero zero i xs h = refl
number_at-zero (suc n) i xs h =
    let e : get_or xs i 0 ≡ 0 = h 0 i (omega arith) (omega arith) in
    let r : little_from (suc i) n xs ≡ 0 = number_at-zero n (suc i) xs (λ k a l p. h (suc k) a (omega (arith, l)) (omega (arith, p))) in
    omega arith

-- ---- four at once

xor_of_four-lt : (k p q r s : ℕ) → p < 2 ^ k → q < 2 ^ k → r < 2 ^ k → s < 2 ^ k → xor_of_four p q r s < 2 ^ k
xor_of_four-lt k p q r s f g h l = xor_lt k (bit_xor (bit_xor p q) r) s (xor_lt k (bit_xor p q) r (xor_lt k p q f g) h) l

xor_of_four-block : (k a b c d p q r s : ℕ) → p < 2 ^ k → q < 2 ^ k → r < 2 ^ k → s < 2 ^ k
    → xor_of_four (a * 2 ^ k + p) (b * 2 ^ k + q) (c * 2 ^ k + r) (d * 2 ^ k + s) ≡ xor_of_four a b c d * 2 ^ k + xor_of_four p q r s
xor_of_four-block k a b c d p q r s f g h l =
    let pq : bit_xor p q < 2 ^ k = xor_lt k p q f g in
    let pqr : bit_xor (bit_xor p q) r < 2 ^ k = xor_lt k (bit_xor p q) r pq h in
    ap (λ (y : ℕ). bit_xor (bit_xor y (c * 2 ^ k + r)) (d * 2 ^ k + s)) (xor_block k a b p q f g)
    ∙ ap (λ (y : ℕ). bit_xor y (d * 2 ^ k + s)) (xor_block k (bit_xor a b) c (bit_xor p q) r pq h)
    ∙ xor_block k (bit_xor (bit_xor a b) c) d (bit_xor (bit_xor p q) r) s pqr l

xor_of_four-same : {a b c d p q r s : ℕ} → a ≡ p → b ≡ q → c ≡ r → d ≡ s → xor_of_four a b c d ≡ xor_of_four p q r s
xor_of_four-same {b = b} {c = c} {d = d} {p = p} {q = q} {r = r} e f g h =
    ap (λ (y : ℕ). xor_of_four y b c d) e ∙ ap (λ (y : ℕ). xor_of_four p y c d) f ∙ ap (λ (y : ℕ). xor_of_four p q y d) g ∙ ap (λ (y : ℕ). xor_of_four p q r y) h

-- ---- zeros

zeros-add : (m n k x : ℕ) → m + n ≡ k → zeros k x ≡ zeros n (zeros m x)
unfolding zeros
zeros-add zero n k x e = let p : k ≡ n = omega (arith, e) in ap (λ (y : ℕ). zeros y x) p
zeros-add (suc m) n zero x e = absurd (omega (arith, e))
zeros-add (suc m) n (suc k) x e = zeros-add m n k (steps 8 x) (omega (arith, e))

zeros-shifted : (n a : ℕ) → zeros n (a * 2 ^ (8 * n)) ≡ a
unfolding zeros
zeros-shifted zero a = omega arith
zeros-shifted (suc n) a =
    let e : a * 2 ^ (8 * suc n) ≡ a * 2 ^ (8 * n) * 2 ^ 8 = ap (λ (y : ℕ). a * y) (one_byte_more n) ∙ sym (mul_assoc a (2 ^ (8 * n)) 256) in
    ap (λ (y : ℕ). zeros n (steps 8 y)) e ∙ ap (zeros n) (steps-shifted 8 (a * 2 ^ (8 * n))) ∙ zeros-shifted n a

-- y moved on by p bytes, with q + s zeros after it
further : (p q s r y : ℕ) → p + (q + s) ≡ r → zeros r (y * 2 ^ (8 * p)) ≡ zeros s (zeros q y)
further p q s r y e =
    zeros-add p (q + s) r (y * 2 ^ (8 * p)) e ∙ ap (zeros (q + s)) (zeros-shifted p y) ∙ zeros-add q s (q + s) y refl

-- y, and the four sums that replace it
replaced : (r y : ℕ) → 300 ≤ r → y < 2 ^ 128
    → zeros r (zeros 16 y) ≡ zeros r (xor_of_four (y * 2 ^ (8 * 284)) (y * 2 ^ (8 * 195)) (y * 2 ^ (8 * 167)) (y * 2 ^ (8 * 129)))
replaced r y h l =
    let s : ℕ = r - 300 in
    sym (zeros-add 16 r (16 + r) y refl) ∙ zeros-add 316 s (16 + r) y (omega arith) ∙ ap (zeros s) (sparse y l)
    ∙ xor_of_four-zeros s (zeros 16 y) (zeros 105 y) (zeros 133 y) (zeros 171 y)
    ∙ sym (xor_of_four-zeros r (y * 2 ^ (8 * 284)) (y * 2 ^ (8 * 195)) (y * 2 ^ (8 * 167)) (y * 2 ^ (8 * 129))
    ∙ xor_of_four-same (further 284 16 s r y (omega arith)) (further 195 105 s r y (omega arith)) (further 167 133 s r y (omega arith)) (further 129 171 s r y (omega arith)))

-- two wide registers that lead to the same register after a message
after_same : (u v : ℕ) (bs : List ℕ) → AreByteValues bs → zeros (length bs) u ≡ zeros (length bs) v → after_bytes u bs ≡ after_bytes v bs
after_same u v bs h e =
    after_all bs u h ∙ zeros-xor (length bs) u (message_number bs) ∙ ap (λ (y : ℕ). bit_xor y (zeros (length bs) (message_number bs))) e
    ∙ sym (after_all bs v h ∙ zeros-xor (length bs) v (message_number bs))

-- ---- sixteen bytes are removed

-- the wide register c with the message's sixteen bytes m added
parts : (high low m y c : ℕ) → low < 2 ^ 128 → m < 2 ^ 128 → y < 2 ^ 128 → c ≡ high * 2 ^ 128 + low → bit_xor low m ≡ y → bit_xor c m ≡ bit_xor y (high * 2 ^ 128)
parts high low m y c f g h e is =
    let z : m ≡ 0 * 2 ^ 128 + m = omega arith in
    ap (λ (x : ℕ). bit_xor x m) e ∙ ap (bit_xor (high * 2 ^ 128 + low)) z ∙ xor_block 128 high 0 low m f g
    ∙ ap (λ (x : ℕ). x * 2 ^ 128 + bit_xor low m) (xor_zero_r high) ∙ ap (λ (x : ℕ). high * 2 ^ 128 + x) is
    ∙ omega (arith, xor_split 128 high y h)

-- the sum that one of the four distances adds after the sixteen bytes
grown : (p n i j l y : ℕ) (xs ys : List ℕ) → AreByteValues xs → ((k : ℕ) → k < l → get_or ys k 0 ≡ get_or xs k 0)
    → i ≡ j → p + 16 ≡ n → i + p ≡ l → number_at l 16 ys ≡ y → number_at i n ys ≡ bit_xor (number_at j p xs) (y * 2 ^ (8 * p))
grown p n i j l y xs ys h same e f g is =
    let prefix : number_at i p ys ≡ number_at j p xs =
    number_at-same p i j ys xs (λ k a b u v w. (let q : b ≡ a = omega arith in same a (omega arith) ∙ ap (λ (z : ℕ). get_or xs z 0) (sym q))) in
    number_at-split p 16 n i l ys f g
    ∙ ap (λ (z : ℕ). z * 2 ^ (8 * p) + number_at i p ys) is ∙ ap (λ (z : ℕ). y * 2 ^ (8 * p) + z) prefix
    ∙ omega (arith, xor_split (8 * p) y (number_at j p xs) (number_at-lt p j xs h))

rest_number : (n i : ℕ) (xs : List ℕ) → little_number n (drop i xs) ≡ number_at i n xs
unfolding number_at
rest_number n i xs =
    number_at-same n 0 i (drop i xs) xs
    (λ k a b l p q. (let e : a ≡ k = omega (arith, p) in ap (λ (z : ℕ). get_or (drop i xs) z 0) e ∙ get_or-drop i xs k 0 ∙ ap (λ (z : ℕ). get_or xs z 0) (sym q)))

pub sixteen_out : (bytes xs ys : List ℕ) (from at more offset y : ℕ) → AreByteValues bytes → AreByteValues xs
    → from + 316 ≤ length bytes → at + 16 ≡ more → from + 16 ≡ offset
    → ((k : ℕ) → k < at + 304 → get_or ys k 0 ≡ get_or xs k 0) → number_at (at + 304) 16 ys ≡ y
    → y ≡ bit_xor (added at 16 xs) (number_at from 16 bytes)
    → after_bytes (pending more ys) (drop offset bytes) ≡ after_bytes (pending at xs) (drop from bytes)
unfolding added pending
sixteen_out bytes xs ys from at more offset y small h room e f same new is =
    let rest : List ℕ = drop from bytes in
    let last : List ℕ = drop 16 rest in
    let long : length rest ≡ length bytes - from = length-drop from bytes in
    let r : ℕ = length last in
    let far : 300 ≤ r = omega (arith, length-drop 16 rest, long) in
    let m : ℕ = little_number 16 rest in
    let h1 : ℕ = number_at (at + 4 + 16) 284 xs in
    let h2 : ℕ = number_at (at + 93 + 16) 195 xs in
    let h3 : ℕ = number_at (at + 121 + 16) 167 xs in
    let h4 : ℕ = number_at (at + 159 + 16) 129 xs in
    let high : ℕ = xor_of_four h1 h2 h3 h4 in
    let low : ℕ = added at 16 xs in
    let s1 : ℕ = y * 2 ^ (8 * 284) in
    let s2 : ℕ = y * 2 ^ (8 * 195) in
    let s3 : ℕ = y * 2 ^ (8 * 167) in
    let s4 : ℕ = y * 2 ^ (8 * 129) in
    let moved : ℕ = xor_of_four s1 s2 s3 s4 in
    let low_lt : low < 2 ^ 128 =
    xor_of_four-lt
    128 (number_at (at + 4) 16 xs) (number_at (at + 93) 16 xs) (number_at (at + 121) 16 xs) (number_at (at + 159) 16 xs)
    (number_at-lt 16 (at + 4) xs h) (number_at-lt 16 (at + 93) xs h) (number_at-lt 16 (at + 121) xs h) (number_at-lt 16 (at + 159) xs h) in
    let m_lt : number_at from 16 bytes < 2 ^ 128 = number_at-lt 16 from bytes small in
    let y_is : bit_xor low m ≡ y = ap (bit_xor low) (rest_number 16 from bytes) ∙ sym is in
    let y_lt : y < 2 ^ 128 = (let l : bit_xor low (number_at from 16 bytes) < 2 ^ 128 = xor_lt 128 low (number_at from 16 bytes) low_lt m_lt in omega arith) in
    let old : pending at xs ≡ high * 2 ^ 128 + low =
    xor_of_four-same
    (number_at-split 16 284 300 (at + 4) (at + 4 + 16) xs refl refl) (number_at-split 16 195 211 (at + 93) (at + 93 + 16) xs refl refl)
    (number_at-split 16 167 183 (at + 121) (at + 121 + 16) xs refl refl) (number_at-split 16 129 145 (at + 159) (at + 159 + 16) xs refl refl)
    ∙ xor_of_four-block
    128 h1 h2 h3 h4 (number_at (at + 4) 16 xs) (number_at (at + 93) 16 xs) (number_at (at + 121) 16 xs) (number_at (at + 159) 16 xs)
    (number_at-lt 16 (at + 4) xs h) (number_at-lt 16 (at + 93) xs h) (number_at-lt 16 (at + 121) xs h) (number_at-lt 16 (at + 159) xs h) in
    let grows : pending more ys ≡ bit_xor high moved =
    xor_of_four-same
    (grown 284 300 (more + 4) (at + 4 + 16) (at + 304) y xs ys h same (omega (arith, e)) refl (omega (arith, e)) new)
    (grown 195 211 (more + 93) (at + 93 + 16) (at + 304) y xs ys h same (omega (arith, e)) refl (omega (arith, e)) new)
    (grown 167 183 (more + 121) (at + 121 + 16) (at + 304) y xs ys h same (omega (arith, e)) refl (omega (arith, e)) new)
    (grown 129 145 (more + 159) (at + 159 + 16) (at + 304) y xs ys h same (omega (arith, e)) refl (omega (arith, e)) new)
    ∙ xor_of_four-xor h1 h2 h3 h4 s1 s2 s3 s4 in
    let apart : bit_xor (pending at xs) m ≡ bit_xor y (high * 2 ^ 128) = parts high low m y (pending at xs) low_lt (omega (arith, rest_number 16 from bytes, m_lt)) y_lt old y_is in
    let passed : zeros 16 (bit_xor (pending at xs) m) ≡ bit_xor (zeros 16 y) high =
    ap (zeros 16) apart ∙ zeros-xor 16 y (high * 2 ^ 128) ∙ ap (bit_xor (zeros 16 y)) (zeros-shifted 16 high) in
    let equal : zeros r (bit_xor (zeros 16 y) high) ≡ zeros r (bit_xor high moved) =
    zeros-xor r (zeros 16 y) high ∙ ap (λ (z : ℕ). bit_xor z (zeros r high)) (replaced r y far y_lt)
    ∙ xor_comm (zeros r moved) (zeros r high) ∙ sym (zeros-xor r high moved) in
    sym
    (after_block 16 (pending at xs) rest (omega (arith, long)) (small_rest from bytes small)
    ∙ ap (λ (z : ℕ). after_bytes z last) passed
    ∙ after_same (bit_xor (zeros 16 y) high) (bit_xor high moved) last (small_rest 16 rest (small_rest from bytes small)) equal
    ∙ ap (λ (z : ℕ). after_bytes z last) (sym grows)
    ∙ ap (after_bytes (pending more ys)) (drop-drop 16 from bytes ∙ ap (λ (z : ℕ). drop z bytes) f))

-- the sums move to the start of the buffer
pub pending_moved : (i : ℕ) (xs ys : List ℕ) → ((k a : ℕ) → k < 304 → a ≡ i + k → get_or ys k 0 ≡ get_or xs a 0) → pending 0 ys ≡ pending i xs
unfolding pending
pending_moved i xs ys h =
    let part : (d n : ℕ) → d + n ≡ 304 → number_at (0 + d) n ys ≡ number_at (i + d) n xs =
    λ d n e. number_at-same n (0 + d) (i + d) ys xs (λ k a b l p q. h a b (omega arith) (omega arith)) in
    xor_of_four-same (part 4 300 refl) (part 93 211 refl) (part 121 183 refl) (part 159 145 refl)

-- ---- vectors, and writes into a list

small_zip : (xs ys : List ℕ) → AreByteValues xs → AreByteValues ys → AreByteValues (zip2 bit_xor xs ys)
small_zip [] ys h g i = omega arith
small_zip (x ∷ xs) [] h g i = omega arith
small_zip (x ∷ xs) (y ∷ ys) h g zero = xor_lt 8 x y (h 0) (g 0)
small_zip (x ∷ xs) (y ∷ ys) h g (suc i) = small_zip xs ys (λ k. h (suc k)) (λ k. g (suc k)) i

pub lanes_xor : (xs ys : List ℕ) (v w : ℕ) → AreLanes xs v → AreLanes ys w → AreLanes (zip2 bit_xor xs ys) (bit_xor v w)
lanes_xor xs ys v w f g =
    let l : length xs ≡ 16 = f.0 in
    let m : length ys ≡ 16 = g.0 in
    let e : number_at 0 16 (zip2 bit_xor xs ys) ≡ bit_xor (number_at 0 16 xs) (number_at 0 16 ys) =
    number_at-xor 16 0 0 0 (zip2 bit_xor xs ys) xs ys f.1 g.1
    (λ k a b c n p q r.
    (let s : b ≡ a = omega (arith, p, q) in
    let t : c ≡ a = omega (arith, p, r) in
    get_or-zip2 bit_xor xs ys a 0 0 0 (omega (arith, l, n, p)) (omega (arith, m, n, p))
    ∙ ap (λ (z : ℕ). bit_xor (get_or xs z 0) (get_or ys a 0)) (sym s) ∙ ap (λ (z : ℕ). bit_xor (get_or xs b 0) (get_or ys z 0)) (sym t))) in (
      length-zip2 bit_xor xs ys (l ∙ sym m) ∙ l,
      small_zip xs ys f.1 g.1,
      e ∙ ap (λ (z : ℕ). bit_xor z (number_at 0 16 ys)) f.2 ∙ ap (bit_xor v) g.2,
    )

pub lanes_prefix : (p : ℕ) (xs : List ℕ) → AreByteValues xs → p + 16 ≤ length xs → AreLanes (take 16 (drop p xs)) (number_at p 16 xs)
lanes_prefix p xs h room =
    let l : length (drop p xs) ≡ length xs - p = length-drop p xs in (
      length-take-le 16 (drop p xs) (omega (arith, l, room)),
      small_prefix 16 (drop p xs) (small_rest p xs h),
      number_at-same 16 0 p (take 16 (drop p xs)) xs
          (λ k a b n e f. (let s : a ≡ k = omega (arith, e) in
          ap (λ (z : ℕ). get_or (take 16 (drop p xs)) z 0) s ∙ get_or-take 16 (drop p xs) k 0 n ∙ get_or-drop p xs k 0 ∙ ap (λ (z : ℕ). get_or xs z 0) (sym f))),
    )

small_append : (xs ys : List ℕ) → AreByteValues xs → AreByteValues ys → AreByteValues (xs ++ ys)
small_append [] ys h g i = g i
small_append (x ∷ xs) ys h g zero = h 0
small_append (x ∷ xs) ys h g (suc i) = small_append xs ys (λ k. h (suc k)) g i

small_put : (xs ys : List ℕ) → AreByteValues xs → AreByteValues ys → AreByteValues (put_chunk 0 xs ys)
small_put [] ys h g i = omega arith
small_put (x ∷ xs) [] h g i = h i
small_put (x ∷ xs) (y ∷ ys) h g zero = g 0
small_put (x ∷ xs) (y ∷ ys) h g (suc i) = small_put xs ys (λ k. h (suc k)) (λ k. g (suc k)) i

-- xs with ys at the k offsets from a on
pub kept_below : (a k i : ℕ) (xs ys : List ℕ) → i < a → a ≤ length xs → get_or (put_mid a k xs ys) i 0 ≡ get_or xs i 0
kept_below a k i xs ys l room =
    let m : length (take a xs) ≡ a = length-take-le a xs room in
    get_or-append (take a xs) (ys ++ post_of a k xs) 0 i (omega (arith, l, m)) ∙ get_or-take a xs i 0 l

written : (a k i : ℕ) (xs ys : List ℕ) → i < length ys → a ≤ length xs → get_or (put_mid a k xs ys) (a + i) 0 ≡ get_or ys i 0
written a k i xs ys l room =
    let m : length (take a xs) ≡ a = length-take-le a xs room in
    get_or-append_right (take a xs) (ys ++ post_of a k xs) a (a + i) 0 m (omega arith)
    ∙ ap (λ (z : ℕ). get_or (ys ++ post_of a k xs) z 0) (omega arith) ∙ get_or-append ys (post_of a k xs) 0 i l

small_written : (a k : ℕ) (xs ys : List ℕ) → AreByteValues xs → AreByteValues ys → AreByteValues (put_mid a k xs ys)
small_written a k xs ys h g = small_append (take a xs) (ys ++ post_of a k xs) (small_prefix a xs h) (small_append ys (post_of a k xs) g (small_rest k (drop a xs) (small_rest a xs h)))

-- a vector is written
pub lanes_written : (a k v : ℕ) (xs ys : List ℕ) → AreLanes ys v → a + k ≤ length xs → 16 ≤ k
    → number_at a 16 (put_mid a k xs (put_chunk 0 (mid_of a k xs) ys)) ≡ v
lanes_written a k v xs ys f room wide =
    let l : length (drop a xs) ≡ length xs - a = length-drop a xs in
    let m : length (mid_of a k xs) ≡ k = length-take-le k (drop a xs) (omega (arith, l, room)) in
    let zs : List ℕ = put_chunk 0 (mid_of a k xs) ys in
    let w : length zs ≡ k = length-put_chunk 0 (mid_of a k xs) ys ∙ m in
    let o : length ys ≡ 16 = f.0 in
    number_at-same 16 a 0 (put_mid a k xs zs) ys
    (λ i p q n d e. (let s : q ≡ i = omega (arith, e) in
    ap (λ (z : ℕ). get_or (put_mid a k xs zs) z 0) d ∙ written a k i xs zs (omega (arith, w, n, wide)) (omega (arith, room))
    ∙ ap (λ (z : ℕ). get_or zs z 0) (let y : i ≡ 0 + i = omega arith in y) ∙ get_or-put_chunk_at 0 (mid_of a k xs) ys i 0 (omega (arith, o, n)) (omega (arith, o, m, wide)) ∙ ap (λ (z : ℕ). get_or ys z 0) (sym s)))
    ∙ f.2

pub lanes_stored : (a v : ℕ) (xs ys : List ℕ) → AreLanes ys v → a + 16 ≤ length xs → number_at a 16 (put_chunk a xs ys) ≡ v
lanes_stored a v xs ys f room =
    let o : length ys ≡ 16 = f.0 in
    number_at-same 16 a 0 (put_chunk a xs ys) ys
    (λ i p q n d e. (let s : q ≡ i = omega (arith, e) in
    ap (λ (z : ℕ). get_or (put_chunk a xs ys) z 0) d ∙ get_or-put_chunk_at a xs ys i 0 (omega (arith, o, n)) (omega (arith, o, room)) ∙ ap (λ (z : ℕ). get_or ys z 0) (sym s)))
    ∙ f.2

pub small_lanes_written : (a k v : ℕ) (xs ys : List ℕ) → AreByteValues xs → AreLanes ys v → AreByteValues (put_mid a k xs (put_chunk 0 (mid_of a k xs) ys))
small_lanes_written a k v xs ys h f =
    small_written a k xs (put_chunk 0 (mid_of a k xs) ys) h (small_put (mid_of a k xs) ys (small_prefix k (drop a xs) (small_rest a xs h)) f.1)

-- ---- the remaining bytes

pub small_zeros : (n : ℕ) → AreByteValues (replicate n 0)
small_zeros zero i = omega arith
small_zeros (suc n) zero = omega arith
small_zeros (suc n) (suc i) = small_zeros n i

-- zeros at the m offsets from a on
pub filled : (a m k : ℕ) (xs ys : List ℕ) → ys ≡ replicate (length (mid_of a m xs)) 0 → a + m ≤ length xs → a ≤ k → k < a + m → get_or (put_mid a m xs ys) k 0 ≡ 0
filled a m k xs ys e room from to =
    let l : length (drop a xs) ≡ length xs - a = length-drop a xs in
    let n : length (mid_of a m xs) ≡ m = length-take-le m (drop a xs) (omega (arith, l, room)) in
    let o : length ys ≡ m = ap length e ∙ length-replicate (length (mid_of a m xs)) 0 ∙ n in
    let p : k ≡ a + (k - a) = omega (arith, from) in
    ap (λ (z : ℕ). get_or (put_mid a m xs ys) z 0) p ∙ written a m (k - a) xs ys (omega (arith, o, to, from)) (omega (arith, room))
    ∙ ap (λ (zs : List ℕ). get_or zs (k - a) 0) e ∙ get_or-replicate (length (mid_of a m xs)) (k - a) 0 0 (omega (arith, n, to, from))

-- sixteen more of them
pub sixteen_left : (at v : ℕ) (bs ts last : List ℕ) → AreByteValues ts → AreByteValues last
    → v ≡ bit_xor (added at 16 ts) (number_at at 16 last)
    → number_at at 16 bs ≡ v → number_at 0 at bs ≡ bit_xor (added 0 at ts) (number_at 0 at last)
    → number_at 0 (at + 16) bs ≡ bit_xor (added 0 (at + 16) ts) (number_at 0 (at + 16) last)
unfolding added
sixteen_left at v bs ts last h g is new before =
    let k : ℕ = 8 * at in
    let low : (i : ℕ) → number_at i at ts < 2 ^ k = λ i. number_at-lt at i ts h in
    let parts : (i j : ℕ) (xs : List ℕ) → i + at ≡ j → number_at i (at + 16) xs ≡ number_at j 16 xs * 2 ^ k + number_at i at xs =
    λ i j xs e. number_at-split at 16 (at + 16) i j xs refl e in
    let four_parts : added 0 (at + 16) ts ≡ added at 16 ts * 2 ^ k + added 0 at ts =
    xor_of_four-same (parts 4 (at + 4) ts (omega arith)) (parts 93 (at + 93) ts (omega arith)) (parts 121 (at + 121) ts (omega arith)) (parts 159 (at + 159) ts (omega arith))
    ∙ xor_of_four-block k (number_at (at + 4) 16 ts) (number_at (at + 93) 16 ts) (number_at (at + 121) 16 ts) (number_at (at + 159) 16 ts)
    (number_at 4 at ts) (number_at 93 at ts) (number_at 121 at ts) (number_at 159 at ts) (low 4) (low 93) (low 121) (low 159) in
    let four_low : added 0 at ts < 2 ^ k = xor_of_four-lt k (number_at 4 at ts) (number_at 93 at ts) (number_at 121 at ts) (number_at 159 at ts) (low 4) (low 93) (low 121) (low 159) in
    parts 0 at bs (omega arith)
    ∙ ap (λ (z : ℕ). z * 2 ^ k + number_at 0 at bs) (new ∙ is)
    ∙ ap (λ (z : ℕ). bit_xor (added at 16 ts) (number_at at 16 last) * 2 ^ k + z) before
    ∙ sym
    (ap (λ (z : ℕ). bit_xor z (number_at 0 (at + 16) last)) four_parts
    ∙ ap (bit_xor (added at 16 ts * 2 ^ k + added 0 at ts)) (parts 0 at last (omega arith))
    ∙ xor_block k (added at 16 ts) (number_at at 16 last) (added 0 at ts) (number_at 0 at last) four_low (number_at-lt at 0 last g))

-- zeros follow the removed bytes
added_last : (xs ts : List ℕ) → ((k : ℕ) → k < 304 → get_or ts k 0 ≡ get_or xs k 0) → ((k : ℕ) → 304 ≤ k → k < 608 → get_or ts k 0 ≡ 0)
    → added 0 304 ts ≡ pending 0 xs
unfolding added pending
added_last xs ts same none =
    let part : (d n : ℕ) → d + n ≡ 304 → number_at d 304 ts ≡ number_at d n xs =
    λ d n e.
    (let prefix : number_at d n ts ≡ number_at d n xs =
    number_at-same n d d ts xs (λ k a b l p q. (let s : b ≡ a = omega arith in same a (omega arith) ∙ ap (λ (z : ℕ). get_or xs z 0) (sym s))) in
    let back : number_at 304 d ts ≡ 0 = number_at-zero d 304 ts (λ k a l p. none a (omega arith) (omega arith)) in
    number_at-split n d 304 d 304 ts (omega arith) e ∙ ap (λ (z : ℕ). z * 2 ^ (8 * n) + number_at d n ts) back ∙ omega arith) in
    xor_of_four-same (part 4 300 refl) (part 93 211 refl) (part 121 183 refl) (part 159 145 refl)

whole_number : (n : ℕ) (xs : List ℕ) → length xs ≡ n → message_number xs ≡ number_at 0 n xs
unfolding number_at
whole_number n xs e = sym (number_is n xs (omega (arith, e)) ∙ ap message_number (take_all n xs (omega (arith, e))))

pub last_left : (bs xs ts last : List ℕ) → AreByteValues bs → AreByteValues last → length bs ≡ 304 → length last ≡ 304
    → ((k : ℕ) → k < 304 → get_or ts k 0 ≡ get_or xs k 0) → ((k : ℕ) → 304 ≤ k → k < 608 → get_or ts k 0 ≡ 0)
    → number_at 0 304 bs ≡ bit_xor (added 0 304 ts) (number_at 0 304 last)
    → after_bytes 0 bs ≡ after_bytes (pending 0 xs) last
last_left bs xs ts last h g l m same none is =
    after_all bs 0 h ∙ ap (zeros (length bs)) (xor_zero_l (message_number bs) ∙ whole_number 304 bs l ∙ is
    ∙ ap (λ (z : ℕ). bit_xor z (number_at 0 304 last)) (added_last xs ts same none) ∙ ap (bit_xor (pending 0 xs)) (sym (whole_number 304 last m)))
    ∙ ap (λ (n : ℕ). zeros n (bit_xor (pending 0 xs) (message_number last))) (l ∙ sym m)
    ∙ sym (after_all last (pending 0 xs) g)
