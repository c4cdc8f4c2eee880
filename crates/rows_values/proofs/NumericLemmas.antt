-- Packed bytes with the same number of digits are ordered as the numbers.
use Rattle.std.proofs.Common.{◌≡◌, ◌≢◌, ◌≤◌, ◌<◌, ◌+◌, ◌*◌, ◌-◌, ◌/◌, ◌%◌, ◌^◌, ◌++◌, ◌⊎◌, Bool, true, false, ℕ, zero, suc, List, [], ◌∷◌, length, take, drop, map, get_or, inl, inr, arith, refl, sym, ap, subst, ◌∙◌, Ordering}
use Rattle.std.specs.Ordering.{nat_cmp, ordering_then}
use Rattle.std.specs.declared.cmp.Ordering.TheVariants.{Less, Equal, Greater}
use Rattle.std.specs.Cmp.Lexicographic.{slice_cmp}
use Rattle.std.specs.Int.Digits.{number_from_digits, number_from_digits_after}
use Rattle.std.proofs.Math.Nat.{pow-suc, mul-le-mul_left}
use Rattle.std.proofs.Math.Seq.{take-length}
use Rattle.std.proofs.lemmas.Bool.Decides.{leb_tells, eqb_tells}
use Rattle.std.proofs.lemmas.List.{length-append, length-drop, length-take-le, take-append-drop}
use Rattle.byteorder.specs.Endian.{big_from}
use Rattle.byteorder.specs.Numbers.{big_from-cons, big_from-lt}
use Rattle.wire_buf.specs.Encoding.{AreBytes}
use Rattle.rows_values.specs.Digits.{AreDigits, group_size, side_size, group_bytes, nines_bytes, before_bytes, after_bytes, top_flipped, signed}
use Rattle.rows_values.specs.Decimals.{DecimalParts, packed_encoding, digits_number, number_cmp, IsPacked}
use Rattle.rows_values.proofs.GroupLemmas.{take_digits, drop_digits, append_digits, number_bound, fits_group}
use Rattle.rows_values.proofs.UnpackDigitsLemmas.{length-group, length-nines, number_of_bytes, nine_long, take_parts}
use Rattle.rows_values.proofs.UnpackLemmas.{before_of, after_of, group_are_bytes, sides_low, sides_are_bytes, top_bytes, length-before, length-after}
use Rattle.rows_values.proofs.OrderLemmas.{self_equal}

-- ---- the order of numbers

pub less : (a b : ℕ) → a < b → nat_cmp a b ≡ Less
less a b h = elim (leb_tells (suc a) b) [ inl t ↦ rw t.0 refl | inr t ↦ absurd (omega (arith, t.1, h)) ]

pub greater : (a b : ℕ) → b < a → nat_cmp a b ≡ Greater
greater a b h = elim (leb_tells (suc a) b) [
  | inl t ↦ absurd (omega (arith, t.1, h))
  | inr t ↦ elim (eqb_tells a b) [ inl e ↦ absurd (omega (arith, e.1, h)) | inr e ↦ rw (t.0, e.0) refl ]
]

equal : (a b : ℕ) → a ≡ b → nat_cmp a b ≡ Equal
equal a b e = ap (nat_cmp a) (sym e) ∙ self_equal a

pub three : (a b : ℕ) → (a < b) ⊎ ((a ≡ b) ⊎ (b < a))
three a b = elim (leb_tells (suc a) b) [
  | inl t ↦ inl t.1
  | inr t ↦ elim (eqb_tells a b) [ inl e ↦ inr (inl e.1) | inr e ↦ let apart : a ≢ b = e.1 in inr (inr (omega (arith, t.1, apart))) ]
]

pub shift_cmp : (k a b : ℕ) → nat_cmp (k + a) (k + b) ≡ nat_cmp a b
shift_cmp k a b = elim (three a b) [
  | inl l ↦ less (k + a) (k + b) (omega (arith, l)) ∙ sym (less a b l)
  | inr c ↦ elim c [
    | inl e ↦ equal (k + a) (k + b) (ap (λ j. k + j) e) ∙ sym (equal a b e)
    | inr g ↦ greater (k + a) (k + b) (omega (arith, g)) ∙ sym (greater a b g)
  ]
]

pub flip_cmp : (a b : ℕ) → a < 256 → b < 256 → nat_cmp (255 - a) (255 - b) ≡ nat_cmp b a
flip_cmp a b h g = elim (three a b) [
  | inl l ↦ greater (255 - a) (255 - b) (omega (arith, l, h, g)) ∙ sym (greater b a l)
  | inr c ↦ elim c [
    | inl e ↦ equal (255 - a) (255 - b) (ap (λ j. 255 - j) e) ∙ sym (equal b a (sym e))
    | inr m ↦ less (255 - a) (255 - b) (omega (arith, m, h, g)) ∙ sym (less b a m)
  ]
]

-- the higher digits decide first
place_cmp : (m q r s t : ℕ) → r < m → t < m → nat_cmp (q * m + r) (s * m + t) ≡ ordering_then (nat_cmp q s) (nat_cmp r t)
place_cmp m q r s t hr ht = elim (three q s) [
  | inl l ↦
      let step : q + 1 ≤ s = omega (arith, l) in
      let bound = mul-le-mul_left m step in
      less (q * m + r) (s * m + t) (omega (arith, bound, hr)) ∙ ap (λ (o : Ordering). ordering_then o (nat_cmp r t)) (sym (less q s l))
  | inr c ↦ elim c [
    | inl e ↦ ap (λ k. nat_cmp (k * m + r) (s * m + t)) e ∙ shift_cmp (s * m) r t ∙ ap (λ (o : Ordering). ordering_then o (nat_cmp r t)) (sym (equal q s e))
    | inr g ↦
        let step : s + 1 ≤ q = omega (arith, g) in
        let bound = mul-le-mul_left m step in
        greater (q * m + r) (s * m + t) (omega (arith, bound, ht)) ∙ ap (λ (o : Ordering). ordering_then o (nat_cmp r t)) (sym (greater q s g))
  ]
]

-- ---- the order of lists

then_assoc : (o p q : Ordering) → ordering_then o (ordering_then p q) ≡ ordering_then (ordering_then o p) q
then_assoc Less p q = refl
then_assoc Equal p q = refl
then_assoc Greater p q = refl

cmp_append : (a b x y : List ℕ) → length a ≡ length b → slice_cmp nat_cmp (a ++ x) (b ++ y) ≡ ordering_then (slice_cmp nat_cmp a b) (slice_cmp nat_cmp x y)
cmp_append [] [] x y h = refl
cmp_append [] (d ∷ b) x y h = absurd (omega (arith, h))
cmp_append (c ∷ a) [] x y h = absurd (omega (arith, h))
cmp_append (c ∷ a) (d ∷ b) x y h =
    ap (λ (o : Ordering). ordering_then (nat_cmp c d) o) (cmp_append a b x y (omega (arith, h))) ∙ then_assoc (nat_cmp c d) (slice_cmp nat_cmp a b) (slice_cmp nat_cmp x y)

-- lists of bytes of the same length are ordered as their numbers
bytes_cmp : (xs ys : List ℕ) → length xs ≡ length ys → AreBytes xs → AreBytes ys → slice_cmp nat_cmp xs ys ≡ nat_cmp (big_from 0 (length xs) xs) (big_from 0 (length ys) ys)
bytes_cmp [] [] e h g = refl
bytes_cmp [] (y ∷ ys) e h g = absurd (omega (arith, e))
bytes_cmp (x ∷ xs) [] e h g = absurd (omega (arith, e))
bytes_cmp (x ∷ xs) (y ∷ ys) e h g =
    let long : length xs ≡ length ys = omega (arith, e) in
    let m = 256 ^ length xs in
    let r = big_from 0 (length xs) xs in
    let t = big_from 0 (length ys) ys in
    let left : big_from 1 (length xs) (x ∷ xs) ≡ r = big_from-cons 0 (length xs) x xs in
    let right : big_from 1 (length ys) (y ∷ ys) ≡ t = big_from-cons 0 (length ys) y ys in
    let r_below : r < m = big_from-lt 0 (length xs) xs (λ k. h (suc k)) in
    let t_below : t < m = subst (λ k. t < 256 ^ k) (sym long) (big_from-lt 0 (length ys) ys (λ k. g (suc k))) in
    ap (λ (o : Ordering). ordering_then (nat_cmp x y) o) (bytes_cmp xs ys long (λ k. h (suc k)) (λ k. g (suc k))) ∙ sym (place_cmp m x r y t r_below t_below)
    ∙ ap (λ k. nat_cmp (x * m + k) (y * m + t)) (sym left) ∙ ap (λ k. nat_cmp (big_from 0 (suc (length xs)) (x ∷ xs)) (y * 256 ^ k + t)) long
    ∙ ap (λ k. nat_cmp (big_from 0 (suc (length xs)) (x ∷ xs)) (y * 256 ^ length ys + k)) (sym right)

-- a number of digits, by its first digit
scale : (n : ℕ) (xs : List ℕ) → number_from_digits_after 10 n xs ≡ n * 10 ^ length xs + number_from_digits 10 xs
scale n [] = omega arith
scale n (x ∷ xs) =
    let p = 10 ^ length xs in
    let rest = number_from_digits 10 xs in
    let power = pow-suc 10 (length xs) in
    let sums : (n * 10 + x) * p + rest ≡ n * (p * 10) + ((0 * 10 + x) * p + rest) = omega arith in
    scale (n * 10 + x) xs ∙ sums ∙ ap (λ k. n * k + ((0 * 10 + x) * p + rest)) (sym power) ∙ ap (λ k. n * 10 ^ suc (length xs) + k) (sym (scale (0 * 10 + x) xs))

number_cons : (x : ℕ) (xs : List ℕ) → number_from_digits 10 (x ∷ xs) ≡ x * 10 ^ length xs + number_from_digits 10 xs
number_cons x xs = let e : 0 * 10 + x ≡ x = omega arith in scale (0 * 10 + x) xs ∙ ap (λ k. k * 10 ^ length xs + number_from_digits 10 xs) e

digits_cmp : (xs ys : List ℕ) → length xs ≡ length ys → AreDigits xs → AreDigits ys → slice_cmp nat_cmp xs ys ≡ nat_cmp (number_from_digits 10 xs) (number_from_digits 10 ys)
digits_cmp [] [] e h g = refl
digits_cmp [] (y ∷ ys) e h g = absurd (omega (arith, e))
digits_cmp (x ∷ xs) [] e h g = absurd (omega (arith, e))
digits_cmp (x ∷ xs) (y ∷ ys) e h g =
    let long : length xs ≡ length ys = omega (arith, e) in
    let m = 10 ^ length xs in
    let r = number_from_digits 10 xs in
    let t = number_from_digits 10 ys in
    let r_below : r < m = number_bound xs (λ k. h (suc k)) in
    let t_below : t < m = subst (λ k. t < 10 ^ k) (sym long) (number_bound ys (λ k. g (suc k))) in
    ap (λ (o : Ordering). ordering_then (nat_cmp x y) o) (digits_cmp xs ys long (λ k. h (suc k)) (λ k. g (suc k))) ∙ sym (place_cmp m x r y t r_below t_below)
    ∙ ap (λ k. nat_cmp k (y * m + t)) (sym (number_cons x xs)) ∙ ap (λ k. nat_cmp (number_from_digits 10 (x ∷ xs)) (y * 10 ^ k + t)) long
    ∙ ap (λ k. nat_cmp (number_from_digits 10 (x ∷ xs)) k) (sym (number_cons y ys))

-- ---- the order of groups

group_number : (ds : List ℕ) → length ds ≤ 9 → AreDigits ds → big_from 0 (length (group_bytes ds)) (group_bytes ds) ≡ number_from_digits 10 ds
group_number ds few are =
    ap (λ k. big_from 0 k (group_bytes ds)) (length-group ds)
    ∙ number_of_bytes (group_size (length ds)) (number_from_digits 10 ds) (fits_group (length ds) (number_from_digits 10 ds) few (number_bound ds are)).0

group_cmp : (ds es : List ℕ) → length ds ≡ length es → length ds ≤ 9 → AreDigits ds → AreDigits es → slice_cmp nat_cmp (group_bytes ds) (group_bytes es) ≡ slice_cmp nat_cmp ds es
group_cmp ds es e few h g =
    let long : length (group_bytes ds) ≡ length (group_bytes es) = length-group ds ∙ ap group_size e ∙ sym (length-group es) in
    bytes_cmp (group_bytes ds) (group_bytes es) long (group_are_bytes ds) (group_are_bytes es)
    ∙ ap (λ k. nat_cmp k (big_from 0 (length (group_bytes es)) (group_bytes es))) (group_number ds few h) ∙ ap (nat_cmp (number_from_digits 10 ds)) (group_number es (omega (arith, e, few)) g)
    ∙ sym (digits_cmp ds es e h g)

nines_cmp : (n : ℕ) (ds es : List ℕ) → 9 * n ≤ length ds → 9 * n ≤ length es → AreDigits ds → AreDigits es
    → slice_cmp nat_cmp (nines_bytes n ds) (nines_bytes n es) ≡ slice_cmp nat_cmp (take (9 * n) ds) (take (9 * n) es)
unfolding nines_bytes
nines_cmp zero ds es a b h g = refl
nines_cmp (suc n) ds es a b h g =
    let p = take 9 (drop (9 * n) ds) in
    let q = take 9 (drop (9 * n) es) in
    let a_before : 9 * n ≤ length ds = omega (arith, a) in
    let b_before : 9 * n ≤ length es = omega (arith, b) in
    let p_long = nine_long ds n (omega (arith, a)) in
    let q_long = nine_long es n (omega (arith, b)) in
    let first : length (nines_bytes n ds) ≡ length (nines_bytes n es) = length-nines n ds a_before ∙ sym (length-nines n es b_before) in
    let prefixes : length (take (9 * n) ds) ≡ length (take (9 * n) es) = length-take-le (9 * n) ds a_before ∙ sym (length-take-le (9 * n) es b_before) in
    let more : 9 * n + 9 ≡ 9 * suc n = omega arith in
    cmp_append (nines_bytes n ds) (nines_bytes n es) (group_bytes p) (group_bytes q) first
    ∙ ap (λ (o : Ordering). ordering_then o (slice_cmp nat_cmp (group_bytes p) (group_bytes q))) (nines_cmp n ds es a_before b_before h g)
    ∙ ap (λ (o : Ordering). ordering_then (slice_cmp nat_cmp (take (9 * n) ds) (take (9 * n) es)) o)
    (group_cmp p q (p_long ∙ sym q_long) (omega (arith, p_long)) (take_digits 9 (drop (9 * n) ds) (drop_digits (9 * n) ds h)) (take_digits 9 (drop (9 * n) es) (drop_digits (9 * n) es g)))
    ∙ sym (cmp_append (take (9 * n) ds) (take (9 * n) es) p q prefixes)
    ∙ ap (λ (l : List ℕ). slice_cmp nat_cmp l (take (9 * n) es ++ q)) (take_parts (9 * n) 9 ds ∙ ap (λ k. take k ds) more)
    ∙ ap (λ (l : List ℕ). slice_cmp nat_cmp (take (9 * suc n) ds) l) (take_parts (9 * n) 9 es ∙ ap (λ k. take k es) more)

whole_of : (xs : List ℕ) (n : ℕ) → length xs ≡ n → take n xs ≡ xs
whole_of xs n e = ap (λ k. take k xs) (sym e) ∙ take-length xs

pub before_cmp : (n : ℕ) (ds es : List ℕ) → length ds ≡ n → length es ≡ n → AreDigits ds → AreDigits es → slice_cmp nat_cmp (before_bytes ds) (before_bytes es) ≡ slice_cmp nat_cmp ds es
before_cmp n ds es a b h g =
    let left = n % 9 in
    let w = n / 9 in
    let p = take left ds in
    let q = take left es in
    let r = drop left ds in
    let s = drop left es in
    let p_long : length p ≡ left = length-take-le left ds (omega (arith, a)) in
    let q_long : length q ≡ left = length-take-le left es (omega (arith, b)) in
    let r_long : length r ≡ 9 * w = omega (arith, a, length-drop left ds) in
    let s_long : length s ≡ 9 * w = omega (arith, b, length-drop left es) in
    let same : length (group_bytes p) ≡ length (group_bytes q) = length-group p ∙ ap group_size (p_long ∙ sym q_long) ∙ sym (length-group q) in
    ap (λ (l : List ℕ). slice_cmp nat_cmp l (before_bytes es)) (before_of n ds a) ∙ ap (λ (l : List ℕ). slice_cmp nat_cmp (group_bytes p ++ nines_bytes w r) l) (before_of n es b)
    ∙ cmp_append (group_bytes p) (group_bytes q) (nines_bytes w r) (nines_bytes w s) same
    ∙ ap (λ (o : Ordering). ordering_then o (slice_cmp nat_cmp (nines_bytes w r) (nines_bytes w s)))
    (group_cmp p q (p_long ∙ sym q_long) (omega (arith, p_long)) (take_digits left ds h) (take_digits left es g))
    ∙ ap (λ (o : Ordering). ordering_then (slice_cmp nat_cmp p q) o)
    (nines_cmp w r s (omega (arith, r_long)) (omega (arith, s_long)) (drop_digits left ds h) (drop_digits left es g)
    ∙ ap (λ (l : List ℕ). slice_cmp nat_cmp l (take (9 * w) s)) (whole_of r (9 * w) r_long) ∙ ap (λ (l : List ℕ). slice_cmp nat_cmp r l) (whole_of s (9 * w) s_long))
    ∙ sym (cmp_append p q r s (p_long ∙ sym q_long))
    ∙ ap (λ (l : List ℕ). slice_cmp nat_cmp l (q ++ s)) (take-append-drop left ds) ∙ ap (λ (l : List ℕ). slice_cmp nat_cmp ds l) (take-append-drop left es)

pub after_cmp : (n : ℕ) (ds es : List ℕ) → length ds ≡ n → length es ≡ n → AreDigits ds → AreDigits es → slice_cmp nat_cmp (after_bytes ds) (after_bytes es) ≡ slice_cmp nat_cmp ds es
after_cmp n ds es a b h g =
    let w = n / 9 in
    let m = 9 * w in
    let p = take m ds in
    let q = take m es in
    let r = drop m ds in
    let s = drop m es in
    let p_long : length p ≡ m = length-take-le m ds (omega (arith, a)) in
    let q_long : length q ≡ m = length-take-le m es (omega (arith, b)) in
    let r_long : length r ≡ n % 9 = omega (arith, a, length-drop m ds) in
    let s_long : length s ≡ n % 9 = omega (arith, b, length-drop m es) in
    let same : length (nines_bytes w p) ≡ length (nines_bytes w q) = length-nines w p (omega (arith, p_long)) ∙ sym (length-nines w q (omega (arith, q_long))) in
    ap (λ (l : List ℕ). slice_cmp nat_cmp l (after_bytes es)) (after_of n ds a) ∙ ap (λ (l : List ℕ). slice_cmp nat_cmp (nines_bytes w p ++ group_bytes r) l) (after_of n es b)
    ∙ cmp_append (nines_bytes w p) (nines_bytes w q) (group_bytes r) (group_bytes s) same
    ∙ ap (λ (o : Ordering). ordering_then o (slice_cmp nat_cmp (group_bytes r) (group_bytes s)))
    (nines_cmp w p q (omega (arith, p_long)) (omega (arith, q_long)) (take_digits m ds h) (take_digits m es g)
    ∙ ap (λ (l : List ℕ). slice_cmp nat_cmp l (take m q)) (whole_of p m p_long) ∙ ap (λ (l : List ℕ). slice_cmp nat_cmp p l) (whole_of q m q_long))
    ∙ ap (λ (o : Ordering). ordering_then (slice_cmp nat_cmp p q) o)
    (group_cmp r s (r_long ∙ sym s_long) (omega (arith, r_long)) (drop_digits m ds h) (drop_digits m es g))
    ∙ sym (cmp_append p q r s (p_long ∙ sym q_long))
    ∙ ap (λ (l : List ℕ). slice_cmp nat_cmp l (q ++ s)) (take-append-drop m ds) ∙ ap (λ (l : List ℕ). slice_cmp nat_cmp ds l) (take-append-drop m es)

-- ---- the order of packed decimals

sides : DecimalParts → List ℕ
sides v = before_bytes v.before ++ after_bytes v.after

-- the same number of digits before and after the point
pub record AreAlike (v w : DecimalParts) : Type 0 where
  pub before_size : length v.before ≡ length w.before
  pub after_size : length v.after ≡ length w.after
  pub v_before : AreDigits v.before
  pub v_after : AreDigits v.after
  pub w_before : AreDigits w.before
  pub w_after : AreDigits w.after

digits_alike : (v w : DecimalParts) → AreAlike v w → slice_cmp nat_cmp (v.before ++ v.after) (w.before ++ w.after) ≡ nat_cmp (digits_number v) (digits_number w)
digits_alike v w a =
    let b_size = a.before_size in
    let a_size = a.after_size in
    let long : length (v.before ++ v.after) ≡ length (w.before ++ w.after) = omega (arith, length-append v.before v.after, length-append w.before w.after, b_size, a_size) in
    digits_cmp (v.before ++ v.after) (w.before ++ w.after) long (append_digits v.before v.after a.v_before a.v_after) (append_digits w.before w.after a.w_before a.w_after)

sides_cmp : (v w : DecimalParts) → AreAlike v w → slice_cmp nat_cmp (sides v) (sides w) ≡ nat_cmp (digits_number v) (digits_number w)
unfolding sides
sides_cmp v w a =
    let prefixes : length (before_bytes v.before) ≡ length (before_bytes w.before) = length-before v.before ∙ ap side_size a.before_size ∙ sym (length-before w.before) in
    let b_size = a.before_size in
    let a_size = a.after_size in
    cmp_append (before_bytes v.before) (before_bytes w.before) (after_bytes v.after) (after_bytes w.after) prefixes
    ∙ ap (λ (o : Ordering). ordering_then o (slice_cmp nat_cmp (after_bytes v.after) (after_bytes w.after))) (before_cmp (length v.before) v.before w.before refl (sym b_size) a.v_before a.w_before)
    ∙ ap (λ (o : Ordering). ordering_then (slice_cmp nat_cmp v.before w.before) o) (after_cmp (length v.after) v.after w.after refl (sym a_size) a.v_after a.w_after)
    ∙ sym (cmp_append v.before w.before v.after w.after b_size)
    ∙ digits_alike v w a

sides_long : (v w : DecimalParts) → AreAlike v w → length (sides v) ≡ length (sides w)
unfolding sides
sides_long v w a =
    let before = length-before v.before ∙ ap side_size a.before_size ∙ sym (length-before w.before) in
    let after = length-after v.after ∙ ap side_size a.after_size ∙ sym (length-after w.after) in
    omega (arith, length-append (before_bytes v.before) (after_bytes v.after), length-append (before_bytes w.before) (after_bytes w.after), before, after)

top_cmp : (y z : List ℕ) → length y ≡ length z → get_or y 0 0 < 128 → get_or z 0 0 < 128 → slice_cmp nat_cmp (top_flipped y) (top_flipped z) ≡ slice_cmp nat_cmp y z
top_cmp [] [] e h g = refl
top_cmp [] (c ∷ z) e h g = absurd (omega (arith, e))
top_cmp (b ∷ y) [] e h g = absurd (omega (arith, e))
top_cmp (b ∷ y) (c ∷ z) e h g =
    let one : (b + 128) % 256 ≡ 128 + b = omega (arith, h) in
    let two : (c + 128) % 256 ≡ 128 + c = omega (arith, g) in
    ap (λ (o : Ordering). ordering_then o (slice_cmp nat_cmp y z)) (ap (λ k. nat_cmp k ((c + 128) % 256)) one ∙ ap (nat_cmp (128 + b)) two ∙ shift_cmp 128 b c)

all_cmp : (y z : List ℕ) → length y ≡ length z → AreBytes y → AreBytes z → slice_cmp nat_cmp (map (λ b. 255 - b) y) (map (λ b. 255 - b) z) ≡ slice_cmp nat_cmp z y
all_cmp [] [] e h g = refl
all_cmp [] (c ∷ z) e h g = absurd (omega (arith, e))
all_cmp (b ∷ y) [] e h g = absurd (omega (arith, e))
all_cmp (b ∷ y) (c ∷ z) e h g =
    ap (λ (o : Ordering). ordering_then o (slice_cmp nat_cmp (map (λ k. 255 - k) y) (map (λ k. 255 - k) z))) (flip_cmp b c (h 0) (g 0))
    ∙ ap (λ (o : Ordering). ordering_then (nat_cmp c b) o) (all_cmp y z (omega (arith, e)) (λ k. h (suc k)) (λ k. g (suc k)))

-- a negative decimal is less than one that isn't
pub mixed_less : (y z : List ℕ) → 0 < length y → 0 < length z → get_or y 0 0 < 128 → get_or z 0 0 < 128 → slice_cmp nat_cmp (map (λ b. 255 - b) (top_flipped y)) (top_flipped z) ≡ Less
mixed_less [] z some also h g = absurd (omega (arith, some))
mixed_less (b ∷ y) [] some also h g = absurd (omega (arith, also))
mixed_less (b ∷ y) (c ∷ z) some also h g =
    ap (λ (o : Ordering). ordering_then o (slice_cmp nat_cmp (map (λ k. 255 - k) y) z)) (less (255 - (b + 128) % 256) ((c + 128) % 256) (omega (arith, h, g)))

pub mixed_greater : (y z : List ℕ) → 0 < length y → 0 < length z → get_or y 0 0 < 128 → get_or z 0 0 < 128 → slice_cmp nat_cmp (top_flipped y) (map (λ b. 255 - b) (top_flipped z)) ≡ Greater
mixed_greater [] z some also h g = absurd (omega (arith, some))
mixed_greater (b ∷ y) [] some also h g = absurd (omega (arith, also))
mixed_greater (b ∷ y) (c ∷ z) some also h g =
    ap (λ (o : Ordering). ordering_then o (slice_cmp nat_cmp y (map (λ k. 255 - k) z))) (greater ((b + 128) % 256) (255 - (c + 128) % 256) (omega (arith, h, g)))

length-top : (y : List ℕ) → length (top_flipped y) ≡ length y
length-top [] = refl
length-top (b ∷ y) = refl

signed_cmp : (m n : Bool) (y z : List ℕ) (p q : ℕ) → length y ≡ length z → 0 < length y → AreBytes y → AreBytes z → get_or y 0 0 < 128 → get_or z 0 0 < 128
    → slice_cmp nat_cmp y z ≡ nat_cmp p q → slice_cmp nat_cmp z y ≡ nat_cmp q p → slice_cmp nat_cmp (signed m (top_flipped y)) (signed n (top_flipped z)) ≡ number_cmp m p n q
signed_cmp true true y z p q e some h g low_y low_z forth back =
    all_cmp (top_flipped y) (top_flipped z) (length-top y ∙ e ∙ sym (length-top z)) (top_bytes y h) (top_bytes z g) ∙ top_cmp z y (sym e) low_z low_y ∙ back
signed_cmp true false y z p q e some h g low_y low_z forth back = mixed_less y z some (omega (arith, e, some)) low_y low_z
signed_cmp false true y z p q e some h g low_y low_z forth back = mixed_greater y z some (omega (arith, e, some)) low_y low_z
signed_cmp false false y z p q e some h g low_y low_z forth back = top_cmp y z e low_y low_z ∙ forth

group_some : (k : ℕ) → 0 < k → k < 9 → 0 < group_size k
group_some zero h g = absurd (omega (arith, h))
group_some (suc zero) h g = omega arith
group_some (suc (suc zero)) h g = omega arith
group_some (suc (suc (suc zero))) h g = omega arith
group_some (suc (suc (suc (suc zero)))) h g = omega arith
group_some (suc (suc (suc (suc (suc zero))))) h g = omega arith
group_some (suc (suc (suc (suc (suc (suc zero)))))) h g = omega arith
group_some (suc (suc (suc (suc (suc (suc (suc zero))))))) h g = omega arith
group_some (suc (suc (suc (suc (suc (suc (suc (suc zero)))))))) h g = omega arith
group_some (suc (suc (suc (suc (suc (suc (suc (suc (suc k))))))))) h g = absurd (omega (arith, g))

side_some : (n : ℕ) → 0 < n → 0 < side_size n
side_some n h = elim (leb_tells 1 (n % 9)) [
  | inl t ↦ let some = group_some (n % 9) t.1 (omega arith) in omega (arith, some)
  | inr t ↦ omega (arith, t.1, h)
]

pub sides_some : (v : DecimalParts) → 0 < length v.before + length v.after → 0 < length (before_bytes v.before ++ after_bytes v.after)
sides_some v some = elim (leb_tells 1 (length v.before)) [
  | inl t ↦ omega (arith, side_some (length v.before) t.1, length-before v.before, length-append (before_bytes v.before) (after_bytes v.after))
  | inr t ↦ omega (arith, side_some (length v.after) (omega (arith, t.1, some)), length-after v.after, length-append (before_bytes v.before) (after_bytes v.after))
]

turned_around : (v w : DecimalParts) → AreAlike v w → AreAlike w v
turned_around v w a = record {
  before_size = sym a.before_size;
  after_size = sym a.after_size;
  v_before = a.w_before;
  v_after = a.w_after;
  w_before = a.v_before;
  w_after = a.v_after;
}

packed_in_order : (v w : DecimalParts) → AreAlike v w → 0 < length v.before + length v.after → slice_cmp nat_cmp (packed_encoding v) (packed_encoding w) ≡ number_cmp v.negative (digits_number v) w.negative (digits_number w)
unfolding sides
packed_in_order v w a some =
    signed_cmp v.negative w.negative (sides v) (sides w) (digits_number v) (digits_number w) (sides_long v w a) (sides_some v some) (sides_are_bytes v.before v.after) (sides_are_bytes w.before w.after)
    (sides_low v.before v.after a.v_before a.v_after) (sides_low w.before w.after a.w_before a.w_after) (sides_cmp v w a) (sides_cmp w v (turned_around v w a))

-- the same for packed decimals with so many digits
pub packs_in_order : (before after : ℕ) (v w : DecimalParts) (a b : List ℕ) → 0 < before + after → IsPacked before after v a → IsPacked before after w b
    → slice_cmp nat_cmp a b ≡ number_cmp v.negative (digits_number v) w.negative (digits_number w)
packs_in_order before after v w a b some p q =
    let alike : AreAlike v w = record {
      before_size = p.before_size ∙ sym q.before_size;
      after_size = p.after_size ∙ sym q.after_size;
      v_before = p.before_are;
      v_after = p.after_are;
      w_before = q.before_are;
      w_after = q.after_are;
    } in
    let v_some : 0 < length v.before + length v.after = subst (λ k. 0 < k + length v.after) (sym p.before_size) (subst (λ k. 0 < before + k) (sym p.after_size) some) in
    ap (λ (l : List ℕ). slice_cmp nat_cmp l b) (sym p.bytes_are) ∙ ap (λ (l : List ℕ). slice_cmp nat_cmp (packed_encoding v) l) (sym q.bytes_are) ∙ packed_in_order v w alike v_some
