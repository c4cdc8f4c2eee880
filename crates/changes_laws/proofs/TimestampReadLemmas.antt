-- The text of a TIMESTAMP's value shows its seconds and microseconds, and so does its JSON.
use Rattle.std.proofs.Common.{◌≡◌, ℕ, zero, suc, ◌+◌, ◌-◌, ◌*◌, ◌/◌, ◌%◌, ◌<◌, ◌≤◌, ◌^◌, Bool, true, false, T, eqb→eq, List, [], ◌∷◌, ◌++◌, length, drop, replicate, refl, sym, ap, ap₂, ◌∙◌, subst, arith, inl, inr, length-append}
use Rattle.std.specs.Prelude.{ℤ, pos, negsuc, ◌*ℤ◌, ◌==◌, ◌-ℤ◌, unsigned_abs, int_lt, if◌then◌else◌, nat_le, nat_lt}
use Rattle.std.specs.Int.{w32, cast_unsigned}
use Rattle.std.specs.Fmt.{decimal, digits, digits_onto, digit_glyph, signed_decimal}
use Rattle.std.specs.Str.Parse.{digits_value}
use Rattle.std.proofs.Math.Facts.{leb_yes, ltb_yes}
use Rattle.std.proofs.lemmas.Bool.{cases_lt, false≢true}
use Rattle.std.proofs.lemmas.Fmt.{decimal_is_IsNumeral, decimal_is_IsNumeral_wide, length-decimal-le}
use Rattle.std.proofs.lemmas.Int.{unsigned_abs-mul}
use Rattle.std.proofs.lemmas.List.{length-replicate}
use lib.Signed.{mag, nat_abs-le}
use Rattle.byteorder.specs.Endian.{big_number, twos_complement}
use Rattle.byteorder.specs.Numbers.{big_from-lt}
use Rattle.wire_buf.specs.Encoding.{AreBytes}
use Rattle.rows_values.specs.PackedTimes.{fraction, fraction_len, timestamp2}
use Rattle.rows_values.specs.TimeTexts.{padded_decimal}
use Rattle.rows_values.proofs.UnpackedLemmas.{drop_bytes}
use Rattle.rows_cells.specs.CellValues.{cell_micros_text, timestamp_text}
use Rattle.changes_cells.specs.CellJson.{IsTimestampJson}
use Rattle.changes_cells.specs.ShownTimes.{IsInstant}
use Rattle.changes_laws.proofs.ReadingGives.{mag_signed}
use Rattle.changes_laws.proofs.CellReadLemmas.{mag_negative}
use Rattle.changes_laws.proofs.DateReadLemmas.{Ends, decimal_digits, padded_digits, digits_end, zeros_value}
use Rattle.changes_laws.proofs.InstantReadLemmas.{instants_read, instant_quoted, no_sign}

abbrev first : List ℕ → ℕ
first [] = 0
first (x ∷ xs) = x

abbrev others : List ℕ → List ℕ
others [] = []
others (x ∷ xs) = xs

-- ---- numbers with many digits
power_some : (k : ℕ) → 1 ≤ 10 ^ k
power_some zero = omega arith
power_some (suc k) = omega (arith, power_some k)

length-onto : (k n : ℕ) (s : List ℕ) → 10 ^ k ≤ n → length (digits_onto k 10 false n s) ≡ k + length s
length-onto zero n s h = omega arith
length-onto (suc k) n s h =
    let g = digit_glyph false (n % 10) in
    go (n / 10 == 0) refl (power_some k) (length-onto k (n / 10) (g ∷ s) (omega (arith, h)))
  where
    go : (b : Bool) → (n / 10 == 0) ≡ b → 1 ≤ 10 ^ k → length (digits_onto k 10 false (n / 10) (digit_glyph false (n % 10) ∷ s)) ≡ k + suc (length s)
        → length (if b then digit_glyph false (n % 10) ∷ s else digits_onto k 10 false (n / 10) (digit_glyph false (n % 10) ∷ s)) ≡ suc k + length s
    go true e some more = absurd (omega (arith, h, some, eqb→eq (n / 10) 0 (subst T (sym e) tt)))
    go false e some more = omega (arith, more)

length-long_decimal : (n : ℕ) → 10 ^ 64 ≤ n → length (decimal n) ≡ 64
unfolding digits
length-long_decimal n h = omega (arith, length-onto 64 n [] h)

-- a number of few digits has the text of no other
pub decimals_same : (m n : ℕ) → m < 2 ^ 64 → decimal m ≡ decimal n → m ≡ n
decimals_same m n lt e = elim (cases_lt n (10 ^ 64)) [
  | inl few ↦ sym (decimal_is_IsNumeral m lt).1 ∙ ap (digits_value 10) e ∙ (decimal_is_IsNumeral_wide n few).1
  | inr many ↦ absurd (omega (arith, ap length e, length-decimal-le 20 m (omega arith) (omega (arith, lt)) lt, length-long_decimal n many))
]

padded_long : (w n : ℕ) → 10 ^ 64 ≤ n → length (padded_decimal w n) ≡ 64 + (w - 64)
unfolding padded_decimal
padded_long w n h = omega (arith, length-append (replicate (w - length (decimal n)) 48) (decimal n), length-replicate {A = ℕ} (w - length (decimal n)) 48, length-long_decimal n h)

padded_few : (w n : ℕ) → w ≤ 6 → n < 2 ^ 64 → length (padded_decimal w n) ≤ 26
unfolding padded_decimal
padded_few w n le h = omega (arith, le, length-append (replicate (w - length (decimal n)) 48) (decimal n), length-replicate {A = ℕ} (w - length (decimal n)) 48, length-decimal-le 20 n (omega arith) (omega (arith, h)) h)

padded_wide : (w n : ℕ) → n < 10 ^ 64 → digits_value 10 (padded_decimal w n) ≡ n
unfolding padded_decimal
padded_wide w n h = zeros_value (w - length (decimal n)) (decimal n) ∙ (decimal_is_IsNumeral_wide n h).1

paddeds_same : (w m n : ℕ) → w ≤ 6 → m < 2 ^ 64 → padded_decimal w m ≡ padded_decimal w n → m ≡ n
paddeds_same w m n le lt e = elim (cases_lt n (10 ^ 64)) [
  | inl few ↦ sym (padded_wide w m (omega (arith, lt))) ∙ ap (digits_value 10) e ∙ padded_wide w n few
  | inr many ↦ absurd (omega (arith, ap length e, padded_few w m le lt, padded_long w n many))
]

-- ---- microseconds
data Micros (z : ℤ) (text : List ℕ) : Type 0 where
  none : z ≡ pos 0 → text ≡ [] → Micros z text
  more : (n : ℕ) → z ≡ pos n → text ≡ 46 ∷ padded_decimal 6 n → Micros z text
  less : (n : ℕ) → z ≡ negsuc n → text ≡ 46 ∷ 45 ∷ padded_decimal 5 (suc n) → Micros z text

abbrev chosen : Bool → Bool → ℕ → List ℕ
chosen a b n = if a then [] else 46 ∷ (if b then 45 ∷ padded_decimal 5 n else padded_decimal 6 n)

micros_of : (z : ℤ) → Micros z (cell_micros_text z)
micros_of (pos n) = go (n == 0) (int_lt (pos n) (pos 0)) refl refl
  where
    go : (a b : Bool) → (n == 0) ≡ a → int_lt (pos n) (pos 0) ≡ b → Micros (pos n) (chosen a b n)
    go true b e f = none (ap pos (eqb→eq n 0 (subst T (sym e) tt))) refl
    go false false e f = more n refl refl
    go false true e f = absurd (let no : int_lt (pos n) (pos 0) ≡ false = grind arith in false≢true (sym no ∙ f))
micros_of (negsuc n) = go (suc n == 0) (int_lt (negsuc n) (pos 0)) refl refl
  where
    go : (a b : Bool) → (suc n == 0) ≡ a → int_lt (negsuc n) (pos 0) ≡ b → Micros (negsuc n) (chosen a b (suc n))
    go true b e f = absurd (omega (arith, eqb→eq (suc n) 0 (subst T (sym e) tt)))
    go false true e f = less n refl refl
    go false false e f = absurd (let no : int_lt (negsuc n) (pos 0) ≡ true = refl in false≢true (sym f ∙ no))

micros_end : (z : ℤ) → Ends (cell_micros_text z)
micros_end z = go (micros_of z)
  where
    go : Micros z (cell_micros_text z) → Ends (cell_micros_text z)
    go (none e f) = subst Ends (sym f) refl
    go (more n e f) = subst Ends (sym f) refl
    go (less n e f) = subst Ends (sym f) refl

micros_read : (y z : ℤ) → mag y < 2 ^ 63 → cell_micros_text y ≡ cell_micros_text z → y ≡ z
micros_read y z lt e = go (micros_of y) (micros_of z)
  where
    long : (n : ℕ) (l : List ℕ) → [] ≡ n ∷ l → ⊥
    long n l h = let no = ap length h in absurd (omega (arith, no))

    go : Micros y (cell_micros_text y) → Micros z (cell_micros_text z) → y ≡ z
    go (none a b) (none c d) = a ∙ sym c
    go (none a b) (more n c d) = absurd (long 46 (padded_decimal 6 n) (sym b ∙ e ∙ d))
    go (none a b) (less n c d) = absurd (long 46 (45 ∷ padded_decimal 5 (suc n)) (sym b ∙ e ∙ d))
    go (more m a b) (none c d) = absurd (long 46 (padded_decimal 6 m) (sym d ∙ sym e ∙ b))
    go (less m a b) (none c d) = absurd (long 46 (45 ∷ padded_decimal 5 (suc m)) (sym d ∙ sym e ∙ b))
    go (more m a b) (more n c d) = a ∙ ap pos (paddeds_same 6 m n (omega arith) (let h : m < 2 ^ 63 = subst (λ (k : ℤ). mag k < 2 ^ 63) a lt in omega (arith, h)) (ap others (sym b ∙ e ∙ d))) ∙ sym c
    go (less m a b) (less n c d) =
        let same = paddeds_same 5 (suc m) (suc n) (omega arith) (let h : m < 2 ^ 63 = subst (λ (k : ℤ). mag k < 2 ^ 63) a lt in omega (arith, h)) (ap others (ap others (sym b ∙ e ∙ d))) in
        let down : m ≡ n = omega (arith, same) in
        a ∙ ap negsuc down ∙ sym c
    go (more m a b) (less n c d) = absurd (no_sign (padded_decimal 6 m) (padded_decimal 5 (suc n)) (padded_digits 6 m) (ap others (sym b ∙ e ∙ d)))
    go (less m a b) (more n c d) = absurd (no_sign (padded_decimal 6 n) (padded_decimal 5 (suc m)) (padded_digits 6 n) (ap others (sym d ∙ sym e ∙ b)))

-- ---- seconds
decimal_some : (n : ℕ) → 0 < length (decimal n)
decimal_some n = elim (cases_lt n (10 ^ 64)) [
  | inl few ↦ (decimal_is_IsNumeral_wide n few).0.0
  | inr many ↦ omega (arith, length-long_decimal n many)
]

no_minus : (n : ℕ) (s t : List ℕ) → Ends s → decimal n ++ s ≡ 45 ∷ t → ⊥
no_minus n s t h e =
    let f = digits_end (decimal n) [] s (45 ∷ t) (decimal_digits n) tt h refl e in
    absurd (let none = ap length f.0 in omega (arith, none, decimal_some n))

seconds_read : (s t : ℤ) (x y : List ℕ) → mag s < 2 ^ 63 → Ends x → Ends y → signed_decimal s ++ x ≡ signed_decimal t ++ y → (s ≡ t) × (x ≡ y)
seconds_read (pos m) (pos n) x y lt a b e =
    let f = digits_end (decimal m) (decimal n) x y (decimal_digits m) (decimal_digits n) a b e in
    (ap pos (decimals_same m n (omega (arith, lt)) f.0), f.1)
seconds_read (negsuc m) (negsuc n) x y lt a b e =
    let f = digits_end (decimal (suc m)) (decimal (suc n)) x y (decimal_digits (suc m)) (decimal_digits (suc n)) a b (ap others e) in
    let same = decimals_same (suc m) (suc n) (omega (arith, lt)) f.0 in
    let down : m ≡ n = omega (arith, same) in
    (ap negsuc down, f.1)
seconds_read (pos m) (negsuc n) x y lt a b e = absurd (no_minus m x (decimal (suc n) ++ y) a e)
seconds_read (negsuc m) (pos n) x y lt a b e = absurd (no_minus n y (decimal (suc m) ++ x) b (sym e))

texts_read : (s u t v : ℤ) → mag s < 2 ^ 63 → mag u < 2 ^ 63 → timestamp_text (s, u) ≡ timestamp_text (t, v) → (s ≡ t) × (u ≡ v)
unfolding timestamp_text
texts_read s u t v p q e =
    let f = seconds_read s t (cell_micros_text u) (cell_micros_text v) p (micros_end u) (micros_end v) e in
    (f.0, micros_read u v q f.1)

cast_small : (s : ℤ) → mag s < 2 ^ 31 → cast_unsigned w32 s < 2 ^ 33
cast_small (pos n) h = omega (arith, h)
cast_small (negsuc n) h = omega arith

cast_same : (s t : ℤ) → mag s < 2 ^ 31 → mag t < 2 ^ 31 → cast_unsigned w32 s ≡ cast_unsigned w32 t → s ≡ t
cast_same (pos m) (pos n) p q e = ap pos e
cast_same (negsuc m) (negsuc n) p q e = let same : m ≡ n = omega (arith, p, q, e) in ap negsuc same
cast_same (pos m) (negsuc n) p q e = absurd (omega (arith, p, q, e))
cast_same (negsuc m) (pos n) p q e = absurd (omega (arith, p, q, e))

pub timestamps_read : (digits : ℕ) (s u t v : ℤ) (a b x : List ℕ) → mag s < 2 ^ 31 → mag u < 2 ^ 63 → mag t < 2 ^ 31 → mag v < 2 ^ 63 → a ≡ timestamp_text (s, u) → b ≡ timestamp_text (t, v) → IsTimestampJson digits a x → IsTimestampJson digits b x → a ≡ b
timestamps_read digits s u t v a b x ls lu lt lv is at e f =
    let one = texts_read s u e.seconds e.micros (omega (arith, ls)) lu (sym is ∙ e.is) in
    let two = texts_read t v f.seconds f.micros (omega (arith, lt)) lv (sym at ∙ f.is) in
    let i = subst (λ (k : ℤ). IsInstant digits (cast_unsigned w32 k) u x) (sym one.0) (subst (λ (k : ℤ). IsInstant digits (cast_unsigned w32 e.seconds) k x) (sym one.1) e.text) in
    let j = subst (λ (k : ℤ). IsInstant digits (cast_unsigned w32 k) v x) (sym two.0) (subst (λ (k : ℤ). IsInstant digits (cast_unsigned w32 f.seconds) k x) (sym two.1) f.text) in
    let same = instants_read digits (cast_unsigned w32 s) (cast_unsigned w32 t) u v x (cast_small s ls) (cast_small t lt) lu lv i j in
    is ∙ ap₂ (λ (c d : ℤ). timestamp_text (c, d)) (cast_same s t ls lt same.0) same.1 ∙ sym at

pub timestamp_quoted : (digits : ℕ) (a x : List ℕ) → IsTimestampJson digits a x → (t : List ℕ) × (x ≡ 34 ∷ t)
timestamp_quoted digits a x e = instant_quoted digits (cast_unsigned w32 e.seconds) e.micros x e.text

-- ---- those that bytes have
mag_abs : (z : ℤ) → mag z ≤ unsigned_abs z
mag_abs (pos n) = omega arith
mag_abs (negsuc n) = omega arith

few_abs : (n x : ℕ) → unsigned_abs (twos_complement n x) ≤ x + 2 ^ (8 * n) + 1
few_abs n x = omega (arith, nat_abs-le (twos_complement n x) {H = x + 2 ^ (8 * n) + 1} (omega (arith, mag_signed n x)))

product : (a : ℤ) (k : ℕ) → mag (a *ℤ pos k) ≤ unsigned_abs a * k
product a k = omega (arith, mag_abs (a *ℤ pos k), unsigned_abs-mul a (pos k))

fraction_small : (n : ℕ) (b : List ℕ) → n ≤ 3 → AreBytes b → mag (fraction n b) < 2 ^ 63
fraction_small zero b le h = let x = twos_complement 0 (big_number 0 b) in omega (arith, product x 1000000, few_abs 0 (big_number 0 b))
fraction_small (suc zero) b le h = let x = twos_complement 1 (big_number 1 b) in omega (arith, product x 10000, few_abs 1 (big_number 1 b), big_from-lt 0 1 b h)
fraction_small (suc (suc zero)) b le h = let x = twos_complement 2 (big_number 2 b) in omega (arith, product x 100, few_abs 2 (big_number 2 b), big_from-lt 0 2 b h)
fraction_small (suc (suc (suc zero))) b le h = let x = twos_complement 3 (big_number 3 b) in omega (arith, product x 1, few_abs 3 (big_number 3 b), big_from-lt 0 3 b h)
fraction_small (suc (suc (suc (suc n)))) b le h = absurd (omega (arith, le))

few_bytes : (digits : ℕ) → fraction_len digits ≤ 3
few_bytes digits = go (nat_le digits 6) refl
  where
    go : (k : Bool) → nat_le digits 6 ≡ k → (if k then (digits + 1) / 2 else 0) ≤ 3
    go true e = let few : digits ≤ 6 = leb_yes (subst T (sym e) tt) in omega (arith, few)
    go false e = omega arith

complement_small : (x : ℕ) → x < 2 ^ 32 → mag (twos_complement 4 x) < 2 ^ 31
complement_small x lt = go (nat_lt x (2 ^ 31)) refl
  where
    go : (b : Bool) → nat_lt x (2 ^ 31) ≡ b → mag (if b then pos x else pos x -ℤ pos (2 ^ 32)) < 2 ^ 31
    go true e = ltb_yes (subst T (sym e) tt)
    go false e = elim (cases_lt x (2 ^ 31)) [
      | inl below ↦ absurd (let yes : nat_lt x (2 ^ 31) ≡ true = grind arith in false≢true (sym e ∙ yes))
      | inr above ↦ omega (arith, above, mag_negative x (2 ^ 32) (pos x -ℤ pos (2 ^ 32)) lt refl)
    ]

-- seconds and microseconds of the bytes of a cell
pub timestamp_small : (digits : ℕ) (b : List ℕ) → AreBytes b → (mag (timestamp2 (fraction_len digits) b).0 < 2 ^ 31) × (mag (timestamp2 (fraction_len digits) b).1 < 2 ^ 63)
timestamp_small digits b h = (complement_small (big_number 4 b) (omega (arith, big_from-lt 0 4 b h)), fraction_small (fraction_len digits) (drop 4 b) (few_bytes digits) (drop_bytes 4 b h))
