-- The last digits of a number, in parts.
use Rattle.std.proofs.Common.{◌≡◌, ℕ, zero, suc, ◌+◌, ◌-◌, ◌*◌, ◌/◌, ◌%◌, ◌^◌, ◌<◌, ◌≤◌, Bool, true, false, ◌&&◌, T, eqb, List, [], ◌∷◌, ◌++◌, length, get_or, refl, sym, ap, subst, ◌∙◌, inl, inr, arith, eq-zero-or-pos, eqb→eq, append_assoc}
use Rattle.std.proofs.lemmas.List.{map-append, append-nil}
use Rattle.std.proofs.lemmas.Bool.Decides.{leb_tells, eqb_tells}
use Rattle.std.proofs.Math.Nat.{pow-suc, pow-le-pow_right, div-lt_iff_lt-mul, div-div-eq-div-mul}
use Rattle.rows_values.specs.Digits.{digits_in}
use Rattle.rows_values.specs.PrintedDecimals.{glyphs, significant, sign_text}
use Rattle.rows_values.specs.PackedTexts.{digits_text, is_shown, lead, lead_piece}
use Rattle.std.specs.List.{prefix_len}
use Rattle.std.specs.Prelude.{nat_lt}
use Rattle.rows_values.specs.declared.digit_text.TheConstants.{PAIRS}
use Rattle.rows_values.proofs.UnpackDigitsLemmas.{digits_step, digits_none, length-digits_in}
use lib.Ieee.Fits.{and_l, and_r}

-- ---- pairs of digits

abbrev pub pair : ℕ → List ℕ
pair p = (48 + p / 10) ∷ (48 + p % 10) ∷ []

abbrev are_pairs : ℕ → Bool
are_pairs zero = true
are_pairs (suc p) = (eqb (get_or PAIRS (p * 2) 0) (48 + p / 10) && eqb (get_or PAIRS (p * 2 + 1) 0) (48 + p % 10)) && are_pairs p

below : (n p : ℕ) → T (are_pairs n) → p < n → (get_or PAIRS (p * 2) 0 ≡ 48 + p / 10) × (get_or PAIRS (p * 2 + 1) 0 ≡ 48 + p % 10)
below zero p t h = absurd (omega arith)
below (suc n) p t h =
    elim (eq-zero-or-pos (n - p)) [
      | inl z ↦ let e : p ≡ n = omega arith in let a = and_l _ (are_pairs n) t in rw e (eqb→eq _ _ (and_l _ _ a), eqb→eq _ _ (and_r _ _ a))
      | inr g ↦ below n p (and_r _ (are_pairs n) t) (omega arith)
    ]

pub PAIRS_at : (p : ℕ) → p < 100 → (get_or PAIRS (p * 2) 0 ≡ 48 + p / 10) × (get_or PAIRS (p * 2 + 1) 0 ≡ 48 + p % 10)
PAIRS_at p h = below 100 p tt h

two_digits : (n : ℕ) → digits_in 2 n ≡ n / 10 % 10 ∷ n % 10 ∷ []
unfolding digits_in
two_digits n = refl

pub two_text : (n : ℕ) → n < 100 → digits_text 2 n ≡ pair n
two_text n h =
    let e : n / 10 % 10 ≡ n / 10 = omega (arith, h) in
    ap glyphs (two_digits n) ∙ ap (λ d. (48 + d) ∷ (48 + n % 10) ∷ []) e

pub put_pair_is : (base one two : List ℕ) (n tens ones : ℕ) → n < 100 → tens ≡ get_or PAIRS (n * 2) 0 → ones ≡ get_or PAIRS (n * 2 + 1) 0
    → one ≡ base ++ tens ∷ [] → two ≡ one ++ ones ∷ [] → two ≡ base ++ digits_text 2 n
put_pair_is base one two n tens ones h a b first second =
    let p = PAIRS_at n h in
    second ∙ ap (λ (t : List ℕ). t ++ ones ∷ []) first ∙ append_assoc base (tens ∷ []) (ones ∷ [])
    ∙ ap (λ k. base ++ (k ∷ ones ∷ [])) (a ∙ p.0) ∙ ap (λ k. base ++ ((48 + n / 10) ∷ k ∷ [])) (b ∙ p.1) ∙ ap (λ l. base ++ l) (sym (two_text n h))

-- ---- the last two, four and eight digits separated

join_two : (k n : ℕ) → 2 ≤ k → digits_in k n ≡ digits_in (k - 2) (n / 100) ++ digits_in 2 (n % 100)
join_two k n h =
    let a : n / 10 / 10 ≡ n / 100 = omega arith in
    let b : k - 1 - 1 ≡ k - 2 = omega arith in
    let c : n % 100 / 10 % 10 ≡ n / 10 % 10 = omega arith in
    let d : n % 100 % 10 ≡ n % 10 = omega arith in
    let two : digits_in 2 (n % 100) ≡ n / 10 % 10 ∷ n % 10 ∷ [] = two_digits (n % 100) ∙ ap (λ e. e ∷ n % 100 % 10 ∷ []) c ∙ ap (λ e. n / 10 % 10 ∷ e ∷ []) d in
    digits_step k n (omega (arith, h)) ∙ ap (λ l. l ++ (n % 10 ∷ [])) (digits_step (k - 1) (n / 10) (omega (arith, h)))
    ∙ append_assoc (digits_in (k - 1 - 1) (n / 10 / 10)) (n / 10 % 10 ∷ []) (n % 10 ∷ [])
    ∙ ap (λ m. digits_in (k - 1 - 1) m ++ (n / 10 % 10 ∷ n % 10 ∷ [])) a ∙ ap (λ j. digits_in j (n / 100) ++ (n / 10 % 10 ∷ n % 10 ∷ [])) b
    ∙ ap (λ l. digits_in (k - 2) (n / 100) ++ l) (sym two)

join_four : (k n : ℕ) → 4 ≤ k → digits_in k n ≡ digits_in (k - 4) (n / 10000) ++ digits_in 4 (n % 10000)
join_four k n h =
    let a : n / 100 / 100 ≡ n / 10000 = omega arith in
    let b : k - 2 - 2 ≡ k - 4 = omega arith in
    let c : n % 10000 / 100 ≡ n / 100 % 100 = omega arith in
    let d : n % 10000 % 100 ≡ n % 100 = omega arith in
    let four : digits_in 4 (n % 10000) ≡ digits_in 2 (n / 100 % 100) ++ digits_in 2 (n % 100) =
    join_two 4 (n % 10000) (omega arith) ∙ ap (λ m. digits_in 2 m ++ digits_in 2 (n % 10000 % 100)) c ∙ ap (λ m. digits_in 2 (n / 100 % 100) ++ digits_in 2 m) d in
    join_two k n (omega (arith, h)) ∙ ap (λ l. l ++ digits_in 2 (n % 100)) (join_two (k - 2) (n / 100) (omega (arith, h)))
    ∙ append_assoc (digits_in (k - 2 - 2) (n / 100 / 100)) (digits_in 2 (n / 100 % 100)) (digits_in 2 (n % 100))
    ∙ ap (λ m. digits_in (k - 2 - 2) m ++ (digits_in 2 (n / 100 % 100) ++ digits_in 2 (n % 100))) a
    ∙ ap (λ j. digits_in j (n / 10000) ++ (digits_in 2 (n / 100 % 100) ++ digits_in 2 (n % 100))) b ∙ ap (λ l. digits_in (k - 4) (n / 10000) ++ l) (sym four)

join_eight : (k n : ℕ) → 8 ≤ k → digits_in k n ≡ digits_in (k - 8) (n / 100000000) ++ digits_in 8 (n % 100000000)
join_eight k n h =
    let a : n / 10000 / 10000 ≡ n / 100000000 = omega arith in
    let b : k - 4 - 4 ≡ k - 8 = omega arith in
    let c : n % 100000000 / 10000 ≡ n / 10000 % 10000 = omega arith in
    let d : n % 100000000 % 10000 ≡ n % 10000 = omega arith in
    let eight : digits_in 8 (n % 100000000) ≡ digits_in 4 (n / 10000 % 10000) ++ digits_in 4 (n % 10000) =
    join_four 8 (n % 100000000) (omega arith) ∙ ap (λ m. digits_in 4 m ++ digits_in 4 (n % 100000000 % 10000)) c ∙ ap (λ m. digits_in 4 (n / 10000 % 10000) ++ digits_in 4 m) d in
    join_four k n (omega (arith, h)) ∙ ap (λ l. l ++ digits_in 4 (n % 10000)) (join_four (k - 4) (n / 10000) (omega (arith, h)))
    ∙ append_assoc (digits_in (k - 4 - 4) (n / 10000 / 10000)) (digits_in 4 (n / 10000 % 10000)) (digits_in 4 (n % 10000))
    ∙ ap (λ m. digits_in (k - 4 - 4) m ++ (digits_in 4 (n / 10000 % 10000) ++ digits_in 4 (n % 10000))) a
    ∙ ap (λ j. digits_in j (n / 100000000) ++ (digits_in 4 (n / 10000 % 10000) ++ digits_in 4 (n % 10000))) b ∙ ap (λ l. digits_in (k - 8) (n / 100000000) ++ l) (sym eight)

pub text_two : (k n : ℕ) → 2 ≤ k → digits_text (k - 2) (n / 100) ++ digits_text 2 (n % 100) ≡ digits_text k n
text_two k n h = sym (ap glyphs (join_two k n h) ∙ map-append (λ d. 48 + d) (digits_in (k - 2) (n / 100)) (digits_in 2 (n % 100)))

pub text_four : (k n : ℕ) → 4 ≤ k → digits_text (k - 4) (n / 10000) ++ digits_text 4 (n % 10000) ≡ digits_text k n
text_four k n h = sym (ap glyphs (join_four k n h) ∙ map-append (λ d. 48 + d) (digits_in (k - 4) (n / 10000)) (digits_in 4 (n % 10000)))

pub text_eight : (k n : ℕ) → 8 ≤ k → digits_text (k - 8) (n / 100000000) ++ digits_text 8 (n % 100000000) ≡ digits_text k n
text_eight k n h = sym (ap glyphs (join_eight k n h) ∙ map-append (λ d. 48 + d) (digits_in (k - 8) (n / 100000000)) (digits_in 8 (n % 100000000)))

-- two texts in sequence
pub joined_is : (base a b c mid new : List ℕ) → mid ≡ base ++ a → new ≡ mid ++ b → a ++ b ≡ c → new ≡ base ++ c
joined_is base a b c mid new first second e = second ∙ ap (λ (t : List ℕ). t ++ b) first ∙ append_assoc base a b ∙ ap (λ (t : List ℕ). base ++ t) e

pub none_more : (base : List ℕ) (count n : ℕ) → count ≡ 0 → base ≡ base ++ digits_text count n
none_more base count n e = sym (ap (λ k. base ++ digits_text k n) e ∙ ap (λ l. base ++ glyphs l) (digits_none n) ∙ append-nil base)

one_text : (n : ℕ) → digits_text 1 n ≡ (48 + n % 10) ∷ []
unfolding digits_in
one_text n = refl

pub one_more : (base new : List ℕ) (count n b : ℕ) → count ≤ 1 → (count ≡ 0 → ⊥) → b ≡ 48 + n % 10 → new ≡ base ++ b ∷ [] → new ≡ base ++ digits_text count n
one_more base new zero n b few some is e = absurd (some refl)
one_more base new (suc zero) n b few some is e = e ∙ ap (λ k. base ++ (k ∷ [])) is ∙ ap (λ l. base ++ l) (sym (one_text n))
one_more base new (suc (suc k)) n b few some is e = absurd (omega (arith, few))

-- ---- digits from the first on

digits_prefix : (k n : ℕ) → digits_in (suc k) n ≡ n / 10 ^ k % 10 ∷ digits_in k n
unfolding digits_in
digits_prefix zero n = let e : n % 10 ≡ n / 1 % 10 = omega arith in ap (λ d. d ∷ []) e
digits_prefix (suc k) n =
    let power : 10 * 10 ^ k ≡ 10 ^ suc k = omega (arith, pow-suc 10 k) in
    let e : n / 10 / 10 ^ k % 10 ≡ n / 10 ^ suc k % 10 = ap (λ m. m % 10) (div-div-eq-div-mul n 10 (10 ^ k) ∙ ap (λ m. n / m) power) in
    ap (λ l. l ++ (n % 10 ∷ [])) (digits_prefix k (n / 10)) ∙ ap (λ d. d ∷ (digits_in k (n / 10) ++ (n % 10 ∷ []))) e

some_eqb : (n : ℕ) → eqb (suc n) 0 ≡ false
some_eqb n = elim (eqb_tells (suc n) 0) [ inl t ↦ absurd (omega (arith, t.1)) | inr t ↦ t.0 ]

one_up : (n : ℕ) → 1 + n ≡ suc n
one_up n = omega arith

pub sig_zero : (ds : List ℕ) → significant (0 ∷ ds) ≡ significant ds
sig_zero ds = rw (one_up (prefix_len (λ d. eqb d 0) ds)) refl

pub sig_suc : (d : ℕ) (ds : List ℕ) → significant (suc d ∷ ds) ≡ suc d ∷ ds
sig_suc d ds = rw (some_eqb d) refl

sig_some : (d : ℕ) (ds : List ℕ) → 0 < d → significant (d ∷ ds) ≡ d ∷ ds
sig_some zero ds h = absurd (omega (arith, h))
sig_some (suc d) ds h = sig_suc d ds

positive_power : (k : ℕ) → 0 < 10 ^ k
positive_power zero = omega arith
positive_power (suc k) = let p = positive_power k in omega (arith, p, pow-suc 10 k)

no_quotient : (n p : ℕ) → 0 < p → n < p → n / p % 10 ≡ 0
no_quotient n p some h =
    let less : n < 1 * p = omega (arith, h) in
    let q : n / p < 1 = (div-lt_iff_lt-mul some).1 less in
    omega (arith, q)

some_quotient : (n p : ℕ) → 0 < p → p ≤ n → n < 10 * p → 0 < n / p % 10
some_quotient n p some low high =
    let q : n / p < 10 = (div-lt_iff_lt-mul some).1 high in
    elim (leb_tells 1 (n / p)) [
      | inl t ↦ omega (arith, q, t.1)
      | inr t ↦ let small : n / p < 1 = omega (arith, t.1) in let less : n < 1 * p = (div-lt_iff_lt-mul some).0 small in absurd (omega (arith, less, low))
    ]

pub lead_zeros : (k : ℕ) → significant (digits_in k 0) ≡ []
lead_zeros zero = ap significant (digits_none 0)
lead_zeros (suc k) =
    ap significant (digits_prefix k 0 ∙ ap (λ d. d ∷ digits_in k 0) (no_quotient 0 (10 ^ k) (positive_power k) (positive_power k))) ∙ sig_zero (digits_in k 0) ∙ lead_zeros k

pub lead_digits : (k c n : ℕ) → c ≤ k → 0 < c → 10 ^ (c - 1) ≤ n → n < 10 ^ c → significant (digits_in k n) ≡ digits_in c n
lead_digits zero c n le some low high = absurd (omega (arith, le, some))
lead_digits (suc k) c n le some low high = elim (leb_tells c k) [
  | inl t ↦
      let ten : 0 < 10 = omega arith in
      let less : n < 10 ^ k = omega (arith, high, pow-le-pow_right {n = 10} ten t.1) in
      ap significant (digits_prefix k n ∙ ap (λ d. d ∷ digits_in k n) (no_quotient n (10 ^ k) (positive_power k) less)) ∙ sig_zero (digits_in k n) ∙ lead_digits k c n t.1 some low high
  | inr t ↦
      let c_is : c ≡ suc k = omega (arith, t.1, le) in
      let before : c - 1 ≡ k = omega (arith, c_is) in
      let least : 10 ^ k ≤ n = subst (λ j. 10 ^ j ≤ n) before low in
      let most : n < 10 ^ suc k = subst (λ j. n < 10 ^ j) c_is high in
      let times : n < 10 * 10 ^ k = omega (arith, most, pow-suc 10 k) in
      ap significant (digits_prefix k n) ∙ sig_some (n / 10 ^ k % 10) (digits_in k n) (some_quotient n (10 ^ k) (positive_power k) least times) ∙ sym (digits_prefix k n) ∙ ap (λ j. digits_in j n) (sym c_is)
]

-- a number has at most so many digits
pub count_fits : (k c n : ℕ) → 0 < c → 10 ^ (c - 1) ≤ n → n < 10 ^ k → c ≤ k
count_fits k c n some low high = elim (leb_tells c k) [
  | inl t ↦ t.1
  | inr t ↦
      let more : k ≤ c - 1 = omega (arith, t.1) in
      let ten : 0 < 10 = omega arith in
      let over : 10 ^ k ≤ 10 ^ (c - 1) = pow-le-pow_right {n = 10} ten more in
      absurd (omega (arith, over, low, high))
]

-- ---- digits without leading zeros

nat_lt_zero : (n : ℕ) → 0 < n → nat_lt 0 n ≡ true
nat_lt_zero n h = elim (leb_tells 1 n) [ inl t ↦ t.0 | inr t ↦ absurd (omega (arith, t.1, h)) ]

pub lead_none : (negative : Bool) (ds : List ℕ) → significant ds ≡ [] → (lead negative ds ≡ []) × (is_shown ds ≡ false)
lead_none negative ds e = rw e (refl, refl)

pub lead_some : (negative : Bool) (ds : List ℕ) → 0 < length (significant ds) → (lead negative ds ≡ sign_text negative ++ glyphs (significant ds)) × (is_shown ds ≡ true)
lead_some negative ds some = let e = nat_lt_zero (length (significant ds)) some in rw e (refl, refl)

pub zero_piece_is : (base : List ℕ) (negative shown : Bool) (k n : ℕ) → shown ≡ false → n ≡ 0 → base ≡ base ++ lead_piece negative shown k n
zero_piece_is base negative shown k n hidden e =
    rw hidden (sym (ap (λ l. base ++ l) (ap (λ m. lead negative (digits_in k m)) e ∙ (lead_none negative (digits_in k 0) (lead_zeros k)).0) ∙ append-nil base))

counted_some : (k c n : ℕ) → c ≤ k → 0 < c → 10 ^ (c - 1) ≤ n → n < 10 ^ c → 0 < length (significant (digits_in k n))
counted_some k c n le some low high = let e = ap length (lead_digits k c n le some low high) ∙ length-digits_in c n in omega (arith, e, some)

pub some_piece_is : (base mid new : List ℕ) (negative shown : Bool) (k c n : ℕ) → shown ≡ false → 0 < c → 10 ^ (c - 1) ≤ n → n < 10 ^ c → n < 10 ^ k → mid ≡ base ++ sign_text negative → new ≡ mid ++ digits_text c n
    → new ≡ base ++ lead_piece negative shown k n
some_piece_is base mid new negative shown k c n hidden some low high small first second =
    let le = count_fits k c n some low small in
    let piece : sign_text negative ++ digits_text c n ≡ lead negative (digits_in k n) =
    ap (λ l. sign_text negative ++ glyphs l) (sym (lead_digits k c n le some low high)) ∙ sym (lead_some negative (digits_in k n) (counted_some k c n le some low high)).0 in
    rw hidden (joined_is base (sign_text negative) (digits_text c n) (lead negative (digits_in k n)) mid new first second piece)

pub zero_tells : (k n : ℕ) → n ≡ 0 → is_shown (digits_in k n) ≡ nat_lt 0 n
zero_tells k n e = rw e ((lead_none false (digits_in k 0) (lead_zeros k)).1)

pub some_tells : (k c n : ℕ) → 0 < c → 10 ^ (c - 1) ≤ n → n < 10 ^ c → n < 10 ^ k → (n ≡ 0 → ⊥) → is_shown (digits_in k n) ≡ nat_lt 0 n
some_tells k c n some low high small other =
    let le = count_fits k c n some low small in
    (lead_some false (digits_in k n) (counted_some k c n le some low high)).1 ∙ sym (nat_lt_zero n (positive n other))
  where
    positive : (m : ℕ) → (m ≡ 0 → ⊥) → 0 < m
    positive zero f = absurd (f refl)
    positive (suc m) f = omega arith

pub sig_append_none : (ds es : List ℕ) → significant ds ≡ [] → significant (ds ++ es) ≡ significant es
sig_append_none [] es e = refl
sig_append_none (zero ∷ ds) es e = sig_zero (ds ++ es) ∙ sig_append_none ds es (sym (sig_zero ds) ∙ e)
sig_append_none (suc d ∷ ds) es e = let long = ap length (sym (sig_suc d ds) ∙ e) in absurd (omega (arith, long))

pub sig_append_some : (ds es : List ℕ) → 0 < length (significant ds) → significant (ds ++ es) ≡ significant ds ++ es
sig_append_some [] es h = absurd (omega (arith, h))
sig_append_some (zero ∷ ds) es h =
    let some : 0 < length (significant ds) = subst (λ (l : List ℕ). 0 < length l) (sig_zero ds) h in
    sig_zero (ds ++ es) ∙ sig_append_some ds es some ∙ ap (λ l. l ++ es) (sym (sig_zero ds))
sig_append_some (suc d ∷ ds) es h = sig_suc d (ds ++ es) ∙ ap (λ l. l ++ es) (sym (sig_suc d ds))
