-- The text of a decimal from its numbers.
use Rattle.std.proofs.Common.{◌≡◌, ◌≤◌, ◌<◌, ◌+◌, ◌-◌, ◌^◌, ◌/◌, ◌%◌, Bool, true, false, ℕ, zero, suc, List, [], ◌∷◌, ◌++◌, length, Some, inl, inr, append_assoc, arith, refl, sym, ap, ap₂, ◌∙◌, eqb, length-append}
use Rattle.std.specs.Prelude.{nat_lt, ◌&&◌, ◌||◌}
use Rattle.std.specs.Fmt.{decimal}
use Rattle.std.proofs.Math.Nat.{pow-suc, pow-le-pow_right}
use Rattle.std.proofs.lemmas.Bool.Decides.{leb_tells, eqb_tells}
use Rattle.std.proofs.lemmas.Fmt.{decimal_digit, decimal_step, length-decimal-le}
use Rattle.std.proofs.lemmas.List.{map-append, append-nil, length-map}
use Rattle.rows_values.specs.TimeTexts.{padded_decimal}
use Rattle.rows_values.specs.Digits.{digits_in}
use Rattle.rows_values.specs.PrintedDecimals.{glyphs, significant, fraction_text, sign_text}
use Rattle.rows_values.specs.Unpacked.{packed_text, optional_text}
use Rattle.rows_values.specs.PackedTexts.{is_shown, lead, zero_piece}
use Rattle.rows_values.specs.PackedNumbers.{PackNumbers}
use Rattle.rows_values.specs.declared.numbers.DecimalNumbers.{DecimalNumbers}
use Rattle.rows_values.proofs.UnpackDigitsLemmas.{length-digits_in}
use Rattle.rows_values.proofs.DigitTextLemmas.{lead_zeros, lead_none, lead_some, sig_suc, sig_append_none, sig_append_some}
use Rattle.rows_values.proofs.WriteLemmas.{kept_text}
use Rattle.feed_writers.proofs.DigitLemmas.{padded_more, padded_one}
use Rattle.feed_text.specs.DecimalText.{numbers_sign, micros_places_text, numbers_text}

-- ---- a number's digits as characters

last_apart : (k n : ℕ) → digits_in (suc k) n ≡ digits_in k (n / 10) ++ (n % 10 ∷ [])
unfolding digits_in
last_apart k n = refl

glyphs_apart : (k n : ℕ) → glyphs (digits_in (suc k) n) ≡ glyphs (digits_in k (n / 10)) ++ (48 + n % 10) ∷ []
glyphs_apart k n = ap glyphs (last_apart k n) ∙ map-append (λ d. 48 + d) (digits_in k (n / 10)) (n % 10 ∷ [])

tenth : (k n : ℕ) → n < 10 ^ suc k → n / 10 < 10 ^ k
tenth k n small = omega (arith, small, pow-suc 10 k)

one_glyph : (n : ℕ) → glyphs (digits_in 1 n) ≡ (48 + n % 10) ∷ []
unfolding digits_in
one_glyph n = refl

glyphs_padded : (k n : ℕ) → n < 10 ^ suc k → n < 2 ^ 64 → glyphs (digits_in (suc k) n) ≡ padded_decimal (suc k) n
glyphs_padded zero n small most =
    let few : n < 10 = omega (arith, small) in
    let same : n % 10 ≡ n = omega (arith, few) in
    one_glyph n ∙ ap (λ (d : ℕ). (48 + d) ∷ []) same ∙ sym (padded_one n few)
glyphs_padded (suc k) n small most =
    glyphs_apart (suc k) n ∙ ap (λ (l : List ℕ). l ++ (48 + n % 10) ∷ []) (glyphs_padded k (n / 10) (tenth (suc k) n small) (omega (arith, most))) ∙ sym (padded_more k n most)

-- the digits without leading zeros are those of the number, at least one
record AreOwn (ds : List ℕ) (n : ℕ) : Type 0 where
  pub some : 0 < length (significant ds)
  pub text : glyphs (significant ds) ≡ decimal n

own : (k n : ℕ) → 0 < n → n < 10 ^ k → n < 2 ^ 64 → AreOwn (digits_in k n) n
own zero n some small most = absurd (omega (arith, some, small))
own (suc k) n some small most = elim (leb_tells 10 n) [
  | inl t ↦
      let prefix = own k (n / 10) (omega (arith, t.1)) (tenth k n small) (omega (arith, most)) in
      let sig : significant (digits_in (suc k) n) ≡ significant (digits_in k (n / 10)) ++ (n % 10 ∷ []) = ap significant (last_apart k n) ∙ sig_append_some (digits_in k (n / 10)) (n % 10 ∷ []) prefix.some in
      record {
        some = omega (arith, ap length sig, length-append (significant (digits_in k (n / 10))) (n % 10 ∷ []));
        text = ap glyphs sig ∙ map-append (λ d. 48 + d) (significant (digits_in k (n / 10))) (n % 10 ∷ []) ∙ ap (λ (l : List ℕ). l ++ (48 + n % 10) ∷ []) prefix.text ∙ sym (decimal_step n t.1 most);
      }
  | inr t ↦
      let few : n < 10 = omega (arith, t.1) in
      let none : n / 10 ≡ 0 = omega (arith, few) in
      let same : n % 10 ≡ n = omega (arith, few) in
      let sig : significant (digits_in (suc k) n) ≡ n ∷ [] =
      ap significant (last_apart k n) ∙ sig_append_none (digits_in k (n / 10)) (n % 10 ∷ []) (ap (λ (m : ℕ). significant (digits_in k m)) none ∙ lead_zeros k) ∙ ap (λ (d : ℕ). significant (d ∷ [])) same ∙ alone n some in
      record { some = omega (arith, ap length sig); text = ap glyphs sig ∙ sym (decimal_digit n few) }
]
  where
    alone : (m : ℕ) → 0 < m → significant (m ∷ []) ≡ m ∷ []
    alone zero h = absurd (omega (arith, h))
    alone (suc m) h = sig_suc m []

-- ---- both sides of the point

or_no : (b : Bool) → (b || false) ≡ b
or_no true = refl
or_no false = refl

or_yes : (b : Bool) → (b || true) ≡ true
or_yes true = refl
or_yes false = refl

and_yes : (b : Bool) → (b && true) ≡ b
and_yes true = refl
and_yes false = refl

some_lt : (n : ℕ) → 0 < n → nat_lt 0 n ≡ true
some_lt n h = elim (leb_tells 1 n) [ inl t ↦ t.0 | inr t ↦ absurd (omega (arith, t.1, h)) ]

prefix_text : (negative : Bool) (k n scale : ℕ) → n < 10 ^ k → n < 2 ^ 64
    → lead negative (digits_in k n) ++ zero_piece (is_shown (digits_in k n)) (negative && nat_lt 0 scale) ≡ sign_text (negative && (nat_lt 0 scale || nat_lt 0 n)) ++ decimal n
prefix_text negative k zero scale small most =
    let p = lead_none negative (digits_in k 0) (lead_zeros k) in
    ap₂ (λ (l : List ℕ) (b : Bool). l ++ zero_piece b (negative && nat_lt 0 scale)) p.0 p.1
    ∙ ap (λ (b : Bool). sign_text (negative && b) ++ 48 ∷ []) (sym (or_no (nat_lt 0 scale)))
    ∙ ap (λ (l : List ℕ). sign_text (negative && (nat_lt 0 scale || false)) ++ l) (sym (decimal_digit 0 (omega arith)))
prefix_text negative k (suc m) scale small most =
    let n = suc m in
    let some : 0 < suc m = omega arith in
    let o = own k (suc m) some small most in
    let p = lead_some negative (digits_in k (suc m)) o.some in
    let minus : (negative && (nat_lt 0 scale || nat_lt 0 (suc m))) ≡ negative = ap (λ (b : Bool). negative && (nat_lt 0 scale || b)) (some_lt (suc m) some) ∙ ap (λ (b : Bool). negative && b) (or_yes (nat_lt 0 scale)) ∙ and_yes negative in
    ap₂ (λ (l : List ℕ) (b : Bool). l ++ zero_piece b (negative && nat_lt 0 scale)) p.0 p.1 ∙ append-nil (sign_text negative ++ glyphs (significant (digits_in k (suc m))))
    ∙ ap (λ (l : List ℕ). sign_text negative ++ l) o.text ∙ ap (λ (b : Bool). sign_text b ++ decimal (suc m)) (sym minus)

some_eqb : (n : ℕ) → eqb (suc n) 0 ≡ false
some_eqb n = elim (eqb_tells (suc n) 0) [ inl t ↦ absurd (omega (arith, t.1)) | inr t ↦ t.0 ]

fraction_columns : (scale n : ℕ) → n < 10 ^ scale → n < 2 ^ 64 → fraction_text (digits_in scale n) ≡ micros_places_text scale n
fraction_columns zero n small most = let none = length-digits_in 0 n in rw none refl
fraction_columns (suc k) n small most = rw (length-digits_in (suc k) n, some_eqb k) (ap (λ (l : List ℕ). 46 ∷ l) (glyphs_padded k n small most))

below_word : (k n : ℕ) → k ≤ 16 → n < 10 ^ k → n < 2 ^ 64
below_word k n few small = let ten : 0 < 10 = omega arith in omega (arith, small, pow-le-pow_right {n = 10} ten few)

-- the text of a packed decimal, from its numbers
pub numbers_text_is : (precision scale : ℕ) (bytes : List ℕ) (n : DecimalNumbers) → PackNumbers precision scale bytes n → packed_text precision scale bytes ≡ Some (numbers_text scale n)
numbers_text_is precision scale bytes n p =
    let k = precision - scale in
    let prefix = prefix_text n.negative k n.before scale p.before_fits (below_word k n.before p.few_before p.before_fits) in
    let back = fraction_columns scale n.after p.after_fits (below_word scale n.after (omega (arith, p.few_after)) p.after_fits) in
    ap optional_text p.is
    ∙ ap (λ (t : List ℕ). Some t) (sym (kept_text n.negative (digits_in k n.before) (digits_in scale n.after) scale (length-digits_in scale n.after))
    ∙ ap₂ (λ (a b : List ℕ). a ++ b) prefix back ∙ append_assoc (numbers_sign scale n) (decimal n.before) (micros_places_text scale n.after))

-- ---- the length of the text

sign_short : (b : Bool) → length (sign_text b) ≤ 1
sign_short true = omega arith
sign_short false = omega arith

decimal_short : (k n : ℕ) → n < 10 ^ k → n < 2 ^ 64 → length (decimal n) ≤ k + 1
decimal_short k n small most =
    let ten : 0 < 10 = omega arith in
    let up : k ≤ suc k = omega arith in
    let more : n < 10 ^ suc k = omega (arith, small, pow-le-pow_right {n = 10} ten up) in
    omega (arith, length-decimal-le (suc k) n (omega arith) more most)

columns_short : (scale n : ℕ) → n < 10 ^ scale → n < 2 ^ 64 → length (micros_places_text scale n) ≤ scale + 1
columns_short zero n small most = omega arith
columns_short (suc k) n small most =
    let size : length (padded_decimal (suc k) n) ≡ suc k = sym (ap length (glyphs_padded k n small most)) ∙ length-map (digits_in (suc k) n) (λ (d : ℕ). 48 + d) ∙ length-digits_in (suc k) n in
    rw (some_eqb k) (omega (arith, size))

pub numbers_short : (precision scale : ℕ) (bytes : List ℕ) (n : DecimalNumbers) → PackNumbers precision scale bytes n → length (numbers_text scale n) ≤ precision + 3
numbers_short precision scale bytes n p =
    let le = p.ordered in
    omega (
      arith,
      le,
      length-append (numbers_sign scale n) (decimal n.before ++ micros_places_text scale n.after),
      length-append (decimal n.before) (micros_places_text scale n.after),
      sign_short (n.negative && (nat_lt 0 scale || nat_lt 0 n.before)),
      decimal_short (precision - scale) n.before p.before_fits (below_word (precision - scale) n.before p.few_before p.before_fits),
      columns_short scale n.after p.after_fits (below_word scale n.after (omega (arith, p.few_after)) p.after_fits),
    )
