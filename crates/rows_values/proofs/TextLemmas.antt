-- The text that is printed is parsed back.
use Rattle.std.proofs.Common.{◌≡◌, ◌<◌, ◌+◌, ◌-◌, ◌++◌, ◌⊎◌, Bool, true, false, eqb, ltb, ℕ, zero, suc, List, [], ◌∷◌, length, Some, inl, inr, arith, refl, sym, ap, ◌∙◌}
use Rattle.std.proofs.lemmas.Bool.Decides.{eqb_tells, leb_tells, nat_tests}
use Rattle.std.specs.Prelude.{◌&&◌, not}
use Rattle.std.specs.List.{prefix_len, list_all, before_first, after_first, position_or_len}
use Rattle.std.specs.Char.{is_ascii_digit}
use Rattle.rows_values.specs.Digits.{AreDigits}
use Rattle.rows_values.specs.Decimals.{DecimalParts, only_zeros}
use Rattle.rows_values.specs.PrintedDecimals.{glyphs, significant, whole_text, fraction_text, sign_text, decimal_text, one_zero, has_minus, after_sign, digits_of, are_zeros, has_only_digits, from_digit_texts, text_value, shown_digits, shown_value}
use Rattle.rows_values.proofs.GroupLemmas.{drop_digits}

-- a single zero, or a first digit that isn't zero
First : List ℕ → Type 0
First w = (w ≡ 0 ∷ []) ⊎ ((d : ℕ) × (r : List ℕ) × (w ≡ suc d ∷ r))

other : (a b : ℕ) → (a ≡ b → ⊥) → eqb a b ≡ false
other a b apart = elim (eqb_tells a b) [ inl t ↦ absurd (apart t.1) | inr t ↦ t.0 ]

more : (n : ℕ) → eqb (suc n) 0 ≡ false
more n = other (suc n) 0 (λ e. omega (arith, e))

positive : (n : ℕ) → 0 < n → ltb 0 n ≡ true
positive n h = elim (leb_tells 1 n) [ inl t ↦ t.0 | inr t ↦ absurd (omega (arith, t.1, h)) ]

one_more : (n : ℕ) → 1 + n ≡ suc n
one_more n = omega arith

significant_first : (ds : List ℕ) → (significant ds ≡ []) ⊎ ((d : ℕ) × (r : List ℕ) × (significant ds ≡ suc d ∷ r))
significant_first [] = inl refl
significant_first (zero ∷ ds) = rw (one_more (prefix_len (λ d. eqb d 0) ds)) (significant_first ds)
significant_first (suc d ∷ ds) = inr (d, ds, rw (more d) refl)

shown_first : (ds : List ℕ) → First (shown_digits ds)
unfolding First
shown_first ds = elim (significant_first ds) [
  | inl e ↦ inl (rw e refl)
  | inr q ↦ inr (q.0, q.1, rw q.2 (rw (more (length q.1)) refl))
]

whole_is : (ds : List ℕ) → whole_text ds ≡ glyphs (shown_digits ds)
whole_is ds = elim (eqb_tells (length (significant ds)) 0) [ inl t ↦ rw t.0 refl | inr t ↦ rw t.0 refl ]

shown_are : (ds : List ℕ) → AreDigits ds → AreDigits (shown_digits ds)
shown_are ds h = elim (eqb_tells (length (significant ds)) 0) [ inl t ↦ rw t.0 one | inr t ↦ rw t.0 (drop_digits _ ds h) ]
  where
    one : AreDigits (0 ∷ [])
    one zero = omega arith
    one (suc k) = omega arith

fraction_more : (x : ℕ) (a : List ℕ) → fraction_text (x ∷ a) ≡ 46 ∷ glyphs (x ∷ a)
fraction_more x a = rw (more (length a)) refl

zero_alone : (a : List ℕ) → one_zero (48 ∷ fraction_text a) ≡ 48 ∷ fraction_text a
zero_alone [] = refl
zero_alone (x ∷ a) = rw (fraction_more x a) refl

one : (n : Bool) (w a : List ℕ) → First w → one_zero (sign_text n ++ (glyphs w ++ fraction_text a)) ≡ sign_text n ++ (glyphs w ++ fraction_text a)
unfolding First
one true w a f = refl
one false w a (inl e) = rw e (zero_alone a)
one false w a (inr q) = let apart : eqb (48 + suc q.0) 48 ≡ false = other (48 + suc q.0) 48 (λ e. omega (arith, e)) in rw q.2 (rw apart refl)

minus : (n : Bool) (w a : List ℕ) → First w → has_minus (sign_text n ++ (glyphs w ++ fraction_text a)) ≡ n
unfolding First
minus true w a f = refl
minus false w a (inl e) = rw e refl
minus false w a (inr q) = let apart : eqb (48 + suc q.0) 45 ≡ false = other (48 + suc q.0) 45 (λ e. omega (arith, e)) in rw q.2 apart

after_sign_text : (n : Bool) (w a : List ℕ) → First w → after_sign (sign_text n ++ (glyphs w ++ fraction_text a)) ≡ glyphs w ++ fraction_text a
unfolding First
after_sign_text true w a f = refl
after_sign_text false w a (inl e) = rw e refl
after_sign_text false w a (inr q) =
    let no_minus : eqb (48 + suc q.0) 45 ≡ false = other (48 + suc q.0) 45 (λ e. omega (arith, e)) in
    let no_plus : eqb (48 + suc q.0) 43 ≡ false = other (48 + suc q.0) 43 (λ e. omega (arith, e)) in
    rw q.2 (rw (no_minus, no_plus) refl)

before_is : (w a : List ℕ) → before_first (λ c. eqb c 46) (glyphs w ++ fraction_text a) ≡ glyphs w
before_is [] [] = refl
before_is [] (x ∷ a) = rw (fraction_more x a) refl
before_is (d ∷ w) a =
    let apart : eqb (48 + d) 46 ≡ false = other (48 + d) 46 (λ e. omega (arith, e)) in
    rw (apart, one_more (position_or_len (λ c. eqb c 46) (glyphs w ++ fraction_text a))) (ap (λ (l : List ℕ). (48 + d) ∷ l) (before_is w a))

after_is : (w a : List ℕ) → after_first (λ c. eqb c 46) (glyphs w ++ fraction_text a) ≡ glyphs a
after_is [] [] = refl
after_is [] (x ∷ a) = rw (fraction_more x a) refl
after_is (d ∷ w) a =
    let apart : eqb (48 + d) 46 ≡ false = other (48 + d) 46 (λ e. omega (arith, e)) in
    let p = position_or_len (λ c. eqb c 46) (glyphs w ++ fraction_text a) in
    let e : 1 + p + 1 ≡ suc (p + 1) = omega arith in
    rw (apart, e) (after_is w a)

ascii : (d : ℕ) → d < 10 → is_ascii_digit (48 + d) ≡ true
ascii d h = grind (arith, nat_tests)

all_ascii : (ds : List ℕ) → AreDigits ds → list_all is_ascii_digit (glyphs ds) ≡ true
all_ascii [] h = refl
all_ascii (d ∷ ds) h = rw (ascii d (h 0)) (all_ascii ds (λ k. h (suc k)))

digits_back : (ds : List ℕ) → digits_of (glyphs ds) ≡ ds
digits_back [] = refl
digits_back (d ∷ ds) = let e : 48 + d - 48 ≡ d = omega arith in ap (λ k. k ∷ digits_of (glyphs ds)) e ∙ ap (λ l. d ∷ l) (digits_back ds)

zeros_back : (ds : List ℕ) → are_zeros (glyphs ds) ≡ only_zeros ds
zeros_back [] = refl
zeros_back (d ∷ ds) = ap (λ b. b && are_zeros (glyphs ds)) (same d) ∙ ap (λ b. eqb d 0 && b) (zeros_back ds)
  where
    same : (d : ℕ) → eqb (48 + d) 48 ≡ eqb d 0
    same zero = refl
    same (suc d) = other (48 + suc d) 48 (λ e. omega (arith, e)) ∙ sym (more d)

some_glyph : (w a : List ℕ) → First w → ltb 0 (length (glyphs w) + length (glyphs a)) ≡ true
unfolding First
some_glyph w a (inl e) = rw e (positive (1 + length (glyphs a)) (omega arith))
some_glyph w a (inr q) = rw q.2 (positive (suc (length (glyphs q.1)) + length (glyphs a)) (omega arith))

sequence_back : (n : Bool) (w a : List ℕ) → First w → AreDigits w → AreDigits a
    → from_digit_texts n (glyphs w) (glyphs a) ≡ Some (let v : DecimalParts = record { negative = n && not (only_zeros w && only_zeros a); before = w; after = a } in v)
unfolding from_digit_texts has_only_digits
sequence_back n w a f h g =
    rw (some_glyph w a f, all_ascii w h, all_ascii a g)
    (ap (λ (b : Bool). Some (let v : DecimalParts = record { negative = n && not (b && are_zeros (glyphs a)); before = digits_of (glyphs w); after = digits_of (glyphs a) } in v)) (zeros_back w)
    ∙ ap (λ (b : Bool). Some (let v : DecimalParts = record { negative = n && not (only_zeros w && b); before = digits_of (glyphs w); after = digits_of (glyphs a) } in v)) (zeros_back a)
    ∙ ap (λ (l : List ℕ). Some (let v : DecimalParts = record { negative = n && not (only_zeros w && only_zeros a); before = l; after = digits_of (glyphs a) } in v)) (digits_back w)
    ∙ ap (λ (l : List ℕ). Some (let v : DecimalParts = record { negative = n && not (only_zeros w && only_zeros a); before = w; after = l } in v)) (digits_back a))

taken_back : (n : Bool) (w a : List ℕ) → First w → AreDigits w → AreDigits a
    → text_value (sign_text n ++ (glyphs w ++ fraction_text a)) ≡ Some (let v : DecimalParts = record { negative = n && not (only_zeros w && only_zeros a); before = w; after = a } in v)
unfolding text_value
taken_back n w a f h g =
    let p : ℕ → Bool = λ c. eqb c 46 in
    ap (λ t. from_digit_texts (has_minus t) (before_first p (after_sign t)) (after_first p (after_sign t))) (one n w a f)
    ∙ ap (λ m. from_digit_texts m (before_first p (after_sign (sign_text n ++ (glyphs w ++ fraction_text a)))) (after_first p (after_sign (sign_text n ++ (glyphs w ++ fraction_text a))))) (minus n w a f)
    ∙ ap (λ b. from_digit_texts n (before_first p b) (after_first p b)) (after_sign_text n w a f)
    ∙ ap (λ b. from_digit_texts n b (after_first p (glyphs w ++ fraction_text a))) (before_is w a)
    ∙ ap (λ b. from_digit_texts n (glyphs w) b) (after_is w a)
    ∙ sequence_back n w a f h g

pub text_back : (v : DecimalParts) → AreDigits v.before → AreDigits v.after → text_value (decimal_text v) ≡ Some (shown_value v)
text_back v h g =
    ap (λ l. text_value (sign_text v.negative ++ (l ++ fraction_text v.after))) (whole_is v.before)
    ∙ taken_back v.negative (shown_digits v.before) v.after (shown_first v.before) (shown_are v.before h) g
