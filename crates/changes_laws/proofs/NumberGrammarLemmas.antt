-- The numbers that are written are numbers of RFC 8259.
use Rattle.std.proofs.Common.{◌≡◌, ℕ, suc, ◌+◌, ◌<◌, ◌≤◌, ◌^◌, ◌%◌, Bool, true, false, List, [], ◌∷◌, ◌++◌, length, refl, sym, ap, subst, arith, inl, inr}
use Rattle.std.specs.Prelude.{ℤ, pos, negsuc, slice_index}
use Rattle.std.specs.Fmt.{decimal, signed_decimal, sign_text}
use Rattle.std.specs.Char.{digit_value}
use Rattle.std.specs.Str.Parse.{AllDigits}
use Rattle.std.proofs.lemmas.List.{append-nil}
use lib.Signed.{mag}
use Rattle.std.proofs.lemmas.Fmt.{decimal_is_IsNumeral_wide, decimal_by_steps_wide}
use Rattle.changes_writers.specs.JsonNumbers.{IsJsonNumber, IsFraction, IsExponent}
use Rattle.changes_laws.specs.JsonGrammar.{IsFrac, no_frac, frac, IsSign, no_sign, minus, IsExp, no_exp, exp, IsNumber}
use Rattle.changes_laws.proofs.WrittenJson.{Printable, printable_append, IsJson, number_json}

-- ---- the numbers of floats
frac_is : (s : List ℕ) → IsFraction s → IsFrac s
frac_is s (inl e) = subst IsFrac (sym e) no_frac
frac_is s (inr h) = subst IsFrac (sym h.2) (frac h.1)

exp_is : (s : List ℕ) → IsExponent s → IsExp s
exp_is s (inl e) = subst IsExp (sym e) no_exp
exp_is s (inr h) = subst IsExp (sym h.3) (exp 101 (sign_text h.0) h.1 (inl refl) (sign h.0) h.2)
  where
    sign : (b : Bool) → IsSign (sign_text b)
    sign true = minus
    sign false = no_sign

pub number_is : (text : List ℕ) → IsJsonNumber text → IsNumber text
number_is text n = record {
  is_negative = n.negative;
  int = n.whole;
  frac = n.fraction;
  exp = n.exponent;
  int_is = record { digits = n.whole_is; no_leading_zero = n.no_leading_zero };
  frac_is = frac_is n.fraction n.fraction_is;
  exp_is = exp_is n.exponent n.exponent_is;
  is = n.is;
}

-- ---- numbers have no control characters
digit_high : (c : ℕ) → digit_value c < 10 → 32 ≤ c
digit_high c h = grind arith

digits_high : (ds : List ℕ) → AllDigits 10 ds → Printable ds
digits_high [] h = tt
digits_high (d ∷ ds) h = (digit_high d h.0, digits_high ds h.1)

sign_high : (b : Bool) → Printable (sign_text b)
sign_high true = (omega arith, tt)
sign_high false = tt

fraction_high : (s : List ℕ) → IsFraction s → Printable s
fraction_high s (inl e) = subst Printable (sym e) tt
fraction_high s (inr h) = subst Printable (sym h.2) (omega arith, digits_high h.0 h.1.1)

exponent_high : (s : List ℕ) → IsExponent s → Printable s
exponent_high s (inl e) = subst Printable (sym e) tt
exponent_high s (inr h) = subst Printable (sym h.3) (omega arith, printable_append (sign_text h.0) h.1 (sign_high h.0) (digits_high h.1 h.2.1))

pub number_high : (text : List ℕ) → IsJsonNumber text → Printable text
number_high text n = subst Printable (sym n.is)
    (printable_append (sign_text n.negative) (n.whole ++ (n.fraction ++ n.exponent)) (sign_high n.negative)
    (printable_append n.whole (n.fraction ++ n.exponent) (digits_high n.whole n.whole_is.1)
    (printable_append n.fraction n.exponent (fraction_high n.fraction n.fraction_is) (exponent_high n.exponent n.exponent_is))))

-- ---- integers
abbrev NoLeadingZero : List ℕ → Type 0
NoLeadingZero s = slice_index s 0 ≡ 48 → length s ≡ 1

abbrev NoZeroBefore : ℕ → List ℕ → Type 0
NoZeroBefore n s = NoLeadingZero s × (0 < n → 48 < slice_index s 0) × (0 < length s)

after_front : (n : ℕ) (ds : List ℕ) (c : ℕ) → 10 ≤ n → (0 < length ds) → 48 < slice_index ds 0 → NoZeroBefore n (ds ++ c ∷ [])
after_front n [] c ten some h = absurd (omega (arith, some))
after_front n (d ∷ ds) c ten some h = (λ e. absurd (omega (arith, e, h)), λ p. h, omega arith)

no_leading_zero : (n : ℕ) → n < 10 ^ 64 → NoZeroBefore n (decimal n)
no_leading_zero n h = decimal_by_steps_wide NoZeroBefore
    (λ k lt. (λ e. refl, λ p. omega (arith, p), omega arith))
    (λ k ds le p. after_front k ds (48 + k % 10) le p.2 (p.1 (omega (arith, le)))) n h

plain_number : (negative : Bool) (n : ℕ) → n < 10 ^ 64 → IsJsonNumber (sign_text negative ++ decimal n)
plain_number negative n h =
    let d = decimal_is_IsNumeral_wide n h in
    record {
      negative = negative;
      whole = decimal n;
      fraction = [];
      exponent = [];
      is = ap (λ (t : List ℕ). sign_text negative ++ t) (sym (append-nil (decimal n)));
      whole_is = d.0;
      no_leading_zero = (no_leading_zero n h).0;
      fraction_is = inl refl;
      exponent_is = inl refl;
    }

pub written_number : (P : Type 0) (text : List ℕ) → IsJsonNumber text → IsJson P text
written_number P text n = number_json P text (number_is text n) (number_high text n)

pub decimal_json : (P : Type 0) (n : ℕ) → n < 10 ^ 64 → IsJson P (decimal n)
decimal_json P n h = written_number P (decimal n) (plain_number false n h)

pub signed_json : (P : Type 0) (z : ℤ) → mag z < 10 ^ 63 → IsJson P (signed_decimal z)
signed_json P (pos n) h = decimal_json P n (omega (arith, h))
signed_json P (negsuc n) h = written_number P (45 ∷ decimal (suc n)) (plain_number true (suc n) (omega (arith, h)))
