-- The text of a float is that of one float only.
use Rattle.std.proofs.Common.{◌≡◌, ℕ, ◌<◌, Bool, true, false, List, [], ◌∷◌, ◌++◌, length, refl, sym, ap, ◌∙◌, subst, arith, inl, inr}
use Rattle.std.specs.Prelude.{Some, None, Option, IsTrue, IsFalse, if◌then◌else◌}
use Rattle.std.specs.Fmt.{sign_text}
use Rattle.std.specs.Str.Parse.{AllDigits, IsNumeral}
use Rattle.std.specs.Char.{digit_value}
use Rattle.std.specs.Float.{float_is_finite}
use Rattle.std.specs.Float.Numeral.{exponent_text}
use Rattle.std.specs.Float.Ieee.{Float, Format, nan, inf, fin}
use Rattle.std.proofs.lemmas.Bool.{false≢true}
use Rattle.std.proofs.lemmas.List.{append-nil}
use Rattle.ryu.specs.Plain.{IsPlainNumber, word_of}
use Rattle.changes_writers.specs.JsonStrings.{json_string}
use Rattle.changes_writers.specs.JsonNumbers.{IsJsonNumber, IsFraction, IsExponent}
use Rattle.changes_writers.specs.FloatTexts.{IsFloatText}
use Rattle.changes_writers.proofs.StringLawLemmas.{strings_read}

-- ---- numbers
fraction_of : (b : Bool) (s : List ℕ) → AllDigits 10 s → (b ≡ true → 0 < length s) → IsFraction (if b then 46 ∷ s else [])
fraction_of true s all some = inr (s, (some refl, all), refl)
fraction_of false s all some = inl refl

exponent_of : (b : Bool) (s : List ℕ) → AllDigits 10 s → IsExponent (exponent_text b s)
exponent_of b [] all = inl refl
exponent_of b (d ∷ ds) all = inr (b, d ∷ ds, (omega arith, all), refl)

number_is : (text : List ℕ) → IsPlainNumber text → IsJsonNumber text
number_is text h =
    let p = h.1 in
    let plain = h.3 in
    record {
      negative = h.0;
      whole = p.whole;
      fraction = if p.point then 46 ∷ p.fraction else [];
      exponent = exponent_text p.exponent_negative p.exponent;
      is = h.2;
      whole_is = (plain.whole, plain.well_formed.whole_digits);
      no_leading_zero = plain.no_leading_zero;
      fraction_is = fraction_of p.point p.fraction plain.well_formed.fraction_digits plain.fraction;
      exponent_is = exponent_of p.exponent_negative p.exponent plain.well_formed.exponent_digits;
    }

pub float_number : (f : Format) (w z : ℕ) (x : Float) (text : List ℕ) → IsTrue (float_is_finite x) → IsFloatText f w z x text → IsJsonNumber text
float_number f w z x text h t = number_is text (t.number h)

abbrev first : List ℕ → ℕ
first [] = 0
first (x ∷ xs) = x

numeral_first : (s t : List ℕ) → IsNumeral 10 s → first (s ++ t) ≡ 34 → ⊥
numeral_first [] t h e = absurd (omega (arith, h.0))
numeral_first (c ∷ s) t h e = let no : 36 < 10 = subst (λ (k : ℕ). digit_value k < 10) e h.1.0 in absurd (omega (arith, no))

number_first : (text : List ℕ) → IsJsonNumber text → first text ≡ 34 → ⊥
number_first text n e = go n.negative (sym (ap first n.is) ∙ e)
  where
    go : (b : Bool) → first (sign_text b ++ (n.whole ++ (n.fraction ++ n.exponent))) ≡ 34 → ⊥
    go true h = absurd (omega (arith, h))
    go false h = numeral_first n.whole (n.fraction ++ n.exponent) n.whole_is h

-- ---- words
words_read : (x y : Float) → IsFalse (float_is_finite x) → IsFalse (float_is_finite y) → word_of x ≡ word_of y → x ≡ y
unfolding float_is_finite
words_read nan nan p q e = refl
words_read nan (inf true) p q e = let no : 78 ≡ 45 = ap first e in absurd (omega (arith, no))
words_read nan (inf false) p q e = let no : 78 ≡ 105 = ap first e in absurd (omega (arith, no))
words_read (inf true) nan p q e = let no : 45 ≡ 78 = ap first e in absurd (omega (arith, no))
words_read (inf false) nan p q e = let no : 105 ≡ 78 = ap first e in absurd (omega (arith, no))
words_read (inf true) (inf true) p q e = refl
words_read (inf true) (inf false) p q e = let no : 45 ≡ 105 = ap first e in absurd (omega (arith, no))
words_read (inf false) (inf true) p q e = let no : 105 ≡ 45 = ap first e in absurd (omega (arith, no))
words_read (inf false) (inf false) p q e = refl
words_read (fin s m k) y p q e = absurd (false≢true (sym p))
words_read nan (fin s m k) p q e = absurd (false≢true (sym q))
words_read (inf b) (fin s m k) p q e = absurd (false≢true (sym q))

string_first : (word : List ℕ) → first (json_string word) ≡ 34
unfolding json_string
string_first word = refl

abbrev or_nan : Option Float → Float
or_nan None = nan
or_nan (Some x) = x

pub float_read : (f : Format) (w z : ℕ) (x y : Float) (text : List ℕ) → IsFloatText f w z x text → IsFloatText f w z y text → x ≡ y
float_read f w z x y text s t = go (float_is_finite x) (float_is_finite y) refl refl
  where
    go : (p q : Bool) → float_is_finite x ≡ p → float_is_finite y ≡ q → x ≡ y
    go true true a b = ap or_nan (sym (s.reads_back a) ∙ t.reads_back b)
    go true false a b = absurd (number_first text (number_is text (s.number a)) (ap first (t.word b) ∙ string_first (word_of y)))
    go false true a b = absurd (number_first text (number_is text (t.number b)) (ap first (s.word a) ∙ string_first (word_of x)))
    go false false a b = words_read x y a b (strings_read (word_of x) (word_of y) [] [] (append-nil (json_string (word_of x)) ∙ sym (s.word a) ∙ t.word b ∙ sym (append-nil (json_string (word_of y))))).0
