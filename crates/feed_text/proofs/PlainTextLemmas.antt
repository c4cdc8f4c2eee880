-- The texts of numbers and timestamps have nothing to escape.
use Rattle.std.proofs.Common.{◌≡◌, ◌<◌, ◌^◌, ◌+◌, ◌-◌, ◌%◌, ℕ, zero, suc, ℤ, pos, negsuc, Bool, true, false, List, [], ◌∷◌, ◌++◌, length, replicate, refl, sym, ap, ◌∙◌, arith, append_assoc, cond, eqb}
use Rattle.std.specs.Prelude.{unsigned_abs, int_lt, FitsSigned}
use Rattle.std.specs.Int.{w32}
use Rattle.std.specs.Fmt.{decimal, signed_decimal}
use Rattle.std.proofs.lemmas.Fmt.{decimal_by_steps}
use Rattle.rows_values.specs.TimeTexts.{padded_decimal}
use Rattle.rows_cells.specs.CellValues.{cell_micros_text, timestamp_text}
use Rattle.feed_writers.specs.Quoting.{quoted}
use Rattle.feed_text.proofs.DecimalTextLemmas.{AreLeft, left_append, digit_left, plain_quoted}

pub decimal_left : (n : ℕ) → n < 2 ^ 64 → AreLeft (decimal n)
decimal_left n small = decimal_by_steps (λ m ds. AreLeft ds) (λ m l. digit_left m l) (λ m ds l h. left_append ds ((48 + m % 10) ∷ []) h (digit_left (m % 10) (omega arith))) n small

zeros_left : (k : ℕ) → AreLeft (replicate k 48)
zeros_left zero = record { left = refl }
zeros_left (suc k) = record { left = ap (λ (l : List ℕ). 48 ∷ l) (zeros_left k).left }

padded_left : (width n : ℕ) → n < 2 ^ 64 → AreLeft (padded_decimal width n)
unfolding padded_decimal
padded_left width n small = left_append (replicate (width - length (decimal n)) 48) (decimal n) (zeros_left (width - length (decimal n))) (decimal_left n small)

minus_left : (text : List ℕ) → AreLeft text → AreLeft (45 ∷ text)
minus_left text h = let one : AreLeft (45 ∷ []) = record { left = refl } in left_append (45 ∷ []) text one h

point_left : (text : List ℕ) → AreLeft text → AreLeft (46 ∷ text)
point_left text h = let one : AreLeft (46 ∷ []) = record { left = refl } in left_append (46 ∷ []) text one h

signed_left : (z : ℤ) → unsigned_abs z < 2 ^ 64 → AreLeft (signed_decimal z)
signed_left (pos n) small = decimal_left n small
signed_left (negsuc n) small = minus_left (decimal (suc n)) (decimal_left (suc n) small)

either_left : (b : Bool) (s t : List ℕ) → AreLeft s → AreLeft t → AreLeft (cond b s t)
either_left true s t h k = h
either_left false s t h k = k

micros_left : (z : ℤ) → unsigned_abs z < 2 ^ 64 → AreLeft (cell_micros_text z)
micros_left z small =
    let n : ℕ = unsigned_abs z in
    let none : AreLeft [] = record { left = refl } in
    either_left (eqb n 0) [] (46 ∷ cond (int_lt z (pos 0)) (45 ∷ padded_decimal 5 n) (padded_decimal 6 n)) none
    (point_left (cond (int_lt z (pos 0)) (45 ∷ padded_decimal 5 n) (padded_decimal 6 n))
    (either_left (int_lt z (pos 0)) (45 ∷ padded_decimal 5 n) (padded_decimal 6 n) (minus_left (padded_decimal 5 n) (padded_left 5 n small)) (padded_left 6 n small)))

abs_fits : (z : ℤ) → FitsSigned w32 z → unsigned_abs z < 2 ^ 64
abs_fits (pos n) f = omega (arith, f.sfits)
abs_fits (negsuc n) f = omega (arith, f.sfits)

pub timestamp_left : (seconds micros : ℤ) → FitsSigned w32 seconds → FitsSigned w32 micros → AreLeft (timestamp_text (seconds, micros))
unfolding timestamp_text
timestamp_left seconds micros a b =
    left_append (signed_decimal seconds) (cell_micros_text micros) (signed_left seconds (abs_fits seconds a)) (micros_left micros (abs_fits micros b))

-- a quote, a text with nothing to escape, and a quote
pub quoted_so : (base one two new text : List ℕ) → one ≡ base ++ 39 ∷ [] → two ≡ one ++ text → new ≡ two ++ 39 ∷ [] → AreLeft text → new ≡ base ++ quoted text
quoted_so base one two new text first second third left =
    third ∙ rw (second, first) (simp append_assoc (ap (λ (l : List ℕ). base ++ l) (sym (plain_quoted text left))))
