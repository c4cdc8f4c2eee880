-- The table of the number of bytes of the digits on one side of the point.
use Rattle.std.proofs.Common.{◌≡◌, ℕ, zero, suc, ◌+◌, ◌-◌, ◌*◌, ◌/◌, ◌<◌, Bool, true, false, ◌≤◌, ◌&&◌, T, eqb, get_or, refl, inl, inr, arith, eq-zero-or-pos, eqb→eq, nat_le}
use Rattle.std.proofs.lemmas.Bool.{leb-true}
use Rattle.rows_values.specs.Digits.{side_size}
use Rattle.rows_values.specs.declared.digits.TheConstants.{SIDE_SIZES}
use lib.Ieee.Fits.{and_l, and_r}

abbrev are_sizes : ℕ → Bool
are_sizes zero = true
are_sizes (suc d) = eqb (get_or SIDE_SIZES d 0) (side_size d) && are_sizes d

below : (n d : ℕ) → T (are_sizes n) → d < n → get_or SIDE_SIZES d 0 ≡ side_size d
below zero d t h = absurd (omega arith)
below (suc n) d t h =
    elim (eq-zero-or-pos (n - d)) [
      | inl z ↦ let e : d ≡ n = omega arith in rw e (eqb→eq _ _ (and_l _ (are_sizes n) t))
      | inr g ↦ below n d (and_r _ (are_sizes n) t) (omega arith)
    ]

pub side_at : (d : ℕ) → d < 72 → get_or SIDE_SIZES d 0 ≡ side_size d
side_at d h = below 72 d tt h

-- no group in it has more than four bytes
abbrev are_small : ℕ → Bool
are_small zero = true
are_small (suc d) = nat_le (get_or SIDE_SIZES d 0) (4 * (d / 9) + 4) && are_small d

is_true : (b : Bool) → T b → b ≡ true
is_true true t = refl
is_true false t = absurd t

small : (n d : ℕ) → T (are_small n) → d < n → get_or SIDE_SIZES d 0 ≤ 4 * (d / 9) + 4
small zero d t h = absurd (omega arith)
small (suc n) d t h =
    elim (eq-zero-or-pos (n - d)) [
      | inl z ↦ let e : d ≡ n = omega arith in rw e (leb-true _ _ (is_true _ (and_l _ (are_small n) t)))
      | inr g ↦ small n d (and_r _ (are_small n) t) (omega arith)
    ]

pub side_most : (d : ℕ) → d < 72 → get_or SIDE_SIZES d 0 ≤ 4 * (d / 9) + 4
side_most d h = small 72 d tt h
