-- Packed times: their bytes as numbers, and a time with its sign.
use Rattle.std.proofs.Common.{◌≡◌, ◌<◌, ◌≤◌, ◌^◌, ◌*◌, ◌+◌, ◌-◌, ◌/◌, ◌%◌, ℕ, zero, suc, ℤ, pos, negsuc, ◌+ℤ◌, ◌-ℤ◌, ◌*ℤ◌, neg_ℤ, int_div, int_rem, unsigned_abs, List, slice_index, to_z, of_z, arith, ap, ◌∙◌}
use Rattle.std.proofs.lemmas.Int.{ints, int_wrap_fits, to_z-of_z, by_lt_z, quot_fits, rem_below, fits_signed_from_abs, fits_signed_mul}
use Rattle.std.proofs.Math.Nat.{pow-le-pow_right}
use Rattle.std.specs.Int.{w64, int_wrap}
use Rattle.std.specs.Int.RustNames.{FitsSigned}
use Rattle.byteorder.specs.Endian.{big_number}
use Rattle.byteorder.specs.Numbers.{big_from-lt}
use Rattle.rows_packed_times.specs.PackedTimes.{packed_time, packed_time_int, packed_parts, packed_signed}

-- n bytes are below 256 ^ n, and six of them below 2 ^ 48
pub big_number_fits : (n : ℕ) (xs : List ℕ) → ((k : ℕ) → slice_index xs k < 256) → big_number n xs < 256 ^ n
big_number_fits n xs bytes = big_from-lt 0 n xs bytes

pub big_number_below : (n : ℕ) (xs : List ℕ) → n ≤ 6 → ((k : ℕ) → slice_index xs k < 256) → big_number n xs < 281474976710656
big_number_below n xs h bytes =
    let a = big_from-lt 0 n xs bytes in
    let b : 256 ^ n ≤ 256 ^ 6 = pow-le-pow_right (omega arith) h in
    omega (arith, a, b)

pub fits_pos : (q : ℕ) → q < 9223372036854775808 → FitsSigned w64 (pos q)
fits_pos q h = record { sfits = h }

pub fits_neg : (q : ℕ) → q < 9223372036854775808 → FitsSigned w64 (neg_ℤ (pos q))
fits_neg zero h = record { sfits = h }
fits_neg (suc q) h = record { sfits = omega (arith, h) }

-- the distance of a number below 2 * mid from mid
pub near : (n mid : ℕ) → n < mid + mid → unsigned_abs (pos n -ℤ pos mid) ≤ mid
near n mid h =
    by_lt_z (pos n) (pos mid)
    (λ l. let e : pos n -ℤ pos mid ≡ negsuc (mid - n - 1) = omega (arith, ints, l) in rw e (omega (arith, ints, l)))
    (λ g. let e : pos n -ℤ pos mid ≡ pos (n - mid) = omega (arith, ints, g) in rw e (omega (arith, ints, h, g)))

-- the code's numbers, through the casts of their width
pub seen : (b : ℤ) (n mid : ℕ) → FitsSigned w64 b → b ≡ pos n → to_z w64 (of_z w64 b) -ℤ pos mid ≡ pos n -ℤ pos mid
seen b n mid fits is = ap (λ v. v -ℤ pos mid) (to_z-of_z w64 b fits ∙ is)

-- a number of parts of a second, with `unit_micros` microseconds each, if the packed value fits
module _ (unit unit_micros limit : ℕ) (some : 0 < unit) (small : limit ≤ 9223372036854775808) (product : unit * unit_micros < 9223372036854775808)
    (few : unit < 9223372036854775808)
    (rescale : (r : ℕ) → neg_ℤ (pos r) *ℤ pos unit_micros ≡ neg_ℤ (pos (r * unit_micros)))
    (room : (m : ℕ) → m < limit → packed_parts unit unit_micros m < 9223372036854775808) where
  parts_neg : (q r : ℕ) → (neg_ℤ (pos q) *ℤ pos 16777216) +ℤ (neg_ℤ (pos r) *ℤ pos unit_micros) ≡ neg_ℤ (pos (q * 16777216 + r * unit_micros))
  parts_neg q r =
      let e : neg_ℤ (pos q) *ℤ pos 16777216 ≡ neg_ℤ (pos (q * 16777216)) = omega (arith, ints) in
      let s : neg_ℤ (pos (q * 16777216)) +ℤ neg_ℤ (pos (r * unit_micros)) ≡ neg_ℤ (pos (q * 16777216 + r * unit_micros)) = omega (arith, ints) in
      rw (e, rescale r) s

  pub signed_is : (z : ℤ) → unsigned_abs z < limit → packed_time (int_div z (pos unit)) (int_rem z (pos unit) *ℤ pos unit_micros) ≡ packed_signed unit unit_micros z
  signed_is (pos m) h = int_wrap_fits w64 _ (fits_pos (packed_parts unit unit_micros m) (room m h))
  signed_is (negsuc m) h =
      ap (int_wrap w64) (parts_neg (suc m / unit) (suc m % unit)) ∙ int_wrap_fits w64 _ (fits_neg (packed_parts unit unit_micros (suc m)) (room (suc m) h))

  pub time_is : (t z r : ℤ) → t ≡ z → unsigned_abs z < limit
      → r ≡ packed_time (to_z w64 (of_z w64 (int_div (to_z w64 (of_z w64 t)) (pos unit)))) (to_z w64 (of_z w64 (to_z w64 (of_z w64 (int_rem (to_z w64 (of_z w64 t)) (pos unit))) *ℤ pos unit_micros)))
      → r ≡ packed_signed unit unit_micros z
  time_is t z r same h is =
      let fz : FitsSigned w64 z = fits_signed_from_abs w64 z (omega (arith, h, small)) in
      let below = rem_below z (pos unit) some in
      let fq = quot_fits w64 z (pos unit) fz (omega (arith, ints, some)) in
      let fr = fits_signed_from_abs w64 (int_rem z (pos unit)) (omega (arith, below, few)) in
      let fw = fits_signed_mul w64 (int_rem z (pos unit)) (pos unit_micros) unit unit_micros (omega (arith, below)) (omega arith) product in
      is ∙ rw (same, to_z-of_z w64 z fz, to_z-of_z w64 (int_div z (pos unit)) fq, to_z-of_z w64 (int_rem z (pos unit)) fr, to_z-of_z w64 (int_rem z (pos unit) *ℤ pos unit_micros) fw) (signed_is z h)

pub hundredths : (t z r : ℤ) → t ≡ z → unsigned_abs z < 4294967296
    → r ≡ packed_time (to_z w64 (of_z w64 (int_div (to_z w64 (of_z w64 t)) (pos 256)))) (to_z w64 (of_z w64 (to_z w64 (of_z w64 (int_rem (to_z w64 (of_z w64 t)) (pos 256))) *ℤ pos 10000)))
    → r ≡ packed_signed 256 10000 z
hundredths t z r same h is =
    time_is 256 10000 4294967296 (omega arith) (omega arith) (omega arith) (omega arith) (λ r. omega (arith, ints)) (λ m h. omega (arith, h)) t z r same h is

pub ten_thousandths : (t z r : ℤ) → t ≡ z → unsigned_abs z < 1099511627776
    → r ≡ packed_time (to_z w64 (of_z w64 (int_div (to_z w64 (of_z w64 t)) (pos 65536)))) (to_z w64 (of_z w64 (to_z w64 (of_z w64 (int_rem (to_z w64 (of_z w64 t)) (pos 65536))) *ℤ pos 100)))
    → r ≡ packed_signed 65536 100 z
ten_thousandths t z r same h is =
    time_is 65536 100 1099511627776 (omega arith) (omega arith) (omega arith) (omega arith) (λ r. omega (arith, ints)) (λ m h. omega (arith, h)) t z r same h is

-- whole seconds
whole_is : (z : ℤ) → unsigned_abs z < 16777216 → packed_time_int z ≡ packed_signed 1 1000000 z
whole_is (pos m) h =
    let e : m * 16777216 ≡ packed_parts 1 1000000 m = omega arith in
    int_wrap_fits w64 _ (fits_pos (m * 16777216) (omega (arith, h))) ∙ ap pos e
whole_is (negsuc m) h =
    let e : suc m * 16777216 ≡ packed_parts 1 1000000 (suc m) = omega arith in
    let s : negsuc m *ℤ pos 16777216 ≡ neg_ℤ (pos (suc m * 16777216)) = omega (arith, ints) in
    ap (int_wrap w64) s ∙ int_wrap_fits w64 _ (fits_neg (suc m * 16777216) (omega (arith, h))) ∙ ap (λ n. neg_ℤ (pos n)) e

pub seconds : (t z r : ℤ) → t ≡ z → unsigned_abs z < 16777216 → r ≡ packed_time_int (to_z w64 (of_z w64 t)) → r ≡ packed_signed 1 1000000 z
seconds t z r same h is =
    let fz : FitsSigned w64 z = fits_signed_from_abs w64 z (omega (arith, h)) in
    is ∙ rw (same, to_z-of_z w64 z fz) (whole_is z h)
