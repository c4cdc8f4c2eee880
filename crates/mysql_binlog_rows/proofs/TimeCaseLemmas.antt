-- A TIME2 by cases, and packed times and dates by the bits of their fields.
use Rattle.std.proofs.Common.{◌≡◌, ◌<◌, ◌≤◌, ◌^◌, ◌*◌, ◌+◌, ◌-◌, ◌/◌, ◌%◌, ℕ, zero, suc, ℤ, pos, negsuc, ◌+ℤ◌, ◌-ℤ◌, ◌*ℤ◌, neg_ℤ, true, false, List, drop, ◌⊎◌, inl, inr, arith, ap, sym, refl, ◌∙◌}
use Rattle.std.proofs.lemmas.Bool.Decides.{leb_tells}
use Rattle.std.specs.Prelude.{int_lt}
use Rattle.std.proofs.lemmas.Int.{ints, int_wrap_fits}
use Rattle.std.proofs.lemmas.List.{get_or-drop}
use Rattle.std.specs.Int.{w64, int_wrap}
use Rattle.byteorder.specs.Endian.{big_number}
use Rattle.byteorder.specs.Numbers.{big_from-lt}
use Rattle.wire_buf.specs.Encoding.{AreBytes}
use Rattle.rows_packed_times.specs.PackedTimes.{packed_time, packed_signed, time2}
use Rattle.rows_values.specs.declared.times.mysql_time.MysqlTimestampType.{MysqlTimestampType}
use Rattle.rows_values.specs.declared.times.mysql_time.MysqlTimestampType.TheVariants.{MYSQL_TIMESTAMP_TIME}
use Rattle.rows_values.specs.TimeFields.{span_fields, date_fields}
use Rattle.rows_values.specs.TimeBits.{span_number, span_time, date_number, date_time}
use Rattle.rows_packed_times.proofs.PackedLemmas.{fits_pos, fits_neg}

-- ---- one number and its two parts

split : (n : ℕ) (xs : List ℕ) → n ≤ 3 → big_number (3 + n) xs ≡ big_number 3 xs * 256 ^ n + big_number n (drop 3 xs)
split zero xs h = omega arith
split (suc zero) xs h = omega (arith, get_or-drop 3 xs 0 0)
split (suc (suc zero)) xs h = omega (arith, get_or-drop 3 xs 0 0, get_or-drop 3 xs 1 0)
split (suc (suc (suc zero))) xs h = omega (arith, get_or-drop 3 xs 0 0, get_or-drop 3 xs 1 0, get_or-drop 3 xs 2 0)
split (suc (suc (suc (suc n)))) xs h = absurd (omega (arith, h))

-- ---- the parts of a magnitude

above : (unit unit_micros a f m : ℕ) (z i : ℤ) → z ≡ pos m → m / unit ≡ a → m % unit ≡ f → i ≡ pos a → a * 16777216 + f * unit_micros < 9223372036854775808
    → packed_signed unit unit_micros z ≡ packed_time i (pos (f * unit_micros))
above unit unit_micros a f m z i is whole part first small =
    ap (packed_signed unit unit_micros) is
    ∙ ap (λ q. pos (q * 16777216 + m % unit * unit_micros)) whole ∙ ap (λ r. pos (a * 16777216 + r * unit_micros)) part
    ∙ sym (int_wrap_fits w64 (pos (a * 16777216 + f * unit_micros)) (fits_pos (a * 16777216 + f * unit_micros) small))
    ∙ ap (λ k. packed_time k (pos (f * unit_micros))) (sym first)

below : (unit unit_micros a g k : ℕ) (z i f : ℤ) → z ≡ negsuc k → suc k / unit ≡ a → suc k % unit ≡ g → i ≡ neg_ℤ (pos a) → f ≡ neg_ℤ (pos (g * unit_micros)) → a * 16777216 + g * unit_micros < 9223372036854775808
    → packed_signed unit unit_micros z ≡ packed_time i f
below unit unit_micros a g k z i f is whole part first second small =
    let p : ℕ = a * 16777216 + g * unit_micros in
    let sum : (neg_ℤ (pos a) *ℤ pos 16777216) +ℤ neg_ℤ (pos (g * unit_micros)) ≡ neg_ℤ (pos p) =
    let e : neg_ℤ (pos a) *ℤ pos 16777216 ≡ neg_ℤ (pos (a * 16777216)) = omega (arith, ints) in
    let s : neg_ℤ (pos (a * 16777216)) +ℤ neg_ℤ (pos (g * unit_micros)) ≡ neg_ℤ (pos p) = omega (arith, ints) in
    rw e s in
    ap (packed_signed unit unit_micros) is
    ∙ ap (λ q. neg_ℤ (pos (q * 16777216 + suc k % unit * unit_micros))) whole ∙ ap (λ r. neg_ℤ (pos (a * 16777216 + r * unit_micros))) part
    ∙ sym (int_wrap_fits w64 (neg_ℤ (pos p)) (fits_neg p small)) ∙ ap (int_wrap w64) (sym sum)
    ∙ ap (λ j. packed_time j (neg_ℤ (pos (g * unit_micros)))) (sym first) ∙ ap (packed_time i) (sym second)

-- 0 bytes of fraction
from_zero-0 : (h f m : ℕ) → h < 16777216 → f < 1 → m ≡ h * 1 + f → (8388608 ≤ h) ⊎ (f ≡ 0) → packed_signed 1 1000000 (pos m -ℤ pos 8388608) ≡ packed_time (pos h -ℤ pos 8388608) (pos (f * 1000000))
from_zero-0 h f m a b e which = elim (leb_tells 8388608 h) [
  | inl t ↦
      let high = t.1 in
      above 1 1000000 (h - 8388608) f (m - 8388608) (pos m -ℤ pos 8388608) (pos h -ℤ pos 8388608) (omega (arith, ints, e, high, b)) (omega (arith, e, high, b)) (omega (arith, e, high, b)) (omega (arith, ints, high)) (omega (arith, a, b))
  | inr t ↦
      let low = t.1 in
      let none : f ≡ 0 = elim which [ inl y ↦ absurd (omega (arith, y, low)) | inr z ↦ z ] in
      below 1 1000000 (8388608 - h) 0 (8388608 - m - 1) (pos m -ℤ pos 8388608) (pos h -ℤ pos 8388608) (pos (f * 1000000)) (omega (arith, ints, e, none, low)) (omega (arith, e, none, low)) (omega (arith, e, none, low)) (omega (arith, ints, low))
      (ap (λ k. pos (k * 1000000)) none) (omega (arith, low))
]

below_zero-0 : (h f m : ℕ) → h < 8388608 → 0 < f → f < 1 → m ≡ h * 1 + f → packed_signed 1 1000000 (pos m -ℤ pos 8388608) ≡ packed_time ((pos h -ℤ pos 8388608) +ℤ pos 1) ((pos f -ℤ pos 1) *ℤ pos 1000000)
below_zero-0 h f m low some b e =
    below 1 1000000 (8388607 - h) (1 - f) (8388608 - m - 1) (pos m -ℤ pos 8388608) ((pos h -ℤ pos 8388608) +ℤ pos 1) ((pos f -ℤ pos 1) *ℤ pos 1000000) (omega (arith, ints, e, some, b, low)) (omega (arith, e, some, b, low)) (omega (arith, e, some, b, low))
    (omega (arith, ints, low)) (omega (arith, ints, some, b)) (omega (arith, low, some, b))

-- 1 byte of fraction
from_zero-1 : (h f m : ℕ) → h < 16777216 → f < 256 → m ≡ h * 256 + f → (8388608 ≤ h) ⊎ (f ≡ 0) → packed_signed 256 10000 (pos m -ℤ pos 2147483648) ≡ packed_time (pos h -ℤ pos 8388608) (pos (f * 10000))
from_zero-1 h f m a b e which = elim (leb_tells 8388608 h) [
  | inl t ↦
      let high = t.1 in
      above 256 10000 (h - 8388608) f (m - 2147483648) (pos m -ℤ pos 2147483648) (pos h -ℤ pos 8388608) (omega (arith, ints, e, high, b)) (omega (arith, e, high, b)) (omega (arith, e, high, b)) (omega (arith, ints, high)) (omega (arith, a, b))
  | inr t ↦
      let low = t.1 in
      let none : f ≡ 0 = elim which [ inl y ↦ absurd (omega (arith, y, low)) | inr z ↦ z ] in
      below 256 10000 (8388608 - h) 0 (2147483648 - m - 1) (pos m -ℤ pos 2147483648) (pos h -ℤ pos 8388608) (pos (f * 10000)) (omega (arith, ints, e, none, low)) (omega (arith, e, none, low)) (omega (arith, e, none, low)) (omega (arith, ints, low))
      (ap (λ k. pos (k * 10000)) none) (omega (arith, low))
]

below_zero-1 : (h f m : ℕ) → h < 8388608 → 0 < f → f < 256 → m ≡ h * 256 + f → packed_signed 256 10000 (pos m -ℤ pos 2147483648) ≡ packed_time ((pos h -ℤ pos 8388608) +ℤ pos 1) ((pos f -ℤ pos 256) *ℤ pos 10000)
below_zero-1 h f m low some b e =
    below 256 10000 (8388607 - h) (256 - f) (2147483648 - m - 1) (pos m -ℤ pos 2147483648) ((pos h -ℤ pos 8388608) +ℤ pos 1) ((pos f -ℤ pos 256) *ℤ pos 10000) (omega (arith, ints, e, some, b, low)) (omega (arith, e, some, b, low)) (omega (arith, e, some, b, low))
    (omega (arith, ints, low)) (omega (arith, ints, some, b)) (omega (arith, low, some, b))

-- 2 bytes of fraction
from_zero-2 : (h f m : ℕ) → h < 16777216 → f < 65536 → m ≡ h * 65536 + f → (8388608 ≤ h) ⊎ (f ≡ 0) → packed_signed 65536 100 (pos m -ℤ pos 549755813888) ≡ packed_time (pos h -ℤ pos 8388608) (pos (f * 100))
from_zero-2 h f m a b e which = elim (leb_tells 8388608 h) [
  | inl t ↦
      let high = t.1 in
      above 65536 100 (h - 8388608) f (m - 549755813888) (pos m -ℤ pos 549755813888) (pos h -ℤ pos 8388608) (omega (arith, ints, e, high, b)) (omega (arith, e, high, b)) (omega (arith, e, high, b)) (omega (arith, ints, high)) (omega (arith, a, b))
  | inr t ↦
      let low = t.1 in
      let none : f ≡ 0 = elim which [ inl y ↦ absurd (omega (arith, y, low)) | inr z ↦ z ] in
      below 65536 100 (8388608 - h) 0 (549755813888 - m - 1) (pos m -ℤ pos 549755813888) (pos h -ℤ pos 8388608) (pos (f * 100)) (omega (arith, ints, e, none, low)) (omega (arith, e, none, low)) (omega (arith, e, none, low)) (omega (arith, ints, low))
      (ap (λ k. pos (k * 100)) none) (omega (arith, low))
]

below_zero-2 : (h f m : ℕ) → h < 8388608 → 0 < f → f < 65536 → m ≡ h * 65536 + f → packed_signed 65536 100 (pos m -ℤ pos 549755813888) ≡ packed_time ((pos h -ℤ pos 8388608) +ℤ pos 1) ((pos f -ℤ pos 65536) *ℤ pos 100)
below_zero-2 h f m low some b e =
    below 65536 100 (8388607 - h) (65536 - f) (549755813888 - m - 1) (pos m -ℤ pos 549755813888) ((pos h -ℤ pos 8388608) +ℤ pos 1) ((pos f -ℤ pos 65536) *ℤ pos 100) (omega (arith, ints, e, some, b, low)) (omega (arith, e, some, b, low)) (omega (arith, e, some, b, low))
    (omega (arith, ints, low)) (omega (arith, ints, some, b)) (omega (arith, low, some, b))

-- 3 bytes of fraction
from_zero-3 : (h f m : ℕ) → h < 16777216 → f < 16777216 → m ≡ h * 16777216 + f → (8388608 ≤ h) ⊎ (f ≡ 0) → packed_signed 16777216 1 (pos m -ℤ pos 140737488355328) ≡ packed_time (pos h -ℤ pos 8388608) (pos (f * 1))
from_zero-3 h f m a b e which = elim (leb_tells 8388608 h) [
  | inl t ↦
      let high = t.1 in
      above 16777216 1 (h - 8388608) f (m - 140737488355328) (pos m -ℤ pos 140737488355328) (pos h -ℤ pos 8388608) (omega (arith, ints, e, high, b)) (omega (arith, e, high, b)) (omega (arith, e, high, b)) (omega (arith, ints, high)) (omega (arith, a, b))
  | inr t ↦
      let low = t.1 in
      let none : f ≡ 0 = elim which [ inl y ↦ absurd (omega (arith, y, low)) | inr z ↦ z ] in
      below 16777216 1 (8388608 - h) 0 (140737488355328 - m - 1) (pos m -ℤ pos 140737488355328) (pos h -ℤ pos 8388608) (pos (f * 1)) (omega (arith, ints, e, none, low)) (omega (arith, e, none, low)) (omega (arith, e, none, low)) (omega (arith, ints, low))
      (ap (λ k. pos (k * 1)) none) (omega (arith, low))
]

below_zero-3 : (h f m : ℕ) → h < 8388608 → 0 < f → f < 16777216 → m ≡ h * 16777216 + f → packed_signed 16777216 1 (pos m -ℤ pos 140737488355328) ≡ packed_time ((pos h -ℤ pos 8388608) +ℤ pos 1) ((pos f -ℤ pos 16777216) *ℤ pos 1)
below_zero-3 h f m low some b e =
    below 16777216 1 (8388607 - h) (16777216 - f) (140737488355328 - m - 1) (pos m -ℤ pos 140737488355328) ((pos h -ℤ pos 8388608) +ℤ pos 1) ((pos f -ℤ pos 16777216) *ℤ pos 1) (omega (arith, ints, e, some, b, low)) (omega (arith, e, some, b, low)) (omega (arith, e, some, b, low))
    (omega (arith, ints, low)) (omega (arith, ints, some, b)) (omega (arith, low, some, b))

-- ---- a TIME2 by cases

module _ (xs : List ℕ) (are : AreBytes xs) where
  whole_below : big_number 3 xs < 16777216
  whole_below = big_from-lt 0 3 xs are

  part_below : (n : ℕ) → n ≤ 3 → big_number n (drop 3 xs) < 256 ^ n
  part_below n h = big_from-lt 0 n (drop 3 xs) (λ k. let e = get_or-drop 3 xs k 0 in let b = are (3 + k) in omega (arith, e, b))

  pub time-from_zero : (n : ℕ) → n ≤ 3 → (8388608 ≤ big_number 3 xs) ⊎ (big_number n (drop 3 xs) ≡ 0)
      → time2 n xs ≡ packed_time (pos (big_number 3 xs) -ℤ pos 8388608) (pos (big_number n (drop 3 xs) * 100 ^ (3 - n)))
  time-from_zero zero few which = from_zero-0 (big_number 3 xs) (big_number 0 (drop 3 xs)) (big_number 3 xs) whole_below (part_below 0 few) (split 0 xs few) which
  time-from_zero (suc zero) few which = from_zero-1 (big_number 3 xs) (big_number 1 (drop 3 xs)) (big_number 4 xs) whole_below (part_below 1 few) (split 1 xs few) which
  time-from_zero (suc (suc zero)) few which = from_zero-2 (big_number 3 xs) (big_number 2 (drop 3 xs)) (big_number 5 xs) whole_below (part_below 2 few) (split 2 xs few) which
  time-from_zero (suc (suc (suc zero))) few which = from_zero-3 (big_number 3 xs) (big_number 3 (drop 3 xs)) (big_number 6 xs) whole_below (part_below 3 few) (split 3 xs few) which
  time-from_zero (suc (suc (suc (suc n)))) few which = absurd (omega (arith, few))

  pub time-below_zero : (n : ℕ) → n ≤ 3 → big_number 3 xs < 8388608 → 0 < big_number n (drop 3 xs)
      → time2 n xs ≡ packed_time ((pos (big_number 3 xs) -ℤ pos 8388608) +ℤ pos 1) ((pos (big_number n (drop 3 xs)) -ℤ pos (256 ^ n)) *ℤ pos (100 ^ (3 - n)))
  time-below_zero zero few low some = below_zero-0 (big_number 3 xs) (big_number 0 (drop 3 xs)) (big_number 3 xs) low some (part_below 0 few) (split 0 xs few)
  time-below_zero (suc zero) few low some = below_zero-1 (big_number 3 xs) (big_number 1 (drop 3 xs)) (big_number 4 xs) low some (part_below 1 few) (split 1 xs few)
  time-below_zero (suc (suc zero)) few low some = below_zero-2 (big_number 3 xs) (big_number 2 (drop 3 xs)) (big_number 5 xs) low some (part_below 2 few) (split 2 xs few)
  time-below_zero (suc (suc (suc zero))) few low some = below_zero-3 (big_number 3 xs) (big_number 3 (drop 3 xs)) (big_number 6 xs) low some (part_below 3 few) (split 3 xs few)
  time-below_zero (suc (suc (suc (suc n)))) few low some = absurd (omega (arith, few))

-- ---- the bits of the fields

none_below : (n : ℕ) → int_lt (pos n) (pos 0) ≡ false
none_below n = elim (leb_tells (suc n) 0) [ inl t ↦ absurd (omega (arith, t.1)) | inr t ↦ t.0 ]

pub span-from_zero : (hour minute second micros : ℕ) → hour < 1024 → minute < 64 → second < 64 → micros < 16777216
    → span_fields (pos (span_number hour minute second micros)) ≡ span_time false hour minute second micros
span-from_zero hour minute second micros h m s u =
    let n : ℕ = span_number hour minute second micros in
    let w : ℕ = hour * 4096 + minute * 64 + second in
    let whole : n / 16777216 ≡ w = omega (arith, u) in
    let part : n % 16777216 ≡ micros = omega (arith, u) in
    let a : w / 4096 % 1024 ≡ hour = omega (arith, h, m, s) in
    let b : w / 64 % 64 ≡ minute = omega (arith, h, m, s) in
    let c : w % 64 ≡ second = omega (arith, s) in
    λ i. record {
      year = 0;
      month = 0;
      day = 0;
      hour = (ap (λ k. k / 4096 % 1024) whole ∙ a) i;
      minute = (ap (λ k. k / 64 % 64) whole ∙ b) i;
      second = (ap (λ k. k % 64) whole ∙ c) i;
      second_part = part i;
      neg = none_below n i;
      time_type = MYSQL_TIMESTAMP_TIME;
      time_zone_displacement = pos 0;
    }

span_below : (n hour minute second micros : ℕ) → n ≡ span_number hour minute second micros → 0 < n → hour < 1024 → minute < 64 → second < 64 → micros < 16777216
    → span_fields (neg_ℤ (pos n)) ≡ span_time true hour minute second micros
span_below zero hour minute second micros is some h m s u = absurd (omega (arith, some))
span_below (suc n) hour minute second micros is some h m s u =
    let w : ℕ = hour * 4096 + minute * 64 + second in
    let whole : suc n / 16777216 ≡ w = omega (arith, is, u) in
    let part : suc n % 16777216 ≡ micros = omega (arith, is, u) in
    let a : w / 4096 % 1024 ≡ hour = omega (arith, h, m, s) in
    let b : w / 64 % 64 ≡ minute = omega (arith, h, m, s) in
    let c : w % 64 ≡ second = omega (arith, s) in
    λ i. record {
      year = 0;
      month = 0;
      day = 0;
      hour = (ap (λ k. k / 4096 % 1024) whole ∙ a) i;
      minute = (ap (λ k. k / 64 % 64) whole ∙ b) i;
      second = (ap (λ k. k % 64) whole ∙ c) i;
      second_part = part i;
      neg = true;
      time_type = MYSQL_TIMESTAMP_TIME;
      time_zone_displacement = pos 0;
    }

pub span-below_zero : (hour minute second micros : ℕ) → 0 < span_number hour minute second micros → hour < 1024 → minute < 64 → second < 64 → micros < 16777216
    → span_fields (neg_ℤ (pos (span_number hour minute second micros))) ≡ span_time true hour minute second micros
span-below_zero hour minute second micros = span_below (span_number hour minute second micros) hour minute second micros refl

pub date-fields : (kind : MysqlTimestampType) (year month day hour minute second micros : ℕ) → month < 13 → day < 32 → hour < 32 → minute < 64 → second < 64 → micros < 16777216
    → date_fields kind (pos (date_number year month day hour minute second micros)) ≡ date_time kind year month day hour minute second micros
date-fields kind year month day hour minute second micros m d h n s u =
    let z : ℕ = date_number year month day hour minute second micros in
    let w : ℕ = hour * 4096 + minute * 64 + second in
    let days : ℕ = (year * 13 + month) * 32 + day in
    let few : w < 131072 = omega (arith, h, n, s) in
    let whole : z / 16777216 ≡ days * 131072 + w = omega (arith, u) in
    let part : z % 16777216 ≡ micros = omega (arith, u) in
    let above : z / 16777216 / 131072 ≡ days = omega (arith, whole, few) in
    let under : z / 16777216 % 131072 ≡ w = omega (arith, whole, few) in
    let months : days / 32 ≡ year * 13 + month = omega (arith, d) in
    λ i. record {
      year = (ap (λ k. k / 32 / 13) above ∙ ap (λ k. k / 13) months ∙ (let e : (year * 13 + month) / 13 ≡ year = omega (arith, m) in e)) i;
      month = (ap (λ k. k / 32 % 13) above ∙ ap (λ k. k % 13) months ∙ (let e : (year * 13 + month) % 13 ≡ month = omega (arith, m) in e)) i;
      day = (ap (λ k. k % 32) above ∙ (let e : days % 32 ≡ day = omega (arith, d) in e)) i;
      hour = (ap (λ k. k / 4096) under ∙ (let e : w / 4096 ≡ hour = omega (arith, n, s) in e)) i;
      minute = (ap (λ k. k / 64 % 64) under ∙ (let e : w / 64 % 64 ≡ minute = omega (arith, n, s) in e)) i;
      second = (ap (λ k. k % 64) under ∙ (let e : w % 64 ≡ second = omega (arith, s) in e)) i;
      second_part = part i;
      neg = none_below z i;
      time_type = kind;
      time_zone_displacement = pos 0;
    }
