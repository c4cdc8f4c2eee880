-- Dates by years that begin in March.
use Rattle.std.proofs.Common.{◌≡◌, ℕ, zero, suc, ◌+◌, ◌-◌, ◌*◌, ◌/◌, ◌%◌, ◌<◌, ◌≤◌, Bool, true, false, not, ◌&&◌, ◌||◌, eqb, ltb, leb, eqb→eq, T, List, [], ◌∷◌, take, get_or, refl, sym, ap, ◌∙◌, subst, arith, add-one}
use Rattle.std.specs.Prelude.{◌==◌, if◌then◌else◌, slice_index}
use Rattle.std.specs.List.{sum}
use Rattle.std.proofs.lemmas.Bool.{eqb-true, false≢true, lt-ltb}
use Rattle.std.proofs.Math.Facts.{ltb_yes, leb_yes}
use Rattle.feed_writers.specs.declared.times.Day.{Day}
use Rattle.feed_writers.proofs.PlainLemmas.{upto_sound}
use Rattle.changes_writers.specs.CivilDates.{is_leap, month_lengths, days_before_year, day_number, second_number, IsDate}
use Rattle.changes_writers.specs.MarchYears.{march_days}

-- ---- leap years
data Remainder (y : ℕ) : Type 0 where
  common : is_leap y ≡ false → (y % 4 ≡ 0 → ⊥) → Remainder y
  century : is_leap y ≡ false → y % 100 ≡ 0 → (y % 400 ≡ 0 → ⊥) → Remainder y
  fourth : is_leap y ≡ true → y % 4 ≡ 0 → (y % 100 ≡ 0 → ⊥) → Remainder y
  whole : is_leap y ≡ true → y % 400 ≡ 0 → Remainder y

no : (n : ℕ) → (n == 0) ≡ false → n ≡ 0 → ⊥
no n h e = false≢true (sym h ∙ ap (λ (k : ℕ). k == 0) e)

remainder : (y : ℕ) → Remainder y
unfolding is_leap
remainder y = go (y % 4 == 0) (y % 100 == 0) (y % 400 == 0) refl refl refl
  where
    go : (a b d : Bool) → (y % 4 == 0) ≡ a → (y % 100 == 0) ≡ b → (y % 400 == 0) ≡ d → Remainder y
    go false b d p q r = common (rw p refl) (no (y % 4) p)
    go true true true p q r = whole (rw (p, q, r) refl) (eqb-true _ 0 r)
    go true true false p q r = century (rw (p, q, r) refl) (eqb-true _ 0 q) (no (y % 400) r)
    go true false d p q r = fourth (rw (p, q) refl) (eqb-true _ 0 p) (no (y % 100) q)

abbrev leap_days : ℕ → ℕ
leap_days y = if is_leap y then 1 else 0

-- the leap years before y, by divisions
abbrev fours : ℕ → ℕ
fours y = (y + 3) / 4

abbrev hundreds : ℕ → ℕ
hundreds y = (y + 99) / 100

abbrev four_hundreds : ℕ → ℕ
four_hundreds y = (y + 399) / 400

leap_step : (y : ℕ) → fours (suc y) + four_hundreds (suc y) + hundreds y ≡ fours y + four_hundreds y + hundreds (suc y) + leap_days y
leap_step y = go (remainder y)
  where
    go : Remainder y → fours (suc y) + four_hundreds (suc y) + hundreds y ≡ fours y + four_hundreds y + hundreds (suc y) + leap_days y
    go (common e p) = rw e (omega arith)
    go (century e p q) = rw e (omega arith)
    go (fourth e p q) = rw e (omega arith)
    go (whole e p) = rw e (omega arith)

year_len : (y : ℕ) → (if is_leap y then 366 else 365) ≡ 365 + leap_days y
year_len y = go (is_leap y)
  where
    go : (b : Bool) → (if b then 366 else 365) ≡ 365 + (if b then 1 else 0)
    go true = refl
    go false = refl

-- the days before a year, by divisions
pub days_closed : (y : ℕ) → days_before_year y + hundreds y ≡ 365 * y + fours y + four_hundreds y
unfolding days_before_year
days_closed zero = refl
days_closed (suc y) = let l = leap_step y in let n = year_len y in omega (arith, days_closed y, l, n)

-- the first of March, 59 or 60 days after the first of January
pub march_first : (y : ℕ) → days_before_year y + 59 + leap_days y ≡ march_days y + 60
march_first y = let l = leap_step y in omega (arith, days_closed y, l)

-- the first of January before it
pub january_first : (y : ℕ) → days_before_year (suc y) ≡ march_days y + 366
unfolding days_before_year
january_first y = let n = year_len y in omega (arith, march_first y, n)

-- ---- the last day of a year of 366 days
-- the year before March of a leap year
pub last_day : (c r y n : ℕ) → c ≡ (4 * n + 3) / 146097 → r ≡ (4 * n + 3) % 146097 / 4 → y ≡ (4 * r + 3) / 1461 → (4 * r + 3) % 1461 / 4 ≡ 365 → is_leap (100 * c + y + 1) ≡ true
last_day c r y n is_c is_r is_y e =
    let all : 4 * r + 3 ≡ 1461 * y + 1460 = omega (arith, is_y, e) in
    let third : y % 4 ≡ 3 = omega (arith, all) in
    let few : r ≤ 36524 = omega (arith, is_r) in
    let most : y ≤ 99 = omega (arith, all, few) in
    let four : (100 * c + y + 1) % 4 ≡ 0 = omega (arith, third) in
    go (remainder (100 * c + y + 1)) all most four
  where
    go : Remainder (100 * c + y + 1) → 4 * r + 3 ≡ 1461 * y + 1460 → y ≤ 99 → (100 * c + y + 1) % 4 ≡ 0 → is_leap (100 * c + y + 1) ≡ true
    go (common f p) all most four = absurd (p four)
    go (century f p q) all most four =
        let last : y ≡ 99 = omega (arith, p, most) in
        let rest : r ≡ 36524 = omega (arith, all, last) in
        let end : (4 * n + 3) % 146097 ≡ 146096 = omega (arith, is_r, rest) in
        let third : c % 4 ≡ 3 = omega (arith, is_c, end) in
        let whole : (100 * c + y + 1) % 400 ≡ 0 = omega (arith, last, third) in
        absurd (q whole)
    go (fourth f p q) all most four = f
    go (whole f p) all most four = f

-- ---- the months
abbrev lengths : Bool → List ℕ
lengths b = 31 ∷ (if b then 29 else 28) ∷ 31 ∷ 30 ∷ 31 ∷ 30 ∷ 31 ∷ 31 ∷ 30 ∷ 31 ∷ 30 ∷ 31 ∷ []

abbrev month_of : ℕ → ℕ
month_of o = (5 * o + 2) / 153

abbrev before : ℕ → ℕ
before m = (153 * m + 2) / 5

-- of a day from March to December, and of one in January or February
abbrev is_early : Bool → ℕ → Bool
is_early b o = leb (before (month_of o)) o && (eqb (sum (take (month_of o + 2) (lengths b))) (59 + (if b then 1 else 0) + before (month_of o)) && leb (o - before (month_of o) + 1) (get_or (lengths b) (month_of o + 2) 0))

abbrev is_late : Bool → ℕ → Bool
is_late b o =
    leb (before (month_of o)) o && (eqb (sum (take (month_of o - 10) (lengths b)) + 306) (before (month_of o)) && (leb (month_of o) 11 && (leb (o - before (month_of o) + 1) (get_or (lengths b) (month_of o - 10) 0) || (not b && eqb o 365))))

abbrev is_placed : Bool → ℕ → Bool
is_placed b o = if ltb (month_of o) 10 then is_early b o else is_late b o

placed : (b : Bool) (o : ℕ) → o < 366 → T (is_placed b o)
placed true o h = upto_sound (is_placed true) 366 tt o h
placed false o h = upto_sound (is_placed false) 366 tt o h

parts : (a b : Bool) → T (a && b) → T a × T b
parts true b h = (tt, h)
parts false b h = absurd h

pub record Early (y o : ℕ) : Type 0 where
  pub from : before (month_of o) ≤ o
  pub months : sum (take (month_of o + 2) (month_lengths y)) ≡ 59 + leap_days y + before (month_of o)
  pub day : o - before (month_of o) + 1 ≤ slice_index (month_lengths y) (month_of o + 2)

pub record Late (y o : ℕ) : Type 0 where
  pub from : before (month_of o) ≤ o
  pub months : sum (take (month_of o - 10) (month_lengths y)) + 306 ≡ before (month_of o)
  pub month : month_of o ≤ 11
  pub day : o - before (month_of o) + 1 ≤ slice_index (month_lengths y) (month_of o - 10)

pub early : (y o : ℕ) → o ≤ 365 → month_of o < 10 → Early y o
unfolding month_lengths
early y o few h =
    let t : T (is_early (is_leap y) o) = subst (λ (p : Bool). T (if p then is_early (is_leap y) o else is_late (is_leap y) o)) (lt-ltb (month_of o) 10 h) (placed (is_leap y) o (omega (arith, few))) in
    let first = parts _ _ t in
    let second = parts _ _ first.1 in
    record { from = leb_yes first.0; months = eqb→eq _ _ second.0; day = leb_yes second.1 }

pub late : (y o : ℕ) → o ≤ 365 → (month_of o < 10 → ⊥) → (o ≡ 365 → is_leap y ≡ true) → Late y o
unfolding month_lengths
late y o few h last =
    let t : T (is_late (is_leap y) o) = go (ltb (month_of o) 10) refl (placed (is_leap y) o (omega (arith, few))) in
    let first = parts _ _ t in
    let second = parts _ _ first.1 in
    let third = parts _ _ second.1 in
    record { from = leb_yes first.0; months = eqb→eq _ _ second.0; month = leb_yes third.0; day = leb_yes (at_end (leb (o - before (month_of o) + 1) (get_or (lengths (is_leap y)) (month_of o - 10) 0)) (is_leap y) last third.1) }
  where
    go : (p : Bool) → ltb (month_of o) 10 ≡ p → T (if p then is_early (is_leap y) o else is_late (is_leap y) o) → T (is_late (is_leap y) o)
    go true e t = absurd (h (ltb_yes (subst T (sym e) tt)))
    go false e t = t

    at_end : (a b : Bool) → (o ≡ 365 → b ≡ true) → T (a || (not b && eqb o 365)) → T a
    at_end true b l t = tt
    at_end false true l t = absurd t
    at_end false false l t = absurd (false≢true (l (eqb→eq _ _ t)))

-- ---- the date
pub early_number : (y o m d : ℕ) → Early y o → m ≡ month_of o + 3 → d ≡ o - before (month_of o) + 1 → day_number (record { year = y; month = m; day = d }) ≡ march_days y + o + 60
unfolding day_number
early_number y o m d h e f =
    let at : m - 1 ≡ month_of o + 2 = omega (arith, e) in
    let rest : d - 1 ≡ o - before (month_of o) = omega (arith, f) in
    let months : sum (take (m - 1) (month_lengths y)) ≡ 59 + leap_days y + before (month_of o) = ap (λ (k : ℕ). sum (take k (month_lengths y))) at ∙ h.months in
    omega (arith, months, rest, h.from, march_first y)

pub late_number : (y o m d : ℕ) → Late (y + 1) o → m ≡ month_of o - 9 → 10 ≤ month_of o → d ≡ o - before (month_of o) + 1 → day_number (record { year = y + 1; month = m; day = d }) ≡ march_days y + o + 60
unfolding day_number
late_number y o m d h e ten f =
    let at : m - 1 ≡ month_of o - 10 = omega (arith, e, ten) in
    let rest : d - 1 ≡ o - before (month_of o) = omega (arith, f) in
    let months : sum (take (m - 1) (month_lengths (y + 1))) + 306 ≡ before (month_of o) = ap (λ (k : ℕ). sum (take k (month_lengths (y + 1))) + 306) at ∙ h.months in
    let first : days_before_year (y + 1) ≡ march_days y + 366 = ap days_before_year (add-one y) ∙ january_first y in
    omega (arith, months, rest, h.from, first)

pub early_date : (y o m d : ℕ) → Early y o → month_of o < 10 → m ≡ month_of o + 3 → d ≡ o - before (month_of o) + 1 → IsDate (record { year = y; month = m; day = d })
early_date y o m d h few e f =
    let at : month_of o + 2 ≡ m - 1 = omega (arith, e) in
    record {
      month = (omega (arith, e), omega (arith, e, few));
      day = (omega (arith, f), subst (λ (k : ℕ). k ≤ slice_index (month_lengths y) (m - 1)) (sym f) (subst (λ (k : ℕ). o - before (month_of o) + 1 ≤ slice_index (month_lengths y) k) at h.day));
    }

pub late_date : (y o m d : ℕ) → Late y o → 10 ≤ month_of o → m ≡ month_of o - 9 → d ≡ o - before (month_of o) + 1 → IsDate (record { year = y; month = m; day = d })
late_date y o m d h ten e f =
    let at : month_of o - 10 ≡ m - 1 = omega (arith, e, ten) in
    record {
      month = (omega (arith, e, ten), omega (arith, e, h.month));
      day = (omega (arith, f), subst (λ (k : ℕ). k ≤ slice_index (month_lengths y) (m - 1)) (sym f) (subst (λ (k : ℕ). o - before (month_of o) + 1 ≤ slice_index (month_lengths y) k) at h.day));
    }

pub second_is : (n u : ℕ) (d : Day) → day_number d ≡ n / 86400 + 60 → second_number d (record { hour = n % 86400 / 3600; minute = n % 86400 / 60 % 60; second = n % 86400 % 60; micros = u }) ≡ n + 5184000
unfolding second_number
second_is n u d h = omega (arith, h)

pub until_1970 : days_before_year 1970 ≡ 719528
until_1970 = omega (arith, days_closed 1970)
