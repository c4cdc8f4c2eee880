-- Days and microseconds since 1970.
use Rattle.std.proofs.Common.{◌≡◌, ℕ, suc, ◌+◌, ◌-◌, ◌*◌, ◌/◌, ◌%◌, ◌<◌, ◌≤◌, Bool, true, false, ◌&&◌, eqb, eqb→eq, T, List, [], ◌∷◌, take, get_or, refl, sym, ap, ◌∙◌, subst, arith}
use Rattle.std.specs.Prelude.{if◌then◌else◌, slice_index}
use Rattle.std.proofs.lemmas.Bool.Decides.{nat_tests}
use Rattle.std.specs.List.{sum}
use Rattle.feed_writers.specs.declared.times.Day.{Day}
use Rattle.feed_writers.proofs.PlainLemmas.{upto_sound}
use Rattle.changes_writers.specs.CivilDates.{is_leap, month_lengths, days_before_year, day_number, IsDate}
use Rattle.changes_writers.proofs.CalendarLemmas.{days_closed}
use Rattle.changes_formats.specs.EpochTimes.{IsOfCalendar}

abbrev lengths : Bool → List ℕ
lengths b = 31 ∷ (if b then 29 else 28) ∷ 31 ∷ 30 ∷ 31 ∷ 30 ∷ 31 ∷ 31 ∷ 30 ∷ 31 ∷ 30 ∷ 31 ∷ []

-- the days before each month
abbrev pub before_months : List ℕ
before_months = 0 ∷ 31 ∷ 59 ∷ 90 ∷ 120 ∷ 151 ∷ 181 ∷ 212 ∷ 243 ∷ 273 ∷ 304 ∷ 334 ∷ 365 ∷ []

abbrev pub before_leap_months : List ℕ
before_leap_months = 0 ∷ 31 ∷ 60 ∷ 91 ∷ 121 ∷ 152 ∷ 182 ∷ 213 ∷ 244 ∷ 274 ∷ 305 ∷ 335 ∷ 366 ∷ []

pub months_before : (y m : ℕ) → is_leap y ≡ false → m ≤ 12 → get_or before_months m 0 ≡ sum (take m (month_lengths y))
unfolding month_lengths
months_before y m e h = rw e (eqb→eq _ _ (upto_sound (λ k. eqb (get_or before_months k 0) (sum (take k (lengths false)))) 13 tt m (omega (arith, h))))

pub leap_months_before : (y m : ℕ) → is_leap y ≡ true → m ≤ 12 → get_or before_leap_months m 0 ≡ sum (take m (month_lengths y))
unfolding month_lengths
leap_months_before y m e h = rw e (eqb→eq _ _ (upto_sound (λ k. eqb (get_or before_leap_months k 0) (sum (take k (lengths true)))) 13 tt m (omega (arith, h))))

month_more_by : (b : Bool) (m : ℕ) → m < 12 → sum (take (m + 1) (lengths b)) ≡ sum (take m (lengths b)) + get_or (lengths b) m 0
month_more_by true m h = eqb→eq _ _ (upto_sound (λ k. eqb (sum (take (k + 1) (lengths true))) (sum (take k (lengths true)) + get_or (lengths true) k 0)) 12 tt m h)
month_more_by false m h = eqb→eq _ _ (upto_sound (λ k. eqb (sum (take (k + 1) (lengths false))) (sum (take k (lengths false)) + get_or (lengths false) k 0)) 12 tt m h)

-- the days before the next month
pub month_more : (y m : ℕ) → 1 ≤ m → m ≤ 12 → sum (take m (month_lengths y)) ≡ sum (take (m - 1) (month_lengths y)) + slice_index (month_lengths y) (m - 1)
unfolding month_lengths
month_more y m low high =
    let e : m - 1 + 1 ≡ m = omega (arith, low) in
    sym (ap (λ (k : ℕ). sum (take k (lengths (is_leap y)))) e) ∙ month_more_by (is_leap y) (m - 1) (omega (arith, low, high))

-- the days before a year
pub year_is : (y : ℕ) → 365 * y + (y + 3) / 4 + (y + 399) / 400 - (y + 99) / 100 ≡ days_before_year y
year_is y = omega (arith, days_closed y)

-- the number of a date
pub number_is : (d : Day) (before year n : ℕ) → before ≡ sum (take (d.month - 1) (month_lengths d.year)) → year ≡ days_before_year d.year → n ≡ year + before + (d.day - 1) → n ≡ day_number d
unfolding day_number
number_is d before year n b y e = omega (arith, b, y, e)

-- a date whose day isn't after the end of its month
pub is_of_calendar : (d : Day) → d.year ≤ 9999 → 1 ≤ d.month → d.month ≤ 12 → 1 ≤ d.day → d.day ≤ sum (take d.month (month_lengths d.year)) - sum (take (d.month - 1) (month_lengths d.year)) → IsOfCalendar d
is_of_calendar d year low high some few =
    let m = month_more d.year d.month low high in
    record { date = record { month = (low, high); day = (some, omega (arith, m, few)) }; year = year }

pub not_of_calendar : (d : Day) → 1 ≤ d.month → d.month ≤ 12 → sum (take d.month (month_lengths d.year)) - sum (take (d.month - 1) (month_lengths d.year)) < d.day → IsOfCalendar d → ⊥
not_of_calendar d low high many h =
    let m = month_more d.year d.month low high in
    let day = h.date.day.1 in
    omega (arith, m, many, day)

-- ---- leap years
leap_if : (b : Bool) → b && true ≡ b
leap_if true = refl
leap_if false = refl

pub leap_of_century : (y : ℕ) → y % 100 ≡ 0 → eqb (y % 400) 0 ≡ is_leap y
unfolding is_leap
leap_of_century y h = let four : y % 4 ≡ 0 = omega (arith, h) in rw (four, h) refl

pub leap_of_other : (y : ℕ) → (y % 100 ≡ 0 → ⊥) → eqb (y % 4) 0 ≡ is_leap y
unfolding is_leap
leap_of_other y h = let e : eqb (y % 100) 0 ≡ false = grind (arith, nat_tests) in rw e (sym (leap_if (eqb (y % 4) 0)))
