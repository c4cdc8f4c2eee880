-- A number of seconds is that of one date and time only.
use Rattle.std.proofs.Common.{◌≡◌, ℕ, zero, suc, ◌+◌, ◌-◌, ◌*◌, ◌<◌, ◌≤◌, Bool, true, false, not, ◌||◌, ltb, leb, T, List, [], ◌∷◌, take, get_or, sym, ap, ap₂, ◌∙◌, subst, arith, inl, inr}
use Rattle.std.specs.Prelude.{if◌then◌else◌}
use Rattle.std.specs.List.{sum}
use Rattle.std.proofs.lemmas.Bool.{cases_order, lt-ltb}
use Rattle.std.proofs.Math.Facts.{leb_yes}
use Rattle.feed_writers.specs.declared.times.Clock.{Clock}
use Rattle.feed_writers.specs.declared.times.Day.{Day}
use Rattle.feed_writers.proofs.PlainLemmas.{upto, upto_sound}
use Rattle.changes_writers.specs.CivilDates.{is_leap, month_lengths, days_before_year, day_number, second_number, IsDate, IsTimeOfDay}

abbrev lengths : Bool → List ℕ
lengths b = 31 ∷ (if b then 29 else 28) ∷ 31 ∷ 30 ∷ 31 ∷ 30 ∷ 31 ∷ 31 ∷ 30 ∷ 31 ∷ 30 ∷ 31 ∷ []

abbrev end_of : Bool → ℕ → ℕ
end_of b m = sum (take m (lengths b)) + get_or (lengths b) m 0

-- each month ends within its year, and before each later month begins
abbrev ends_within : Bool → ℕ → Bool
ends_within b m = leb (end_of b m) (if b then 366 else 365)

abbrev ends_before : Bool → ℕ → ℕ → Bool
ends_before b m n = not (ltb m n) || leb (end_of b m) (sum (take n (lengths b)))

within : (b : Bool) (m : ℕ) → m < 12 → end_of b m ≤ (if b then 366 else 365)
within true m h = leb_yes (upto_sound (ends_within true) 12 tt m h)
within false m h = leb_yes (upto_sound (ends_within false) 12 tt m h)

before : (b : Bool) (m n : ℕ) → m < 12 → n < 12 → m < n → end_of b m ≤ sum (take n (lengths b))
before b m n p q lt = leb_yes (subst (λ (k : Bool). T (not k || leb (end_of b m) (sum (take n (lengths b))))) (lt-ltb m n lt) (all b))
  where
    all : (k : Bool) → T (ends_before k m n)
    all true = upto_sound (ends_before true m) 12 (upto_sound (λ i. upto (ends_before true i) 12) 12 tt m p) n q
    all false = upto_sound (ends_before false m) 12 (upto_sound (λ i. upto (ends_before false i) 12) 12 tt m p) n q

abbrev later : ℕ → ℕ → ℕ
later zero y = y
later (suc k) y = suc (later k y)

later_is : (k y : ℕ) → later k y ≡ k + y
later_is zero y = omega arith
later_is (suc k) y = omega (arith, later_is k y)

year_more : (k y : ℕ) → days_before_year y ≤ days_before_year (later k y)
unfolding days_before_year
year_more zero y = omega arith
year_more (suc k) y = omega (arith, year_more k y)

year_after : (x y : ℕ) → x < y → days_before_year (suc x) ≤ days_before_year y
year_after x y lt =
    let e : later (y - suc x) (suc x) ≡ y = later_is (y - suc x) (suc x) ∙ (omega (arith, lt)) in
    subst (λ (k : ℕ). days_before_year (suc x) ≤ days_before_year k) e (year_more (y - suc x) (suc x))

-- the days before a date within its year
abbrev within_year : Day → ℕ
within_year d = sum (take (d.month - 1) (month_lengths d.year)) + (d.day - 1)

in_month : (d : Day) → IsDate d → within_year d < end_of (is_leap d.year) (d.month - 1)
unfolding month_lengths
in_month d h = omega (arith, h.day.0, h.day.1)

in_year : (d : Day) → IsDate d → day_number d < days_before_year (suc d.year)
unfolding day_number days_before_year
in_year d h = omega (arith, in_month d h, within (is_leap d.year) (d.month - 1) (omega (arith, h.month.0, h.month.1)))

no_earlier_year : (d e : Day) → IsDate d → day_number d ≡ day_number e → d.year < e.year → ⊥
unfolding day_number
no_earlier_year d e h same lt = absurd (omega (arith, same, in_year d h, year_after d.year e.year lt))

no_earlier_month : (d e : Day) → IsDate d → IsDate e → d.year ≡ e.year → within_year d ≡ within_year e → d.month < e.month → ⊥
unfolding month_lengths
no_earlier_month d e h k year same lt =
    let m = d.month - 1 in
    let n = e.month - 1 in
    let later : end_of (is_leap d.year) m ≤ sum (take n (lengths (is_leap e.year))) =
    subst (λ (y : ℕ). end_of (is_leap d.year) m ≤ sum (take n (lengths (is_leap y)))) year (before (is_leap d.year) m n (omega (arith, h.month.1)) (omega (arith, k.month.1)) (omega (arith, lt, h.month.0))) in
    absurd (omega (arith, same, in_month d h, later))

same_year : (d e : Day) → IsDate d → IsDate e → day_number d ≡ day_number e → d.year ≡ e.year
same_year d e h k same = elim (cases_order d.year e.year) [
  | inl f ↦ f
  | inr other ↦ elim other [
    | inl lt ↦ absurd (no_earlier_year d e h same lt)
    | inr gt ↦ absurd (no_earlier_year e d k (sym same) gt)
  ]
]

same_within : (d e : Day) → d.year ≡ e.year → day_number d ≡ day_number e → within_year d ≡ within_year e
unfolding day_number
same_within d e year same = let y = ap days_before_year year in omega (arith, same, y)

same_month : (d e : Day) → IsDate d → IsDate e → d.year ≡ e.year → within_year d ≡ within_year e → d.month ≡ e.month
same_month d e h k year same = elim (cases_order d.month e.month) [
  | inl f ↦ f
  | inr other ↦ elim other [
    | inl lt ↦ absurd (no_earlier_month d e h k year same lt)
    | inr gt ↦ absurd (no_earlier_month e d k h (sym year) (sym same) gt)
  ]
]

same_day : (d e : Day) → IsDate d → IsDate e → d.year ≡ e.year → d.month ≡ e.month → within_year d ≡ within_year e → d.day ≡ e.day
same_day d e h k year month same =
    let months : sum (take (d.month - 1) (month_lengths d.year)) ≡ sum (take (e.month - 1) (month_lengths e.year)) = ap₂ (λ (m y : ℕ). sum (take (m - 1) (month_lengths y))) month year in
    omega (arith, same, months, h.day.0, k.day.0)

pub dates_read : (d e : Day) → IsDate d → IsDate e → day_number d ≡ day_number e → d ≡ e
dates_read d e h k same =
    let year = same_year d e h k same in
    let rest = same_within d e year same in
    let month = same_month d e h k year rest in
    let day = same_day d e h k year month rest in
    ap (λ (y : ℕ). record { year = y; month = d.month; day = d.day }) year ∙ ap (λ (m : ℕ). record { year = e.year; month = m; day = d.day }) month ∙ ap (λ (n : ℕ). record { year = e.year; month = e.month; day = n }) day

pub seconds_read : (d e : Day) (c k : Clock) → IsDate d → IsDate e → IsTimeOfDay c → IsTimeOfDay k → second_number d c ≡ second_number e k → (d ≡ e) × (c.hour ≡ k.hour) × (c.minute ≡ k.minute) × (c.second ≡ k.second)
unfolding second_number
seconds_read d e c k h i p q same =
    let days : day_number d ≡ day_number e = omega (arith, same, p.hour, p.minute, p.second, q.hour, q.minute, q.second) in
    let rest : 3600 * c.hour + 60 * c.minute + c.second ≡ 3600 * k.hour + 60 * k.minute + k.second = omega (arith, same, days) in (
      dates_read d e h i days,
      omega (arith, rest, p.minute, p.second, q.minute, q.second),
      omega (arith, rest, p.minute, p.second, q.minute, q.second),
      omega (arith, rest, p.minute, p.second, q.minute, q.second),
    )
