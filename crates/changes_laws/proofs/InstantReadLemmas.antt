-- The text of an instant shows its seconds and microseconds.
use Rattle.std.proofs.Common.{◌≡◌, ℕ, zero, suc, ◌+◌, ◌*◌, ◌<◌, ◌≤◌, ◌^◌, Bool, true, false, List, [], ◌∷◌, ◌++◌, length, refl, sym, ap, ◌∙◌, subst, arith}
use Rattle.std.specs.Prelude.{ℤ, pos, negsuc, if◌then◌else◌}
use Rattle.std.specs.Fmt.{decimal}
use Rattle.std.proofs.lemmas.Bool.{false≢true}
use Rattle.std.proofs.lemmas.Fmt.{decimal_injective}
use lib.Signed.{mag}
use Rattle.feed_writers.specs.TimesOfDay.{day_text}
use Rattle.feed_writers.specs.declared.times.Clock.{Clock}
use Rattle.feed_writers.specs.declared.times.Day.{Day}
use Rattle.changes_writers.specs.CivilDates.{IsDate, days_before_year, day_number, second_number, is_leap}
use Rattle.changes_cells.specs.ShownTimes.{in_quotes, time_and_number, IsDatetimeWith, IsUtc, zero_datetime, IsInstant}
use Rattle.changes_laws.proofs.DateReadLemmas.{is_digit, Digits, Ends, IsSmallDay, clock3, fraction_of, fraction_ends, fraction_read, fraction_digits_after, clock_right, datetime_text, quotes_read, day_read, hours_read}

abbrev others : List ℕ → List ℕ
others [] = []
others (x ∷ xs) = xs

-- ---- what follows the seconds, of any microseconds
abbrev tail_of : ℕ → ℤ → List ℕ
tail_of digits (pos n) = fraction_of digits n
tail_of digits (negsuc n) = 46 ∷ 45 ∷ decimal (suc n)

tail_ends : (digits : ℕ) (z : ℤ) → Ends (tail_of digits z)
tail_ends digits (pos n) = fraction_ends digits n
tail_ends digits (negsuc n) = refl

pub no_sign : (l r : List ℕ) → Digits l → l ≡ 45 ∷ r → ⊥
no_sign [] r d e = absurd (let no = ap length e in omega (arith, no))
no_sign (x ∷ l) r d e = false≢true (subst (λ (b : List ℕ). first_digit b ≡ true) e d.0)
  where
    first_digit : List ℕ → Bool
    first_digit [] = false
    first_digit (b ∷ bs) = is_digit b

tails_read : (digits : ℕ) (y z : ℤ) → mag y < 2 ^ 63 → mag z < 2 ^ 63 → tail_of digits y ≡ tail_of digits z → y ≡ z
tails_read digits (pos m) (pos n) p q e = ap pos (fraction_read digits m n (omega (arith, p)) (omega (arith, q)) e)
tails_read digits (pos m) (negsuc n) p q e = absurd (no_sign (others (fraction_of digits m)) (decimal (suc n)) (fraction_digits_after digits m) (ap others e))
tails_read digits (negsuc m) (pos n) p q e = absurd (no_sign (others (fraction_of digits n)) (decimal (suc m)) (fraction_digits_after digits n) (ap others (sym e)))
tails_read digits (negsuc m) (negsuc n) p q e =
    let same = decimal_injective (suc m) (suc n) (omega (arith, p)) (omega (arith, q)) (ap others (ap others e)) in
    let less : m ≡ n = omega (arith, same) in
    ap negsuc less

abbrev instant_text : ℕ → Day → Clock → ℤ → List ℕ
instant_text digits d c z = in_quotes (day_text d ++ 32 ∷ clock3 c (tail_of digits z))

text_with : (digits : ℕ) (d : Day) (c : Clock) (z : ℤ) (x : List ℕ) → IsDatetimeWith digits d c z x → x ≡ instant_text digits d c z
unfolding time_and_number
text_with digits d c (pos n) x h = h.1 ∙ datetime_text digits d c ∙ ap (λ (k : ℕ). in_quotes (day_text d ++ 32 ∷ clock3 c (fraction_of digits k))) h.0
text_with digits d c (negsuc n) x h = h ∙ ap (λ (t : List ℕ). in_quotes (day_text d ++ 32 ∷ t)) (clock_right c (46 ∷ 45 ∷ decimal (suc n)))

-- ---- years aren't many
year_length : (y : ℕ) → (1 ≤ (if is_leap y then 366 else 365)) × ((if is_leap y then 366 else 365) ≤ 366)
year_length y = go (is_leap y)
  where
    go : (b : Bool) → (1 ≤ (if b then 366 else 365)) × ((if b then 366 else 365) ≤ 366)
    go true = (omega arith, omega arith)
    go false = (omega arith, omega arith)

years_between : (y : ℕ) → (y ≤ days_before_year y) × (days_before_year y ≤ 366 * y)
unfolding days_before_year
years_between zero = (omega arith, omega arith)
years_between (suc y) = (omega (arith, years_between y, year_length y), omega (arith, years_between y, year_length y))

small_day : (d : Day) (c : Clock) (seconds : ℕ) → IsDate d → second_number d c ≡ 86400 * days_before_year 1970 + seconds → seconds < 2 ^ 33 → IsSmallDay d
unfolding second_number day_number
small_day d c seconds date e h =
    let least = (years_between d.year).0 in
    let most = (years_between 1970).1 in
    record {
      year = omega (arith, e, least, most, h);
      month = omega (arith, date.month);
      day = omega (arith, e, least, most, h);
    }

-- ---- instants
same_number : (d e : Day) (c k : Clock) → d ≡ e → c.hour ≡ k.hour → c.minute ≡ k.minute → c.second ≡ k.second → second_number d c ≡ second_number e k
unfolding second_number
same_number d e c k u h i j = rw (u, h, i, j) refl

pub utc_read : (digits s t : ℕ) (y z : ℤ) (x : List ℕ) → s < 2 ^ 33 → t < 2 ^ 33 → mag y < 2 ^ 63 → mag z < 2 ^ 63 → IsUtc digits s y x → IsUtc digits t z x → (s ≡ t) × (y ≡ z)
utc_read digits s t y z x p q m n a b =
    let f = quotes_read (day_text a.day ++ 32 ∷ clock3 a.clock (tail_of digits y)) (day_text b.day ++ 32 ∷ clock3 b.clock (tail_of digits z)) (sym (text_with digits a.day a.clock y x a.text) ∙ text_with digits b.day b.clock z x b.text) in
    let g = day_read a.day b.day (32 ∷ clock3 a.clock (tail_of digits y)) (32 ∷ clock3 b.clock (tail_of digits z)) (small_day a.day a.clock s a.date a.value p) (small_day b.day b.clock t b.date b.value q) refl refl f in
    let i = hours_read a.clock b.clock (tail_of digits y) (tail_of digits z) (omega (arith, a.time.hour)) (omega (arith, b.time.hour)) (omega (arith, a.time.minute)) (omega (arith, b.time.minute)) (omega (arith, a.time.second)) (omega (arith, b.time.second)) (tail_ends digits y) (tail_ends digits z) (ap others g.1) in
    let total : 86400 * days_before_year 1970 + s ≡ 86400 * days_before_year 1970 + t = sym a.value ∙ same_number a.day b.day a.clock b.clock g.0 i.0 i.1 i.2 ∙ b.value in
    (omega (arith, total), tails_read digits y z m n i.3)

no_zero : (digits s : ℕ) (z : ℤ) (x : List ℕ) → s < 2 ^ 33 → IsUtc digits s z x → x ≡ zero_datetime digits → ⊥
no_zero digits s z x p a e =
    let zero_day : Day = record { year = 0; month = 0; day = 0 } in
    let zero_clock : Clock = record { hour = 0; minute = 0; second = 0; micros = 0 } in
    let small_zero : IsSmallDay zero_day = record { year = omega arith; month = omega arith; day = omega arith } in
    let f = quotes_read (day_text a.day ++ 32 ∷ clock3 a.clock (tail_of digits z)) (day_text zero_day ++ 32 ∷ clock3 zero_clock (fraction_of digits 0)) (sym (text_with digits a.day a.clock z x a.text) ∙ e ∙ datetime_text digits zero_day zero_clock) in
    let g = day_read a.day zero_day (32 ∷ clock3 a.clock (tail_of digits z)) (32 ∷ clock3 zero_clock (fraction_of digits 0)) (small_day a.day a.clock s a.date a.value p) small_zero refl refl f in
    let none : a.day.month ≡ 0 = ap (λ (d : Day). d.month) g.0 in
    absurd (omega (arith, none, a.date.month.0))

-- zero, or the date and time of a number of seconds
data Instant (digits s : ℕ) (z : ℤ) (x : List ℕ) : Type 0 where
  nothing : s ≡ 0 → z ≡ pos 0 → x ≡ zero_datetime digits → Instant digits s z x
  something : IsUtc digits s z x → Instant digits s z x

instant_of : (digits s : ℕ) (z : ℤ) (x : List ℕ) → IsInstant digits s z x → Instant digits s z x
unfolding IsInstant
instant_of digits zero (pos zero) x h = nothing refl refl h
instant_of digits zero (pos (suc n)) x h = something h
instant_of digits zero (negsuc n) x h = something h
instant_of digits (suc s) z x h = something h

pub instants_read : (digits s t : ℕ) (y z : ℤ) (x : List ℕ) → s < 2 ^ 33 → t < 2 ^ 33 → mag y < 2 ^ 63 → mag z < 2 ^ 63 → IsInstant digits s y x → IsInstant digits t z x → (s ≡ t) × (y ≡ z)
instants_read digits s t y z x p q m n a b = go (instant_of digits s y x a) (instant_of digits t z x b)
  where
    go : Instant digits s y x → Instant digits t z x → (s ≡ t) × (y ≡ z)
    go (nothing e f g) (nothing u v w) = (e ∙ sym u, f ∙ sym v)
    go (nothing e f g) (something u) = absurd (no_zero digits t z x q u g)
    go (something u) (nothing e f g) = absurd (no_zero digits s y x p u g)
    go (something u) (something v) = utc_read digits s t y z x p q m n u v

pub instant_quoted : (digits s : ℕ) (z : ℤ) (x : List ℕ) → IsInstant digits s z x → (t : List ℕ) × (x ≡ 34 ∷ t)
instant_quoted digits s z x h = go (instant_of digits s z x h)
  where
    go : Instant digits s z x → (t : List ℕ) × (x ≡ 34 ∷ t)
    go (nothing e f g) = (_, g ∙ datetime_text digits (record { year = 0; month = 0; day = 0 }) (record { hour = 0; minute = 0; second = 0; micros = 0 }))
    go (something u) = (_, text_with digits u.day u.clock z x u.text)
