-- The text of a date, a time, or both shows all their fields.
use Rattle.std.proofs.Common.{◌≡◌, ℕ, zero, suc, ◌+◌, ◌-◌, ◌/◌, ◌%◌, ◌<◌, ◌≤◌, ◌^◌, Bool, true, false, ◌&&◌, T, eqb, leb, ltb, eqb→eq, List, [], ◌∷◌, ◌++◌, length, take, replicate, refl, sym, ap, ap₂, ◌∙◌, subst, append_assoc, arith, inl, inr, length-append, Some}
use Rattle.std.specs.Prelude.{◌==◌, nat_lt, if◌then◌else◌, pos}
use Rattle.std.specs.Fmt.{decimal, digits, digits_onto, sign_text}
use Rattle.std.specs.Str.Parse.{digits_value}
use Rattle.std.proofs.Math.Facts.{ltb_yes}
use Rattle.std.proofs.Math.Seq.{take-append_seam}
use Rattle.std.proofs.lemmas.Bool.{cases_lt, false≢true}
use Rattle.std.proofs.lemmas.Fmt.{decimal_is_IsNumeral, decimal_injective, length-decimal-le}
use Rattle.std.proofs.lemmas.List.{append-nil, append_cancel_right, length-replicate, length-take, length-take-le, take-take, take_all}
use Rattle.std.proofs.lemmas.Int.Digits.{digits_value-lt}
use lib.Lanes.{Each1}
use Rattle.feed_writers.proofs.PlainLemmas.{upto_sound}
use Rattle.feed_writers.specs.TimesOfDay.{day_text}
use Rattle.feed_writers.specs.declared.times.Clock.{Clock}
use Rattle.feed_writers.specs.declared.times.Day.{Day}
use Rattle.rows_values.specs.TimeTexts.{micros_text, padded_decimal}
use Rattle.rows_values.proofs.TimeTextLemmas.{padded_more}
use Rattle.changes_writers.specs.TimeStrings.{date_json, datetime_json, duration_json, time_digits}
use Rattle.changes_cells.specs.ShownTimes.{in_quotes, shown_digits, time_and_number, numbered_datetime, shown_datetime, shown_duration}
use Rattle.changes_laws.proofs.PlainGrammarLemmas.{plain_append, plain_string, day_plain, time_plain, sign_plain}

-- ---- digits, and what isn't one
abbrev pub is_digit : ℕ → Bool
is_digit b = leb 48 b && ltb b 58

abbrev pub Digits : List ℕ → Type 0
Digits = Each1 (λ b. is_digit b ≡ true)

digits_append : (s t : List ℕ) → Digits s → Digits t → Digits (s ++ t)
digits_append [] t p q = q
digits_append (x ∷ s) t p q = (p.0, digits_append s t p.1 q)

true_of : (b : Bool) → T b → b ≡ true
true_of true h = refl
true_of false h = absurd h

glyph_digit : (n : ℕ) → n < 10 → is_digit (if ltb n 10 then 48 + n else 87 + n) ≡ true
glyph_digit n h = true_of _ (upto_sound (λ k. is_digit (if ltb k 10 then 48 + k else 87 + k)) 10 tt n h)

onto_digits : (k n : ℕ) (s : List ℕ) → Digits s → Digits (digits_onto k 10 false n s)
onto_digits zero n s p = p
onto_digits (suc k) n s p =
    let g = if ltb (n % 10) 10 then 48 + n % 10 else 87 + n % 10 in
    let q = glyph_digit (n % 10) (omega arith) in
    go (eqb (n / 10) 0) (g ∷ s) (digits_onto k 10 false (n / 10) (g ∷ s)) (q, p) (onto_digits k (n / 10) (g ∷ s) (q, p))
  where
    go : (b : Bool) (x y : List ℕ) → Digits x → Digits y → Digits (if b then x else y)
    go true x y h m = h
    go false x y h m = m

pub decimal_digits : (n : ℕ) → Digits (decimal n)
unfolding digits
decimal_digits n = onto_digits 64 n [] tt

zeros_digits : (k : ℕ) → Digits (replicate k 48)
zeros_digits zero = tt
zeros_digits (suc k) = (refl, zeros_digits k)

pub padded_digits : (w n : ℕ) → Digits (padded_decimal w n)
unfolding padded_decimal
padded_digits w n = digits_append (replicate (w - length (decimal n)) 48) (decimal n) (zeros_digits (w - length (decimal n))) (decimal_digits n)

abbrev first : List ℕ → ℕ
first [] = 0
first (x ∷ xs) = x

abbrev others : List ℕ → List ℕ
others [] = []
others (x ∷ xs) = xs

-- nothing, or what doesn't begin with a digit
abbrev pub Ends : List ℕ → Type 0
Ends s = is_digit (first s) ≡ false

pub digits_end : (x y s t : List ℕ) → Digits x → Digits y → Ends s → Ends t → x ++ s ≡ y ++ t → (x ≡ y) × (s ≡ t)
digits_end [] [] s t p q a b e = (refl, e)
digits_end [] (d ∷ y) s t p q a b e = absurd (false≢true (sym a ∙ ap (λ (l : List ℕ). is_digit (first l)) e ∙ q.0))
digits_end (c ∷ x) [] s t p q a b e = absurd (false≢true (sym b ∙ ap (λ (l : List ℕ). is_digit (first l)) (sym e) ∙ p.0))
digits_end (c ∷ x) (d ∷ y) s t p q a b e =
    let f = digits_end x y s t p.1 q.1 a b (ap others e) in
    (ap₂ (λ (i : ℕ) (l : List ℕ). i ∷ l) (ap first e) f.0, f.1)

-- ---- padded numbers
pub zeros_value : (k : ℕ) (ds : List ℕ) → digits_value 10 (replicate k 48 ++ ds) ≡ digits_value 10 ds
zeros_value zero ds = refl
zeros_value (suc k) ds = zeros_value k ds

padded_value : (w n : ℕ) → n < 2 ^ 64 → digits_value 10 (padded_decimal w n) ≡ n
unfolding padded_decimal
padded_value w n h = zeros_value (w - length (decimal n)) (decimal n) ∙ (decimal_is_IsNumeral n h).1

pub padded_same : (w m n : ℕ) → m < 2 ^ 64 → n < 2 ^ 64 → padded_decimal w m ≡ padded_decimal w n → m ≡ n
padded_same w m n p q e = sym (padded_value w m p) ∙ ap (digits_value 10) e ∙ padded_value w n q

padded_read : (w m n : ℕ) (s t : List ℕ) → m < 2 ^ 64 → n < 2 ^ 64 → Ends s → Ends t → padded_decimal w m ++ s ≡ padded_decimal w n ++ t → (m ≡ n) × (s ≡ t)
padded_read w m n s t p q a b e =
    let f = digits_end (padded_decimal w m) (padded_decimal w n) s t (padded_digits w m) (padded_digits w n) a b e in
    (padded_same w m n p q f.0, f.1)

-- ---- days
pub record IsSmallDay (d : Day) : Type 0 where
  pub year : d.year < 2 ^ 64
  pub month : d.month < 2 ^ 64
  pub day : d.day < 2 ^ 64

day_parts : (d : Day) (s : List ℕ) → day_text d ++ s ≡ padded_decimal 4 d.year ++ 45 ∷ (padded_decimal 2 d.month ++ 45 ∷ (padded_decimal 2 d.day ++ s))
unfolding day_text
day_parts d s = simp append_assoc

day_is : (d e : Day) → d.year ≡ e.year → d.month ≡ e.month → d.day ≡ e.day → d ≡ e
day_is d e p q r = rw (p, q, r) refl

pub day_read : (d e : Day) (s t : List ℕ) → IsSmallDay d → IsSmallDay e → Ends s → Ends t → day_text d ++ s ≡ day_text e ++ t → (d ≡ e) × (s ≡ t)
day_read d e s t p q a b h =
    let f = padded_read 4 d.year e.year (45 ∷ (padded_decimal 2 d.month ++ 45 ∷ (padded_decimal 2 d.day ++ s))) (45 ∷ (padded_decimal 2 e.month ++ 45 ∷ (padded_decimal 2 e.day ++ t))) p.year q.year refl refl (sym (day_parts d s) ∙ h ∙ day_parts e t) in
    let g = padded_read 2 d.month e.month (45 ∷ (padded_decimal 2 d.day ++ s)) (45 ∷ (padded_decimal 2 e.day ++ t)) p.month q.month refl refl (ap others f.1) in
    let i = padded_read 2 d.day e.day s t p.day q.day a b (ap others g.1) in
    (day_is d e f.0 g.0 i.0, i.1)

-- ---- clocks: hours, minutes and seconds
pub record IsSmallClock (c : Clock) : Type 0 where
  pub hour : c.hour < 2 ^ 64
  pub minute : c.minute < 2 ^ 64
  pub second : c.second < 2 ^ 64
  pub micros : c.micros < 2 ^ 64

abbrev pub clock3 : Clock → List ℕ → List ℕ
clock3 c s = padded_decimal 2 c.hour ++ 58 ∷ (padded_decimal 2 c.minute ++ 58 ∷ (padded_decimal 2 c.second ++ s))

pub hours_read : (c k : Clock) (s t : List ℕ) → c.hour < 2 ^ 64 → k.hour < 2 ^ 64 → c.minute < 2 ^ 64 → k.minute < 2 ^ 64 → c.second < 2 ^ 64 → k.second < 2 ^ 64 → Ends s → Ends t → clock3 c s ≡ clock3 k t
    → (c.hour ≡ k.hour) × (c.minute ≡ k.minute) × (c.second ≡ k.second) × (s ≡ t)
hours_read c k s t ch kh cm km cs ks a b h =
    let f = padded_read 2 c.hour k.hour (58 ∷ (padded_decimal 2 c.minute ++ 58 ∷ (padded_decimal 2 c.second ++ s))) (58 ∷ (padded_decimal 2 k.minute ++ 58 ∷ (padded_decimal 2 k.second ++ t))) ch kh refl refl h in
    let g = padded_read 2 c.minute k.minute (58 ∷ (padded_decimal 2 c.second ++ s)) (58 ∷ (padded_decimal 2 k.second ++ t)) cm km refl refl (ap others f.1) in
    let i = padded_read 2 c.second k.second s t cs ks a b (ap others g.1) in
    (f.0, g.0, i.0, i.1)

clock_read : (c k : Clock) (s t : List ℕ) → IsSmallClock c → IsSmallClock k → Ends s → Ends t → clock3 c s ≡ clock3 k t → (c.hour ≡ k.hour) × (c.minute ≡ k.minute) × (c.second ≡ k.second) × (s ≡ t)
clock_read c k s t p q a b h = hours_read c k s t p.hour q.hour p.minute q.minute p.second q.second a b h

clock_is : (c k : Clock) → c.hour ≡ k.hour → c.minute ≡ k.minute → c.second ≡ k.second → c.micros ≡ k.micros → c ≡ k
clock_is c k p q r s = rw (p, q, r, s) refl

-- ---- the fraction: so many digits of six, or a longer number
abbrev pub fraction_of : ℕ → ℕ → List ℕ
fraction_of digits n = if nat_lt n 1000000 then micros_text (Some (shown_digits digits n)) n else 46 ∷ decimal n

length_padded : (w n : ℕ) → 0 < w → n < 10 ^ w → n < 2 ^ 64 → length (padded_decimal w n) ≡ w
unfolding padded_decimal
length_padded w n some h small =
    let few = length-decimal-le w n some h small in
    omega (arith, few, length-append (replicate (w - length (decimal n)) 48) (decimal n), length-replicate {A = ℕ} (w - length (decimal n)) 48)

-- without the last digit
shorter : (k n : ℕ) → n / 10 < 10 ^ suc k → n < 1000000 → take (suc k) (padded_decimal (suc (suc k)) n) ≡ padded_decimal (suc k) (n / 10)
shorter k n h small =
    let front = padded_decimal (suc k) (n / 10) in
    let last = (48 + n % 10) ∷ [] in
    let long : length front ≡ suc k = length_padded (suc k) (n / 10) (omega arith) h (omega (arith, small)) in
    ap (take (suc k)) (padded_more k n (omega (arith, small))) ∙ ap (λ (j : ℕ). take j (front ++ last)) (sym long) ∙ take-append_seam front last

five : (n : ℕ) → n < 1000000 → take 5 (padded_decimal 6 n) ≡ padded_decimal 5 (n / 10)
five n h = shorter 4 n (omega (arith, h)) h

four : (n : ℕ) → n < 1000000 → take 4 (padded_decimal 6 n) ≡ padded_decimal 4 (n / 10 / 10)
four n h = sym (take-take 4 5 (padded_decimal 6 n) (omega arith)) ∙ ap (take 4) (five n h) ∙ shorter 3 (n / 10) (omega (arith, h)) (omega (arith, h))

three : (n : ℕ) → n < 1000000 → take 3 (padded_decimal 6 n) ≡ padded_decimal 3 (n / 10 / 10 / 10)
three n h = sym (take-take 3 4 (padded_decimal 6 n) (omega arith)) ∙ ap (take 3) (four n h) ∙ shorter 2 (n / 10 / 10) (omega (arith, h)) (omega (arith, h))

two : (n : ℕ) → n < 1000000 → take 2 (padded_decimal 6 n) ≡ padded_decimal 2 (n / 10 / 10 / 10 / 10)
two n h = sym (take-take 2 3 (padded_decimal 6 n) (omega arith)) ∙ ap (take 2) (three n h) ∙ shorter 1 (n / 10 / 10 / 10) (omega (arith, h)) (omega (arith, h))

one : (n : ℕ) → n < 1000000 → take 1 (padded_decimal 6 n) ≡ padded_decimal 1 (n / 10 / 10 / 10 / 10 / 10)
one n h = sym (take-take 1 2 (padded_decimal 6 n) (omega arith)) ∙ ap (take 1) (two n h) ∙ shorter 0 (n / 10 / 10 / 10 / 10) (omega (arith, h)) (omega (arith, h))

all_six : (n k : ℕ) → n < 1000000 → 6 ≤ k → take k (padded_decimal 6 n) ≡ padded_decimal 6 n
all_six n k h le = take_all k (padded_decimal 6 n) (omega (arith, le, length_padded 6 n (omega arith) (omega (arith, h)) (omega (arith, h))))

-- a fraction of k digits
abbrev shown : ℕ → ℕ → List ℕ
shown k n = if k == 0 then [] else 46 ∷ take k (padded_decimal 6 n)

shown_some : (k n : ℕ) → 0 < k → shown k n ≡ 46 ∷ take k (padded_decimal 6 n)
shown_some k n some = go (k == 0) refl
  where
    go : (b : Bool) → (k == 0) ≡ b → (if b then [] else 46 ∷ take k (padded_decimal 6 n)) ≡ 46 ∷ take k (padded_decimal 6 n)
    go true e = absurd (omega (arith, some, eqb→eq k 0 (subst T (sym e) tt)))
    go false e = refl

length_shown : (k n : ℕ) → n < 1000000 → 0 < k → k ≤ 6 → length (shown k n) ≡ suc k
length_shown k n h some le =
    ap length (shown_some k n some) ∙ ap suc (length-take-le k (padded_decimal 6 n) (omega (arith, le, length_padded 6 n (omega arith) (omega (arith, h)) (omega (arith, h)))))

-- with as many digits as the column, if the others are zeros; else with six
abbrev fraction_by : ℕ → Bool → ℕ → List ℕ
fraction_by digits b n = shown (if b then digits else 6) n

small_same : (w m n : ℕ) → m < 1000000 → n < 1000000 → padded_decimal w m ≡ padded_decimal w n → m ≡ n
small_same w m n p q e = padded_same w m n (omega (arith, p)) (omega (arith, q)) e

six_same : (m n : ℕ) → m < 1000000 → n < 1000000 → shown 6 m ≡ shown 6 n → m ≡ n
six_same m n p q e = small_same 6 m n p q (sym (all_six m 6 p (omega arith)) ∙ ap others e ∙ all_six n 6 q (omega arith))

-- the others are zeros
fewer_same : (digits m n : ℕ) → m < 1000000 → n < 1000000 → m % 10 ^ (6 - digits) ≡ 0 → n % 10 ^ (6 - digits) ≡ 0 → shown digits m ≡ shown digits n → m ≡ n
fewer_same zero m n p q z y e = omega (arith, p, q, z, y)
fewer_same (suc zero) m n p q z y e = let f = small_same 1 (m / 10 / 10 / 10 / 10 / 10) (n / 10 / 10 / 10 / 10 / 10) (omega (arith, p)) (omega (arith, q)) (sym (one m p) ∙ ap others e ∙ one n q) in omega (arith, z, y, f)
fewer_same (suc (suc zero)) m n p q z y e = let f = small_same 2 (m / 10 / 10 / 10 / 10) (n / 10 / 10 / 10 / 10) (omega (arith, p)) (omega (arith, q)) (sym (two m p) ∙ ap others e ∙ two n q) in omega (arith, z, y, f)
fewer_same (suc (suc (suc zero))) m n p q z y e = let f = small_same 3 (m / 10 / 10 / 10) (n / 10 / 10 / 10) (omega (arith, p)) (omega (arith, q)) (sym (three m p) ∙ ap others e ∙ three n q) in omega (arith, z, y, f)
fewer_same (suc (suc (suc (suc zero)))) m n p q z y e = let f = small_same 4 (m / 10 / 10) (n / 10 / 10) (omega (arith, p)) (omega (arith, q)) (sym (four m p) ∙ ap others e ∙ four n q) in omega (arith, z, y, f)
fewer_same (suc (suc (suc (suc (suc zero))))) m n p q z y e = let f = small_same 5 (m / 10) (n / 10) (omega (arith, p)) (omega (arith, q)) (sym (five m p) ∙ ap others e ∙ five n q) in omega (arith, z, y, f)
fewer_same (suc (suc (suc (suc (suc (suc k)))))) m n p q z y e =
    let j = suc (suc (suc (suc (suc (suc k))))) in
    small_same 6 m n p q (sym (all_six m j p (omega arith)) ∙ ap others (sym (shown_some j m (omega arith)) ∙ e ∙ shown_some j n (omega arith)) ∙ all_six n j q (omega arith))

-- fewer digits than six aren't six
not_six : (digits m n : ℕ) → m < 1000000 → n < 1000000 → digits < 6 → shown digits m ≡ shown 6 n → ⊥
not_six zero m n p q lt e = absurd (let no = ap length e in omega (arith, no, length_shown 6 n q (omega arith) (omega arith)))
not_six (suc k) m n p q lt e = absurd (let no = ap length e in omega (arith, no, lt, length_shown (suc k) m p (omega arith) (omega (arith, lt)), length_shown 6 n q (omega arith) (omega arith)))

abbrev zeros_left : ℕ → ℕ → Bool
zeros_left digits n = n % 10 ^ (6 - digits) == 0

many_left : (digits n : ℕ) → 6 ≤ digits → zeros_left digits n ≡ false → ⊥
many_left digits n le f =
    let none : 6 - digits ≡ 0 = omega (arith, le) in
    let all : zeros_left digits n ≡ true = rw none (search arith) in
    false≢true (sym f ∙ all)

below_six : (digits n : ℕ) → zeros_left digits n ≡ false → digits < 6
below_six digits n f = elim (cases_lt digits 6) [ inl lt ↦ lt | inr ge ↦ absurd (many_left digits n ge f) ]

zero_left : (digits n : ℕ) → zeros_left digits n ≡ true → n % 10 ^ (6 - digits) ≡ 0
zero_left digits n e = eqb→eq (n % 10 ^ (6 - digits)) 0 (subst T (sym e) tt)

shown_same : (digits m n : ℕ) → m < 1000000 → n < 1000000 → shown (shown_digits digits m) m ≡ shown (shown_digits digits n) n → m ≡ n
shown_same digits m n p q e = go (zeros_left digits m) (zeros_left digits n) refl refl e
  where
    go : (a b : Bool) → zeros_left digits m ≡ a → zeros_left digits n ≡ b → shown (if a then digits else 6) m ≡ shown (if b then digits else 6) n → m ≡ n
    go true true f g h = fewer_same digits m n p q (zero_left digits m f) (zero_left digits n g) h
    go true false f g h = absurd (not_six digits m n p q (below_six digits n g) h)
    go false true f g h = absurd (not_six digits n m q p (below_six digits m f) (sym h))
    go false false f g h = six_same m n p q h

-- ---- all that follows the seconds
-- microseconds below a million
micros_small : (k n : ℕ) → n < 1000000 → micros_text (Some k) n ≡ shown k n
unfolding micros_text
micros_small k n lt =
    let same : n % 1000000 ≡ n = omega (arith, lt) in
    ap (λ (m : ℕ). shown k m) same

smaller : (k v : ℕ) → k ≤ 6 → v < 10 ^ k → v < 1000000
smaller zero v le h = omega (arith, h)
smaller (suc zero) v le h = omega (arith, h)
smaller (suc (suc zero)) v le h = omega (arith, h)
smaller (suc (suc (suc zero))) v le h = omega (arith, h)
smaller (suc (suc (suc (suc zero)))) v le h = omega (arith, h)
smaller (suc (suc (suc (suc (suc zero))))) v le h = omega (arith, h)
smaller (suc (suc (suc (suc (suc (suc zero)))))) v le h = omega (arith, h)
smaller (suc (suc (suc (suc (suc (suc (suc j))))))) v le h = absurd (omega (arith, le))

longer : (n : ℕ) → 1000000 ≤ n → n < 2 ^ 64 → 6 < length (decimal n)
longer n le h = elim (cases_lt 6 (length (decimal n))) [
  | inl lt ↦ lt
  | inr few ↦
      let v = decimal_is_IsNumeral n h in
      absurd (omega (arith, le, v.1, smaller (length (decimal n)) (digits_value 10 (decimal n)) few (digits_value-lt 10 (decimal n) v.0.1)))
]

few_shown : (k n : ℕ) → n < 1000000 → length (shown k n) ≤ 7
few_shown k n h = elim (cases_lt 0 k) [
  | inl some ↦ omega (arith, ap length (shown_some k n some), length-take k (padded_decimal 6 n), length_padded 6 n (omega arith) (omega (arith, h)) (omega (arith, h)))
  | inr none ↦ let z : k ≡ 0 = omega (arith, none) in rw z (omega arith)
]

abbrev is_small : ℕ → Bool
is_small n = nat_lt n 1000000

small_is : (n : ℕ) → is_small n ≡ true → n < 1000000
small_is n e = ltb_yes (subst T (sym e) tt)

large_is : (n : ℕ) → is_small n ≡ false → 1000000 ≤ n
large_is n e = elim (cases_lt n 1000000) [
  | inl lt ↦ absurd (let yes : is_small n ≡ true = grind arith in false≢true (sym e ∙ yes))
  | inr ge ↦ ge
]

not_longer : (digits m n : ℕ) → m < 1000000 → 1000000 ≤ n → n < 2 ^ 64 → micros_text (Some (shown_digits digits m)) m ≡ 46 ∷ decimal n → ⊥
not_longer digits m n p q h e =
    let k = shown_digits digits m in
    absurd (omega (arith, ap length (sym (micros_small k m p) ∙ e), few_shown k m p, longer n q h))

pub fraction_read : (digits m n : ℕ) → m < 2 ^ 64 → n < 2 ^ 64 → fraction_of digits m ≡ fraction_of digits n → m ≡ n
fraction_read digits m n p q e = go (is_small m) (is_small n) refl refl e
  where
    go : (a b : Bool) → is_small m ≡ a → is_small n ≡ b
        → (if a then micros_text (Some (shown_digits digits m)) m else 46 ∷ decimal m) ≡ (if b then micros_text (Some (shown_digits digits n)) n else 46 ∷ decimal n) → m ≡ n
    go true true f g h = shown_same digits m n (small_is m f) (small_is n g) (sym (micros_small (shown_digits digits m) m (small_is m f)) ∙ h ∙ micros_small (shown_digits digits n) n (small_is n g))
    go true false f g h = absurd (not_longer digits m n (small_is m f) (large_is n g) q h)
    go false true f g h = absurd (not_longer digits n m (small_is n g) (large_is m f) p (sym h))
    go false false f g h = decimal_injective m n p q (ap others h)

digits_take : (k : ℕ) (l : List ℕ) → Digits l → Digits (take k l)
digits_take zero l d = tt
digits_take (suc k) [] d = tt
digits_take (suc k) (x ∷ l) d = (d.0, digits_take k l d.1)

shown_digits_after : (k n : ℕ) → Digits (others (shown k n))
shown_digits_after k n = go (k == 0)
  where
    go : (b : Bool) → Digits (others (if b then [] else 46 ∷ take k (padded_decimal 6 n)))
    go true = tt
    go false = digits_take k (padded_decimal 6 n) (padded_digits 6 n)

pub fraction_digits_after : (digits n : ℕ) → Digits (others (fraction_of digits n))
fraction_digits_after digits n = go (is_small n) refl
  where
    go : (a : Bool) → is_small n ≡ a → Digits (others (if a then micros_text (Some (shown_digits digits n)) n else 46 ∷ decimal n))
    go true e = subst (λ (t : List ℕ). Digits (others t)) (sym (micros_small (shown_digits digits n) n (small_is n e))) (shown_digits_after (shown_digits digits n) n)
    go false e = decimal_digits n

shown_ends : (k n : ℕ) → Ends (shown k n)
shown_ends k n = go (k == 0)
  where
    go : (b : Bool) → Ends (if b then [] else 46 ∷ take k (padded_decimal 6 n))
    go true = refl
    go false = refl

pub fraction_ends : (digits n : ℕ) → Ends (fraction_of digits n)
fraction_ends digits n = go (is_small n) refl
  where
    go : (a : Bool) → is_small n ≡ a → Ends (if a then micros_text (Some (shown_digits digits n)) n else 46 ∷ decimal n)
    go true e = subst Ends (sym (micros_small (shown_digits digits n) n (small_is n e))) (shown_ends (shown_digits digits n) n)
    go false e = refl

-- ---- dates and times
pub clock_right : (c : Clock) (rest : List ℕ) → padded_decimal 2 c.hour ++ 58 ∷ padded_decimal 2 c.minute ++ 58 ∷ padded_decimal 2 c.second ++ rest ≡ clock3 c rest
clock_right c rest = simp append_assoc

pub datetime_text : (digits : ℕ) (d : Day) (c : Clock) → shown_datetime digits d c ≡ in_quotes (day_text d ++ 32 ∷ clock3 c (fraction_of digits c.micros))
unfolding shown_datetime datetime_json time_digits time_and_number
datetime_text digits d c = go (is_small c.micros)
  where
    k : ℕ
    k = shown_digits digits c.micros

    go : (a : Bool) → (if a then datetime_json k d c else numbered_datetime d c (pos c.micros)) ≡ in_quotes (day_text d ++ 32 ∷ clock3 c (if a then micros_text (Some k) c.micros else 46 ∷ decimal c.micros))
    go true = plain_string (day_text d ++ 32 ∷ time_digits k c) (plain_append (day_text d) (32 ∷ time_digits k c) (day_plain d) (refl, time_plain k c)) ∙ ap (λ (t : List ℕ). in_quotes (day_text d ++ 32 ∷ t)) (clock_right c (micros_text (Some k) c.micros))
    go false = ap (λ (t : List ℕ). in_quotes (day_text d ++ 32 ∷ t)) (clock_right c (46 ∷ decimal c.micros))

pub quotes_read : (a b : List ℕ) → in_quotes a ≡ in_quotes b → a ≡ b
quotes_read a b e = append_cancel_right a b (34 ∷ []) (ap others e)

pub datetimes_read : (digits : ℕ) (d e : Day) (c k : Clock) → IsSmallDay d → IsSmallDay e → IsSmallClock c → IsSmallClock k → shown_datetime digits d c ≡ shown_datetime digits e k → (d ≡ e) × (c ≡ k)
datetimes_read digits d e c k p q a b h =
    let f = quotes_read (day_text d ++ 32 ∷ clock3 c (fraction_of digits c.micros)) (day_text e ++ 32 ∷ clock3 k (fraction_of digits k.micros)) (sym (datetime_text digits d c) ∙ h ∙ datetime_text digits e k) in
    let g = day_read d e (32 ∷ clock3 c (fraction_of digits c.micros)) (32 ∷ clock3 k (fraction_of digits k.micros)) p q refl refl f in
    let i = clock_read c k (fraction_of digits c.micros) (fraction_of digits k.micros) a b (fraction_ends digits c.micros) (fraction_ends digits k.micros) (ap others g.1) in
    (g.0, clock_is c k i.0 i.1 i.2 (fraction_read digits c.micros k.micros a.micros b.micros i.3))

pub dates_read : (d e : Day) → IsSmallDay d → IsSmallDay e → date_json d ≡ date_json e → d ≡ e
unfolding date_json
dates_read d e p q h =
    let f = quotes_read (day_text d) (day_text e) (sym (plain_string (day_text d) (day_plain d)) ∙ h ∙ plain_string (day_text e) (day_plain e)) in
    (day_read d e [] [] p q refl refl (append-nil (day_text d) ∙ f ∙ sym (append-nil (day_text e)))).0

pub duration_text : (digits : ℕ) (negative : Bool) (c : Clock) → shown_duration digits negative c ≡ in_quotes (sign_text negative ++ clock3 c (fraction_of digits c.micros))
unfolding shown_duration duration_json time_digits time_and_number
duration_text digits negative c = go (is_small c.micros)
  where
    k : ℕ
    k = shown_digits digits c.micros

    go : (a : Bool) → (if a then duration_json k negative c else in_quotes (sign_text negative ++ time_and_number c (pos c.micros))) ≡ in_quotes (sign_text negative ++ clock3 c (if a then micros_text (Some k) c.micros else 46 ∷ decimal c.micros))
    go true = plain_string (sign_text negative ++ time_digits k c) (plain_append (sign_text negative) (time_digits k c) (sign_plain negative) (time_plain k c)) ∙ ap (λ (t : List ℕ). in_quotes (sign_text negative ++ t)) (clock_right c (micros_text (Some k) c.micros))
    go false = ap (λ (t : List ℕ). in_quotes (sign_text negative ++ t)) (clock_right c (46 ∷ decimal c.micros))

-- a minus isn't the first digit of a clock
no_minus : (c : Clock) (s t : List ℕ) → 45 ∷ s ≡ clock3 c t → ⊥
no_minus c s t e =
    let rest = padded_decimal 2 c.minute ++ 58 ∷ (padded_decimal 2 c.second ++ t) in
    let f = digits_end [] (padded_decimal 2 c.hour) (45 ∷ s) (58 ∷ rest) tt (padded_digits 2 c.hour) refl refl e in
    absurd (let no : 45 ≡ 58 = ap first f.1 in omega (arith, no))

signed_clock_read : (digits : ℕ) (m n : Bool) (c k : Clock) → IsSmallClock c → IsSmallClock k → sign_text m ++ clock3 c (fraction_of digits c.micros) ≡ sign_text n ++ clock3 k (fraction_of digits k.micros) → (m ≡ n) × (c ≡ k)
signed_clock_read digits m n c k p q e = go m n e
  where
    same : clock3 c (fraction_of digits c.micros) ≡ clock3 k (fraction_of digits k.micros) → c ≡ k
    same f =
        let i = clock_read c k (fraction_of digits c.micros) (fraction_of digits k.micros) p q (fraction_ends digits c.micros) (fraction_ends digits k.micros) f in
        clock_is c k i.0 i.1 i.2 (fraction_read digits c.micros k.micros p.micros q.micros i.3)

    go : (a b : Bool) → sign_text a ++ clock3 c (fraction_of digits c.micros) ≡ sign_text b ++ clock3 k (fraction_of digits k.micros) → (a ≡ b) × (c ≡ k)
    go true true f = (refl, same (ap others f))
    go false false f = (refl, same f)
    go true false f = absurd (no_minus k _ _ f)
    go false true f = absurd (no_minus c _ _ (sym f))

pub durations_read : (digits : ℕ) (m n : Bool) (c k : Clock) → IsSmallClock c → IsSmallClock k → shown_duration digits m c ≡ shown_duration digits n k → (m ≡ n) × (c ≡ k)
durations_read digits m n c k p q e =
    signed_clock_read digits m n c k p q (quotes_read (sign_text m ++ clock3 c (fraction_of digits c.micros)) (sign_text n ++ clock3 k (fraction_of digits k.micros)) (sym (duration_text digits m c) ∙ e ∙ duration_text digits n k))
