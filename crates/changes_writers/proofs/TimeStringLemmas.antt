-- The text of dates and times in JSON strings.
use Rattle.std.proofs.Common.{◌≡◌, ℕ, zero, suc, ◌+◌, ◌-◌, ◌%◌, ◌^◌, ◌<◌, ◌≤◌, Bool, true, false, List, [], ◌∷◌, ◌++◌, length, take, replicate, refl, sym, ap, ap₂, ◌∙◌, append_assoc, arith, inl, inr, T}
use Rattle.std.proofs.lemmas.Bool.{cases_lt, eqb-true}
use Rattle.feed_writers.proofs.PlainLemmas.{upto_sound}
use Rattle.std.specs.Prelude.{Some, ◌==◌, if◌then◌else◌}
use Rattle.std.specs.Fmt.{decimal, sign_text}
use Rattle.std.specs.List.{flat_map}
use Rattle.std.proofs.lemmas.Fmt.{decimal_by_steps, length-decimal-le}
use Rattle.std.proofs.lemmas.List.{take-take, take_all, length-take-le, length-append, length-replicate}
use Rattle.std.proofs.Math.Seq.{take-add, take-append_seam, drop-append_seam}
use lib.Lanes.{Each1}
use Rattle.rows_values.specs.TimeTexts.{micros_text, padded_decimal}
use Rattle.feed_writers.specs.TimesOfDay.{clock_text, day_text}
use Rattle.feed_writers.specs.declared.times.Clock.{Clock}
use Rattle.feed_writers.specs.declared.times.Day.{Day}
use Rattle.changes_writers.specs.JsonStrings.{is_unescaped, json_byte, json_string}
use Rattle.changes_writers.specs.TimeStrings.{time_digits, date_json, datetime_json, duration_json}
use Rattle.changes_writers.proofs.StringLemmas.{quotes_written}

-- ---- digits and signs need no escape
abbrev Unescaped : List ℕ → Type 0
Unescaped = Each1 (λ b. is_unescaped b ≡ true)

each_append : (s t : List ℕ) → Unescaped s → Unescaped t → Unescaped (s ++ t)
each_append [] t p q = q
each_append (x ∷ s) t p q = (p.0, each_append s t p.1 q)

each_take : (k : ℕ) (s : List ℕ) → Unescaped s → Unescaped (take k s)
each_take zero s p = tt
each_take (suc k) [] p = tt
each_take (suc k) (x ∷ s) p = (p.0, each_take k s p.1)

unchanged : (s : List ℕ) → Unescaped s → flat_map json_byte s ≡ s
unchanged [] p = refl
unchanged (x ∷ s) p = rw p.0 (ap (λ (t : List ℕ). x ∷ t) (unchanged s p.1))

true_of : (b : Bool) → T b → b ≡ true
true_of true h = refl
true_of false h = absurd h

digit_plain : (n : ℕ) → n < 10 → is_unescaped (48 + n) ≡ true
digit_plain n h = true_of _ (upto_sound (λ k. is_unescaped (48 + k)) 10 tt n h)

decimal_plain : (n : ℕ) → n < 2 ^ 64 → Unescaped (decimal n)
decimal_plain n h = decimal_by_steps (λ _ ds. Unescaped ds) (λ k lt. (digit_plain k lt, tt)) (λ k ds le p. each_append ds ((48 + k % 10) ∷ []) p (digit_plain (k % 10) (omega arith), tt)) n h

zeros_plain : (k : ℕ) → Unescaped (replicate k 48)
zeros_plain zero = tt
zeros_plain (suc k) = (refl, zeros_plain k)

padded_plain : (w n : ℕ) → n < 2 ^ 64 → Unescaped (padded_decimal w n)
unfolding padded_decimal
padded_plain w n h = each_append (replicate (w - length (decimal n)) 48) (decimal n) (zeros_plain (w - length (decimal n))) (decimal_plain n h)

micros_plain : (d n : ℕ) → Unescaped (micros_text (Some d) n)
unfolding micros_text
micros_plain d n = go (d == 0)
  where
    go : (b : Bool) → Unescaped (if b then [] else 46 ∷ take d (padded_decimal 6 (n % 1000000)))
    go true = tt
    go false = (refl, each_take d (padded_decimal 6 (n % 1000000)) (padded_plain 6 (n % 1000000) (omega arith)))

sign_plain : (b : Bool) → Unescaped (sign_text b)
sign_plain true = (refl, tt)
sign_plain false = tt

pub time_plain : (d : ℕ) (c : Clock) → c.hour < 4294967296 → c.minute < 4294967296 → c.second < 4294967296 → Unescaped (time_digits d c)
unfolding time_digits
time_plain d c p q r =
    let h = padded_decimal 2 c.hour in
    let m = 58 ∷ padded_decimal 2 c.minute in
    let s = 58 ∷ padded_decimal 2 c.second in
    let hours = padded_plain 2 c.hour (omega (arith, p)) in
    let minutes = padded_plain 2 c.minute (omega (arith, q)) in
    let seconds = padded_plain 2 c.second (omega (arith, r)) in
    each_append ((h ++ m) ++ s) (micros_text (Some d) c.micros) (each_append (h ++ m) s (each_append h m hours (refl, minutes)) (refl, seconds)) (micros_plain d c.micros)

pub day_plain : (d : Day) → d.year < 4294967296 → d.month < 4294967296 → d.day < 4294967296 → Unescaped (day_text d)
unfolding day_text
day_plain d p q r =
    let y = padded_decimal 4 d.year in
    let m = 45 ∷ padded_decimal 2 d.month in
    let e = 45 ∷ padded_decimal 2 d.day in
    let years = padded_plain 4 d.year (omega (arith, p)) in
    let months = padded_plain 2 d.month (omega (arith, q)) in
    let days = padded_plain 2 d.day (omega (arith, r)) in
    each_append (y ++ m) e (each_append y m years (refl, months)) (refl, days)

-- a text that needs no escape was written between quotes
quoted : (base one two new s : List ℕ) → Unescaped s → one ≡ base ++ 34 ∷ [] → two ≡ one ++ s → new ≡ two ++ 34 ∷ [] → new ≡ base ++ json_string s
quoted base one two new s p first second is = quotes_written base one two new s first (second ∙ ap (λ (t : List ℕ). one ++ t) (sym (unchanged s p))) is

pub date_written : (base one two new : List ℕ) (d : Day) → Unescaped (day_text d) → one ≡ base ++ 34 ∷ [] → two ≡ one ++ day_text d → new ≡ two ++ 34 ∷ [] → new ≡ base ++ date_json d
unfolding date_json
date_written base one two new d p first second is = quoted base one two new (day_text d) p first second is

pub datetime_written : (base one two three four new : List ℕ) (n : ℕ) (d : Day) (c : Clock) → Unescaped (day_text d) → Unescaped (time_digits n c)
    → one ≡ base ++ 34 ∷ [] → two ≡ one ++ day_text d → three ≡ two ++ 32 ∷ [] → four ≡ three ++ time_digits n c → new ≡ four ++ 34 ∷ [] → new ≡ base ++ datetime_json n d c
unfolding datetime_json
datetime_written base one two three four new n d c p q first second third fourth is =
    quoted base one four new (day_text d ++ 32 ∷ time_digits n c) (each_append (day_text d) (32 ∷ time_digits n c) p (refl, q)) first
    (fourth ∙ ap (λ (t : List ℕ). t ++ time_digits n c) (third ∙ ap (λ (t : List ℕ). t ++ 32 ∷ []) second) ∙ simp append_assoc) is

pub duration_written : (base one two three new : List ℕ) (n : ℕ) (b : Bool) (c : Clock) → Unescaped (time_digits n c)
    → one ≡ base ++ 34 ∷ [] → two ≡ one ++ sign_text b → three ≡ two ++ time_digits n c → new ≡ three ++ 34 ∷ [] → new ≡ base ++ duration_json n b c
unfolding duration_json
duration_written base one two three new n b c q first second third is =
    quoted base one three new (sign_text b ++ time_digits n c) (each_append (sign_text b) (time_digits n c) (sign_plain b) q) first
    (third ∙ ap (λ (t : List ℕ). t ++ time_digits n c) second ∙ append_assoc one (sign_text b) (time_digits n c)) is

-- ---- digits of the microseconds that are left out
six_digits : (n : ℕ) → n < 1000000 → length (padded_decimal 6 n) ≡ 6
unfolding padded_decimal
six_digits n h =
    let few = length-decimal-le 6 n (omega arith) (omega (arith, h)) (omega (arith, h)) in
    omega (arith, few, length-append (replicate (6 - length (decimal n)) 48) (decimal n), length-replicate {A = ℕ} (6 - length (decimal n)) 48)

-- the text without its last j bytes
cut : (j end : ℕ) (new base t : List ℕ) → end ≤ length new → j ≤ length t → take end new ≡ base ++ t → (j ≤ end) × (take (end - j) new ≡ base ++ take (length t - j) t)
cut j end new base t room few is =
    let k = length t - j in
    let long : end ≡ length base + length t = omega (arith, ap length is, length-take-le end new room, length-append base t) in
    let from : end - j ≡ length base + k = omega (arith, long, few) in (
      omega (arith, long, few),
      sym (take-take (end - j) end new (omega arith)) ∙ ap (take (end - j)) is ∙ ap (λ (m : ℕ). take m (base ++ t)) from ∙ take-add (length base) k (base ++ t)
          ∙ ap₂ (λ (x y : List ℕ). x ++ take k y) (take-append_seam base t) (drop-append_seam base t),
    )

abbrev whole_clock : ℕ → ℕ → ℕ → List ℕ
whole_clock h m s = padded_decimal 2 h ++ 58 ∷ padded_decimal 2 m ++ 58 ∷ padded_decimal 2 s

clock_parts : (h m s u : ℕ) → clock_text (record { hour = h; minute = m; second = s; micros = u }) ≡ whole_clock h m s ++ 46 ∷ padded_decimal 6 u
unfolding clock_text
clock_parts h m s u = simp append_assoc

time_parts : (d : ℕ) (c : Clock) → time_digits d c ≡ whole_clock c.hour c.minute c.second ++ micros_text (Some d) c.micros
unfolding time_digits
time_parts d c = simp append_assoc

kept_after : (k : ℕ) (b f : List ℕ) → take (length b + k) (b ++ f) ≡ b ++ take k f
kept_after k b f = take-add (length b) k (b ++ f) ∙ ap₂ (λ (x y : List ℕ). x ++ take k y) (take-append_seam b f) (drop-append_seam b f)

-- of a clock's text with all digits, j bytes are left out
pub clock_cut : (j at end : ℕ) (new base : List ℕ) (d : ℕ) (c : Clock) → end ≤ length new → j ≤ 7 → take end new ≡ base ++ clock_text (record { hour = c.hour; minute = c.minute; second = c.second; micros = c.micros % 1000000 })
    → take (7 - j) (46 ∷ padded_decimal 6 (c.micros % 1000000)) ≡ micros_text (Some d) c.micros → (j ≤ end) × (take (end - j) new ≡ base ++ time_digits d c)
clock_cut j at end new base d c room few is same =
    let b = whole_clock c.hour c.minute c.second in
    let f = 46 ∷ padded_decimal 6 (c.micros % 1000000) in
    let seven : length f ≡ 7 = omega (arith, six_digits (c.micros % 1000000) (omega arith)) in
    let long : length (b ++ f) ≡ length b + 7 = omega (arith, length-append b f, seven) in
    let t = cut j end new base (b ++ f) room (omega (arith, long, few)) (is ∙ ap (λ (x : List ℕ). base ++ x) (clock_parts c.hour c.minute c.second (c.micros % 1000000))) in
    let from : length (b ++ f) - j ≡ length b + (7 - j) = omega (arith, long, few) in
    (t.0, t.1 ∙ ap (λ (x : List ℕ). base ++ x) (ap (λ (m : ℕ). take m (b ++ f)) from ∙ kept_after (7 - j) b f ∙ ap (λ (x : List ℕ). b ++ x) same ∙ sym (time_parts d c)))

pub no_micros : (d n : ℕ) → d ≡ 0 → take 0 (46 ∷ padded_decimal 6 (n % 1000000)) ≡ micros_text (Some d) n
unfolding micros_text
no_micros d n e = rw e refl

pub some_micros : (d n : ℕ) → (d ≡ 0 → ⊥) → take (7 - (6 - d)) (46 ∷ padded_decimal 6 (n % 1000000)) ≡ micros_text (Some d) n
unfolding micros_text
some_micros d n e = go (d == 0) refl
  where
    p : List ℕ
    p = padded_decimal 6 (n % 1000000)

    go : (b : Bool) → (d == 0) ≡ b → take (7 - (6 - d)) (46 ∷ p) ≡ (if b then [] else 46 ∷ take d p)
    go true h = absurd (e (eqb-true d 0 h))
    go false h =
        let six = six_digits (n % 1000000) (omega arith) in
        elim (cases_lt d 7) [
          | inl l ↦
              let count : 7 - (6 - d) ≡ suc d = omega (arith, l) in
              ap (λ (m : ℕ). take m (46 ∷ p)) count
          | inr g ↦
              let count : 7 - (6 - d) ≡ suc 6 = omega (arith, g) in
              ap (λ (m : ℕ). take m (46 ∷ p)) count ∙ ap (λ (t : List ℕ). 46 ∷ t) (take_all 6 p (omega (arith, six)) ∙ sym (take_all d p (omega (arith, six, g))))
        ]
