-- A date and a time in UTC between quotes.
use Rattle.std.proofs.Common.{◌≡◌, ℕ, ◌+◌, ◌-◌, ◌<◌, Bool, true, false, List, [], ◌∷◌, ◌++◌, length, take, drop, refl, sym, ap, ap₂, ◌∙◌, append_assoc, arith, length-append}
use Rattle.std.proofs.Math.Seq.{take-append_seam}
use Rattle.std.specs.List.{flat_map}
use lib.Lanes.{Each1}
use Rattle.feed_writers.specs.TimesOfDay.{day_text}
use Rattle.feed_writers.specs.declared.times.Clock.{Clock}
use Rattle.feed_writers.specs.declared.times.Day.{Day}
use Rattle.changes_writers.specs.JsonStrings.{is_unescaped, json_byte, json_string}
use Rattle.changes_writers.specs.TimeStrings.{duration_json, time_digits}
use Rattle.changes_writers.proofs.TimeStringLemmas.{time_plain}
use Rattle.changes_formats.specs.EnvelopeMembers.{content_of}
use Rattle.changes_formats.specs.EpochTimes.{zoned}

content_quoted : (t : List ℕ) → content_of (34 ∷ (t ++ 34 ∷ [])) ≡ t
content_quoted t =
    let long : length (34 ∷ (t ++ 34 ∷ [])) - 2 ≡ length t = omega (arith, length-append t (34 ∷ [])) in
    ap (λ (n : ℕ). take n (t ++ 34 ∷ [])) long ∙ take-append_seam t (34 ∷ [])

unchanged : (s : List ℕ) → Each1 (λ b. is_unescaped b ≡ true) s → flat_map json_byte s ≡ s
unchanged [] p = refl
unchanged (x ∷ s) p = rw p.0 (ap (λ (t : List ℕ). x ∷ t) (unchanged s p.1))

-- the content of a time as a string
time_content : (digits : ℕ) (c : Clock) → c.hour < 4294967296 → c.minute < 4294967296 → c.second < 4294967296 → content_of (duration_json digits false c) ≡ time_digits digits c
unfolding duration_json json_string
time_content digits c p q r = ap (λ (t : List ℕ). content_of (34 ∷ (t ++ 34 ∷ []))) (unchanged (time_digits digits c) (time_plain digits c p q r)) ∙ content_quoted (time_digits digits c)

pub zoned_written : (digits : ℕ) (d : Day) (c : Clock) (base one two three four new day quoted : List ℕ) → c.hour < 4294967296 → c.minute < 4294967296 → c.second < 4294967296
    → day ≡ day_text d → quoted ≡ duration_json digits false c → one ≡ base ++ 34 ∷ [] → two ≡ one ++ day → three ≡ two ++ 84 ∷ [] → four ≡ three ++ content_of quoted → new ≡ four ++ 90 ∷ 34 ∷ []
    → new ≡ base ++ zoned digits d c
zoned_written digits d c base one two three four new day quoted p q r e f first second third fourth is =
    let t = time_digits digits c in
    let content : content_of quoted ≡ t = ap content_of f ∙ time_content digits c p q r in
    is ∙ ap (λ (s : List ℕ). s ++ 90 ∷ 34 ∷ []) (fourth ∙ ap₂ (λ (s u : List ℕ). s ++ u) (third ∙ ap (λ (s : List ℕ). s ++ 84 ∷ []) (second ∙ ap₂ (λ (s u : List ℕ). s ++ u) first e)) content) ∙ simp append_assoc
