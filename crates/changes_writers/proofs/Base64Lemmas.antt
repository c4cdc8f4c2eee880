-- Base64, some bytes at a time.
use Rattle.std.proofs.Common.{◌≡◌, ℕ, zero, suc, ◌+◌, ◌-◌, ◌*◌, ◌/◌, ◌%◌, ◌<◌, ◌≤◌, List, [], ◌∷◌, ◌++◌, map, length, take, drop, replicate, get_or, refl, sym, ap, ap₂, ◌∙◌, subst, append_assoc, arith, Bool, true, false, T, w8, Fits}
use Rattle.std.specs.List.{flat_map}
use Rattle.std.proofs.lemmas.List.Concat.{flat_map-append}
use Rattle.feed_writers.proofs.PlainLemmas.{upto_sound}
use Rattle.changes_writers.specs.JsonStrings.{is_unescaped, json_byte, json_string}
use Rattle.changes_writers.proofs.StringLemmas.{quotes_written}
use Rattle.std.specs.Prelude.{All, slice_index, codes}
use Rattle.std.proofs.lemmas.List.{append-nil, take-take, length-take-le}
use Rattle.std.proofs.Math.Seq.{take-add, take-append_seam, drop-append_seam}
use Rattle.std.proofs.lemmas.Simd.{Each1-get_or, Each1-from_get_or, chunk-fits, take_more_put_chunk}
use lib.Lanes.{Each1, put_chunk}
use Rattle.base64.specs.Engines.{standard}
use Rattle.base64.specs.GeneralPurpose.{encode_of, engine_symbols}
use Rattle.base64.specs.Rfc4648.{encode_group, encode_symbols, padding_len}
use Rattle.changes_writers.specs.SixBits.{six_bits}
use Rattle.changes_writers.specs.Base64Texts.{base64_string, base64_object}

abbrev symbols : List ℕ
symbols = engine_symbols standard

-- ---- three bytes more
padding_same : (n : ℕ) → padding_len (suc (suc (suc n))) ≡ padding_len n
padding_same n = omega arith

encoded_more : (a b c : ℕ) (rest : List ℕ) → encode_of standard (a ∷ b ∷ c ∷ rest) ≡ encode_group symbols a b c ++ encode_of standard rest
unfolding encode_symbols
encoded_more a b c rest = ap (λ (n : ℕ). (encode_group symbols a b c ++ encode_symbols symbols rest) ++ replicate n 61) (padding_same (length rest)) ∙ append_assoc (encode_group symbols a b c) (encode_symbols symbols rest) (replicate (padding_len (length rest)) 61)

symbols_more : (a b c : ℕ) (rest : List ℕ) → encode_symbols symbols (a ∷ b ∷ c ∷ rest) ≡ encode_group symbols a b c ++ encode_symbols symbols rest
unfolding encode_symbols
symbols_more a b c rest = refl

abbrev thrice : ℕ → ℕ
thrice zero = 0
thrice (suc k) = suc (suc (suc (thrice k)))

groups_more : (k : ℕ) (d : List ℕ) → thrice k ≤ length d → encode_of standard d ≡ encode_symbols symbols (take (thrice k) d) ++ encode_of standard (drop (thrice k) d)
unfolding encode_symbols
groups_more zero d h = refl
groups_more (suc k) [] h = absurd (omega arith)
groups_more (suc k) (a ∷ []) h = absurd (omega arith)
groups_more (suc k) (a ∷ b ∷ []) h = absurd (omega arith)
groups_more (suc k) (a ∷ b ∷ c ∷ d) h =
    encoded_more a b c d ∙ ap (λ (t : List ℕ). encode_group symbols a b c ++ t) (groups_more k d (omega (arith, h)))
    ∙ sym (append_assoc (encode_group symbols a b c) (encode_symbols symbols (take (thrice k) d)) (encode_of standard (drop (thrice k) d)))
    ∙ ap (λ (t : List ℕ). t ++ encode_of standard (drop (thrice k) d)) (sym (symbols_more a b c (take (thrice k) d)))

-- what was written, and what remains
pub twelve_more : (base new all d after : List ℕ) → 12 ≤ length d → new ≡ base ++ encode_symbols symbols (take 12 d) → after ≡ drop 12 d → base ++ encode_of standard d ≡ all → new ++ encode_of standard after ≡ all
twelve_more base new all d after long is e h =
    ap₂ (λ (s t : List ℕ). s ++ encode_of standard t) is e ∙ append_assoc base (encode_symbols symbols (take 12 d)) (encode_of standard (drop 12 d))
    ∙ ap (λ (t : List ℕ). base ++ t) (sym (groups_more 4 d long)) ∙ h

pub three_more : (base new all d after : List ℕ) → 3 ≤ length d → new ≡ base ++ encode_group symbols (slice_index d 0) (slice_index d 1) (slice_index d 2) → after ≡ drop 3 d → base ++ encode_of standard d ≡ all → new ++ encode_of standard after ≡ all
three_more base new all [] after long is e h = absurd (omega arith)
three_more base new all (a ∷ []) after long is e h = absurd (omega arith)
three_more base new all (a ∷ b ∷ []) after long is e h = absurd (omega arith)
three_more base new all (a ∷ b ∷ c ∷ d) after long is e h =
    ap₂ (λ (s t : List ℕ). s ++ encode_of standard t) is e ∙ append_assoc base (encode_group symbols a b c) (encode_of standard d)
    ∙ ap (λ (t : List ℕ). base ++ t) (sym (encoded_more a b c d)) ∙ h

-- ---- fewer than three bytes
pub taken_part : (at j end : ℕ) (one base g : List ℕ) → length base ≡ at → at + j ≤ end → take end one ≡ base ++ g → take (at + j) one ≡ base ++ take j g
taken_part at j end one base g long le is =
    sym (take-take (at + j) end one le) ∙ ap (take (at + j)) is ∙ ap (λ (k : ℕ). take (k + j) (base ++ g)) (sym long) ∙ take-add (length base) j (base ++ g)
    ∙ ap₂ (λ (x y : List ℕ). x ++ take j y) (take-append_seam base g) (drop-append_seam base g)

one_left : (d : List ℕ) → length d ≡ 1 → encode_of standard d ≡ take 2 (encode_group symbols (slice_index d 0) 0 0) ++ 61 ∷ 61 ∷ []
unfolding encode_symbols
one_left [] e = absurd (omega arith)
one_left (a ∷ b ∷ d) e = absurd (omega arith)
one_left (a ∷ []) e = let same : a % 4 * 16 ≡ a % 4 * 16 + 0 / 16 = omega arith in ap (λ (k : ℕ). slice_index symbols (a / 4) ∷ slice_index symbols k ∷ 61 ∷ 61 ∷ []) same

two_left : (d : List ℕ) → length d ≡ 2 → encode_of standard d ≡ take 3 (encode_group symbols (slice_index d 0) (slice_index d 1) 0) ++ 61 ∷ []
unfolding encode_symbols
two_left [] e = absurd (omega arith)
two_left (a ∷ []) e = absurd (omega arith)
two_left (a ∷ b ∷ c ∷ d) e = absurd (omega arith)
two_left (a ∷ b ∷ []) e = let same : b % 16 * 4 ≡ b % 16 * 4 + 0 / 64 = omega arith in ap (λ (k : ℕ). slice_index symbols (a / 4) ∷ slice_index symbols (a % 4 * 16 + b / 16) ∷ slice_index symbols k ∷ 61 ∷ []) same

pub one_written : (at end : ℕ) (one new base d : List ℕ) → length d ≡ 1 → length base ≡ at → end ≡ at + 4 → take end one ≡ base ++ encode_group symbols (slice_index d 0) 0 0 → new ≡ take (end - 2) one ++ 61 ∷ 61 ∷ [] → new ≡ base ++ encode_of standard d
one_written at end one new base d single long e first is =
    let g = encode_group symbols (slice_index d 0) 0 0 in
    let from : end - 2 ≡ at + 2 = omega arith in
    is ∙ ap (λ (k : ℕ). take k one ++ 61 ∷ 61 ∷ []) from ∙ ap (λ (t : List ℕ). t ++ 61 ∷ 61 ∷ []) (taken_part at 2 end one base g long (omega arith) first)
    ∙ append_assoc base (take 2 g) (61 ∷ 61 ∷ []) ∙ ap (λ (t : List ℕ). base ++ t) (sym (one_left d single))

pub two_written : (at end : ℕ) (one new base d : List ℕ) → length d ≡ 2 → length base ≡ at → end ≡ at + 4 → take end one ≡ base ++ encode_group symbols (slice_index d 0) (slice_index d 1) 0 → new ≡ take (end - 1) one ++ 61 ∷ [] → new ≡ base ++ encode_of standard d
two_written at end one new base d couple long e first is =
    let g = encode_group symbols (slice_index d 0) (slice_index d 1) 0 in
    let from : end - 1 ≡ at + 3 = omega arith in
    is ∙ ap (λ (k : ℕ). take k one ++ 61 ∷ []) from ∙ ap (λ (t : List ℕ). t ++ 61 ∷ []) (taken_part at 3 end one base g long (omega arith) first)
    ∙ append_assoc base (take 3 g) (61 ∷ []) ∙ ap (λ (t : List ℕ). base ++ t) (sym (two_left d couple))

pub none_written : (base d : List ℕ) → length d ≡ 0 → base ≡ base ++ encode_of standard d
unfolding encode_symbols
none_written base (x ∷ d) e = absurd (omega arith)
none_written base [] e = sym (append-nil base)

-- ---- the digits of twelve bytes
small_sixes : (d : List ℕ) → Each1 (Fits w8) d → Each1 (λ x. x < 64) (six_bits d)
small_sixes [] h = tt
small_sixes (a ∷ []) h = tt
small_sixes (a ∷ b ∷ []) h = tt
small_sixes (a ∷ b ∷ c ∷ d) h =
    let p = h.0.fits in
    let q = h.1.0.fits in
    let r = h.1.1.0.fits in
    (omega (arith, p), (omega (arith, q), (omega (arith, r), (omega arith, small_sixes d h.1.1.1))))

pub sixes_below : (d v : List ℕ) → ((k : ℕ) → Fits w8 (get_or d k 0)) → v ≡ six_bits (take 12 (take 16 d)) → All (λ x. x < 64) v
sixes_below d v fits e k x lt =
    let same : take 12 (take 16 d) ≡ take 12 d = take-take 12 16 d (omega arith) in
    let all : Each1 (λ y. y < 64) v = subst (Each1 (λ y. y < 64)) (ap six_bits (sym same) ∙ sym e) (small_sixes (take 12 d) (chunk-fits w8 0 12 d fits)) in
    Each1-get_or (λ y. y < 64) v k x lt all

digits_of_sixes : (k : ℕ) (d : List ℕ) → length d ≡ thrice k → map (λ x. slice_index symbols x) (six_bits d) ≡ encode_symbols symbols d
unfolding encode_symbols
digits_of_sixes zero [] e = refl
digits_of_sixes zero (a ∷ d) e = absurd (omega arith)
digits_of_sixes (suc k) [] e = absurd (omega arith)
digits_of_sixes (suc k) (a ∷ []) e = absurd (omega arith)
digits_of_sixes (suc k) (a ∷ b ∷ []) e = absurd (omega arith)
digits_of_sixes (suc k) (a ∷ b ∷ c ∷ d) e = ap (λ (t : List ℕ). encode_group symbols a b c ++ t) (digits_of_sixes k d (omega (arith, e)))

pub twelve_stored : (at : ℕ) (text d sixes v : List ℕ) → 16 ≤ length d → at + 16 ≤ length text → length v ≡ 16 → sixes ≡ six_bits (take 12 (take 16 d)) → v ≡ map (λ x. slice_index symbols x) sixes → take (at + 16) (put_chunk at text v) ≡ take at text ++ encode_symbols symbols (take 12 d)
twelve_stored at text d sixes v long room sixteen e is =
    take_more_put_chunk at text v (at + 16) (omega (arith, sixteen)) room
    ∙ ap (λ (t : List ℕ). take at text ++ t)
    (is ∙ ap (map (λ x. slice_index symbols x)) (e ∙ ap six_bits (take-take 12 16 d (omega arith))) ∙ digits_of_sixes 4 (take 12 d) (length-take-le 12 d (omega (arith, long))))

-- ---- Base64 needs no escapes
true_of : (b : Bool) → T b → b ≡ true
true_of true h = refl
true_of false h = absurd h

symbol_is : (x : ℕ) → x < 64 → is_unescaped (slice_index symbols x) ≡ true
symbol_is x h = true_of _ (upto_sound (λ k. is_unescaped (slice_index symbols k)) 64 tt x h)

unescaped_more : (s t : List ℕ) → flat_map json_byte s ≡ s → flat_map json_byte t ≡ t → flat_map json_byte (s ++ t) ≡ s ++ t
unescaped_more s t e h = flat_map-append json_byte s t ∙ ap₂ (λ (x y : List ℕ). x ++ y) e h

one_symbol : (x : ℕ) (t : List ℕ) → x < 64 → flat_map json_byte t ≡ t → flat_map json_byte (slice_index symbols x ∷ t) ≡ slice_index symbols x ∷ t
one_symbol x t lt h = rw (symbol_is x lt) (ap (λ (s : List ℕ). slice_index symbols x ∷ s) h)

group_unescaped : (a b c : ℕ) → a < 256 → b < 256 → c < 256 → flat_map json_byte (encode_group symbols a b c) ≡ encode_group symbols a b c
group_unescaped a b c p q r = one_symbol (a / 4) _ (omega arith) (one_symbol (a % 4 * 16 + b / 16) _ (omega arith) (one_symbol (b % 16 * 4 + c / 64) _ (omega arith) (one_symbol (c % 64) [] (omega arith) refl)))

pub base64_unescaped : (d : List ℕ) → Each1 (Fits w8) d → flat_map json_byte (encode_of standard d) ≡ encode_of standard d
unfolding encode_symbols
base64_unescaped [] h = refl
base64_unescaped (a ∷ []) h = let p = h.0.fits in one_symbol (a / 4) _ (omega (arith, p)) (one_symbol (a % 4 * 16) _ (omega (arith, p)) refl)
base64_unescaped (a ∷ b ∷ []) h = let p = h.0.fits in let q = h.1.0.fits in one_symbol (a / 4) _ (omega (arith, p)) (one_symbol (a % 4 * 16 + b / 16) _ (omega (arith, p, q)) (one_symbol (b % 16 * 4) _ (omega (arith, q)) refl))
base64_unescaped (a ∷ b ∷ c ∷ d) h =
    ap (flat_map json_byte) (encoded_more a b c d)
    ∙ unescaped_more (encode_group symbols a b c) (encode_of standard d) (group_unescaped a b c h.0.fits h.1.0.fits h.1.1.0.fits) (base64_unescaped d h.1.1.1)
    ∙ sym (encoded_more a b c d)

pub bytes_fit : (d : List ℕ) → ((k : ℕ) → Fits w8 (get_or d k 0)) → Each1 (Fits w8) d
bytes_fit d h = Each1-from_get_or (Fits w8) d 0 (λ i lt. h i)

pub base64_quoted : (base one two new d : List ℕ) → Each1 (Fits w8) d → one ≡ base ++ 34 ∷ [] → two ≡ one ++ encode_of standard d → new ≡ two ++ 34 ∷ [] → new ≡ base ++ base64_string d
unfolding base64_string
base64_quoted base one two new d fits first second is = quotes_written base one two new (encode_of standard d) first (second ∙ ap (λ (t : List ℕ). one ++ t) (sym (base64_unescaped d fits))) is

pub object_written : (base one two new d : List ℕ) → one ≡ base ++ codes "{\"base64\":" → two ≡ one ++ base64_string d → new ≡ two ++ 125 ∷ [] → new ≡ base ++ base64_object d
unfolding base64_object json_string
object_written base one two new d first second is = is ∙ ap (λ (t : List ℕ). t ++ 125 ∷ []) (second ∙ ap (λ (t : List ℕ). t ++ base64_string d) first) ∙ simp append_assoc
