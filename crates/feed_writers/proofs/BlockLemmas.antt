-- Sixteen bytes between quotes, lane by lane.
use Rattle.std.proofs.Common.{◌≡◌, ℕ, zero, suc, ◌+◌, ◌-◌, ◌*◌, ◌/◌, ◌%◌, ◌^◌, ◌<◌, ◌≤◌, Bool, true, false, not, cond, List, [], ◌∷◌, ◌++◌, map, length, take, drop, get_or, replicate, bit_and, eqb, eqb→eq, refl, sym, ap, ap₂, add-one, ◌∙◌, subst, append_assoc, inl, inr, arith, w8, Fits}
use Rattle.std.specs.Prelude.{⊤, if◌then◌else◌, take_while}
use Rattle.std.proofs.lemmas.Bool.{cases_lt}
use Rattle.std.specs.List.{flat_map, range_with_len}
use Rattle.std.proofs.lemmas.List.{get_or-map, length-map, ext_get_or, take-take, take_all, take_at, length-append, length-replicate, length-take-le, length-drop, drop-drop, take-append-drop}
use Rattle.std.proofs.lemmas.List.FromFn.{length-map-range_with_len, get_or-map-range_with_len}
use Rattle.std.proofs.lemmas.Nat.{and_le_r, and_mask, ones-le}
use Rattle.std.proofs.lemmas.Simd.{Each1-all, Each1-weaker, Each1-zip2, Each2-splat, below_from_Fits, length-zip2, zip2_splat, swz_l, SwzOk, SwzOk-from_below, length-swz_l, get_or-swz_l_below, length-chunk, take_more_put_chunk, mask_l-mod, trailing_mask_l}
use Rattle.std.proofs.lemmas.List.Concat.{flat_map-append}
use Rattle.std.proofs.Math.Seq.{take-add, take-append_seam, drop-append_seam}
use lib.Count.{ones, count_trailing_zeros}
use lib.Lanes.{chunk, zip2, pick_l, put_chunk, sel_l, mask_l, top, Each1}
use Rattle.feed_writers.specs.declared.escapes.TheConstants.{DIGITS}
use Rattle.feed_writers.specs.declared.blocks.TheConstants.{WRITTEN, OFFSETS, LOWER, UPPER, LOWER_PAIRS, UPPER_PAIRS}
use Rattle.feed_writers.specs.Quoting.{is_plain_byte, quoted_byte, escape}
use Rattle.feed_writers.specs.QuotedFields.{first_of_byte, high_digit, low_digit, field_of, stops_in, AreParts}
use Rattle.feed_writers.proofs.EscapeLemmas.{glyph_at}
use Rattle.feed_writers.proofs.PlainLemmas.{upto_sound, is_stop, below, tests_of, stops_by_lane, first_more, passed_count, positive}

abbrev listed : (ℕ → ℕ) → ℕ → List ℕ
listed f n = map f (range_with_len 0 n)

-- a fact of each list of n numbers, from the same of n numbers written out
spelled : (P : List ℕ → Type 0) (n : ℕ) → ((f : ℕ → ℕ) → P (listed f n)) → (xs : List ℕ) → length xs ≡ n → P xs
spelled P n h xs long =
    let f = λ (k : ℕ). get_or xs k 0 in
    let many = length-map-range_with_len f 0 n in
    subst P (ext_get_or 0 _ xs (many ∙ sym long) (λ i l. get_or-map-range_with_len f 0 n i i 0 (omega arith) (omega arith))) (h f)

-- ---- digits
abbrev pub Bytes : List ℕ → Type 0
Bytes v = (length v ≡ 16) × Each1 (Fits w8) v

lane_fits : (v : List ℕ) (i : ℕ) → Each1 (Fits w8) v → get_or v i 0 < 256
lane_fits [] i h = omega arith
lane_fits (x ∷ xs) zero h = h.0.fits
lane_fits (x ∷ xs) (suc i) h = lane_fits xs i h.1

abbrev down : ℕ → ℕ → ℕ
down a b = a / 2 ^ b

pub high_ok : (v : List ℕ) → Bytes v → SwzOk w8 16 16 0 (zip2 down v (replicate 16 4))
high_ok v fits =
    let small = Each1-weaker (λ a. a < 256) (λ a. a / 16 < 16) (λ a h. omega arith) v (below_from_Fits w8 v fits.1) in
    SwzOk-from_below w8 16 1 16 0 (zip2 down v (replicate 16 4)) refl (omega (arith, length-zip2 down v (replicate 16 4) fits.0))
    (Each1-zip2 down (λ j. j < 16) v (replicate 16 4) (Each2-splat (λ a b. down a b < 16) v 16 4 small))

pub low_ok : (v : List ℕ) → Bytes v → SwzOk w8 16 16 0 (zip2 bit_and v (replicate 16 15))
low_ok v fits =
    let small = Each1-all (λ a. bit_and a 15 < 16) (λ a. omega (arith, and_le_r a 15)) v in
    SwzOk-from_below w8 16 1 16 0 (zip2 bit_and v (replicate 16 15)) refl (omega (arith, length-zip2 bit_and v (replicate 16 15) fits.0))
    (Each1-zip2 bit_and (λ j. j < 16) v (replicate 16 15) (Each2-splat (λ a b. bit_and a b < 16) v 16 15 small))

-- the digits at the offsets g x below 16
looked_up : (g f : ℕ → ℕ) (v js : List ℕ) → Bytes v → js ≡ map g v → ((x : ℕ) → x < 256 → g x < 16) → ((x : ℕ) → x < 256 → get_or DIGITS (g x) 0 ≡ f x) → swz_l w8 16 DIGITS 0 js ≡ map f v
looked_up g f v js fits e small is =
    let long : length js ≡ 16 = ap length e ∙ length-map v g ∙ fits.0 in
    ext_get_or 0 _ _ (length-swz_l w8 16 DIGITS 0 js ∙ long ∙ sym (length-map v f ∙ fits.0)) (λ i h.
    let lt : i < 16 = omega (arith, length-swz_l w8 16 DIGITS 0 js) in
    let within : i < length v = omega (arith, fits.0) in
    let byte : get_or v i 0 < 256 = lane_fits v i fits.1 in
    let at : get_or js i 0 ≡ g (get_or v i 0) = ap (λ l. get_or l i 0) e ∙ get_or-map g v i 0 0 within in
    let below : get_or js i 0 < 16 = omega (arith, small (get_or v i 0) byte) in
    let spot : 16 * ((0 + i) / 16) + get_or js i 0 ≡ g (get_or v i 0) = omega arith in
    get_or-swz_l_below w8 16 DIGITS 0 js i (omega arith) below ∙ ap (λ k. get_or DIGITS k 0) spot ∙ is (get_or v i 0) byte ∙ sym (get_or-map f v i 0 0 within))

pub high_is : (v : List ℕ) → Bytes v → swz_l w8 16 DIGITS 0 (zip2 down v (replicate 16 4)) ≡ map high_digit v
high_is v fits = looked_up (λ x. x / 16) high_digit v _ fits (zip2_splat down v 16 4 fits.0) (λ x h. omega arith) (λ x h. glyph_at (x / 16) (omega arith))

pub low_is : (v : List ℕ) → Bytes v → swz_l w8 16 DIGITS 0 (zip2 bit_and v (replicate 16 15)) ≡ map low_digit v
low_is v fits =
    looked_up (λ x. bit_and x 15) low_digit v _ fits (zip2_splat bit_and v 16 15 fits.0) (λ x h. omega (arith, and_le_r x 15))
    (λ x h. ap (λ k. get_or DIGITS k 0) (and_mask x 4) ∙ glyph_at (x % 16) (omega arith))

-- ---- four bytes
pub four_most : (at stops : ℕ) → stops < 16 → at + 4 + 2 * ones stops ≤ at + 12
four_most at stops few = omega (arith, ones-le 4 stops few)

pub row_long : (n : ℕ) → n < 16 → length (get_or WRITTEN n []) ≡ 16
row_long n few = eqb→eq _ _ (upto_sound (λ k. eqb (length (get_or WRITTEN k [])) 16) 16 tt n few)

-- the first m bytes of what was stored
stored : (at m : ℕ) (text ys : List ℕ) → at + length ys ≤ length text → m ≤ length ys → take (at + m) (put_chunk at text ys) ≡ take at text ++ take m ys
stored at m text ys room few =
    let a = take at text in
    let long : length a ≡ at = length-take-le at text (omega arith) in
    sym (take-take (at + m) (at + length ys) (put_chunk at text ys) (omega arith))
    ∙ ap (take (at + m)) (take_more_put_chunk at text ys (at + length ys) refl room)
    ∙ ap (λ (k : ℕ). take (k + m) (a ++ ys)) (sym long)
    ∙ take-add (length a) m (a ++ ys)
    ∙ ap₂ (λ (x y : List ℕ). x ++ take m y) (take-append_seam a ys) (drop-append_seam a ys)

abbrev bit : Bool → ℕ
bit p = if p then 0 else 1

abbrev set_of : Bool → Bool → Bool → Bool → ℕ
set_of p q r s = bit p + 2 * (bit q + 2 * (bit r + 2 * (bit s + 2 * 0)))

abbrev head : Bool → ℕ → ℕ
head p b = if p then b else 92

abbrev form : Bool → ℕ → ℕ → ℕ → List ℕ
form p b h l = if p then b ∷ [] else 92 ∷ h ∷ l ∷ []

abbrev Kept : Bool → Bool → Bool → Bool → Type 0
Kept p q r s = (a b c d ha hb hc hd la lb lc ld : ℕ)
    → take (4 + 2 * ones (set_of p q r s))
    (swz_l w8 16 (head p a ∷ ha ∷ la ∷ la ∷ head q b ∷ hb ∷ lb ∷ lb ∷ head r c ∷ hc ∷ lc ∷ lc ∷ head s d ∷ hd ∷ ld ∷ ld ∷ []) 0 (get_or WRITTEN (set_of p q r s) []))
    ≡ form p a ha la ++ (form q b hb lb ++ (form r c hc lc ++ (form s d hd ld ++ [])))

kept : (p q r s : Bool) → Kept p q r s
unfolding ones
kept true true true true a b c d ha hb hc hd la lb lc ld = refl
kept true true true false a b c d ha hb hc hd la lb lc ld = refl
kept true true false true a b c d ha hb hc hd la lb lc ld = refl
kept true true false false a b c d ha hb hc hd la lb lc ld = refl
kept true false true true a b c d ha hb hc hd la lb lc ld = refl
kept true false true false a b c d ha hb hc hd la lb lc ld = refl
kept true false false true a b c d ha hb hc hd la lb lc ld = refl
kept true false false false a b c d ha hb hc hd la lb lc ld = refl
kept false true true true a b c d ha hb hc hd la lb lc ld = refl
kept false true true false a b c d ha hb hc hd la lb lc ld = refl
kept false true false true a b c d ha hb hc hd la lb lc ld = refl
kept false true false false a b c d ha hb hc hd la lb lc ld = refl
kept false false true true a b c d ha hb hc hd la lb lc ld = refl
kept false false true false a b c d ha hb hc hd la lb lc ld = refl
kept false false false true a b c d ha hb hc hd la lb lc ld = refl
kept false false false false a b c d ha hb hc hd la lb lc ld = refl

four_kept : (bytes : List ℕ) → length bytes ≡ 4 → take (4 + 2 * ones (stops_in bytes)) (swz_l w8 16 (flat_map field_of bytes) 0 (get_or WRITTEN (stops_in bytes) [])) ≡ flat_map quoted_byte bytes
four_kept [] e = absurd (omega arith)
four_kept (a ∷ []) e = absurd (omega arith)
four_kept (a ∷ b ∷ []) e = absurd (omega arith)
four_kept (a ∷ b ∷ c ∷ []) e = absurd (omega arith)
four_kept (a ∷ b ∷ c ∷ d ∷ x ∷ xs) e = absurd (omega arith)
four_kept (a ∷ b ∷ c ∷ d ∷ []) e =
    kept (is_plain_byte a) (is_plain_byte b) (is_plain_byte c) (is_plain_byte d) a b c d (high_digit a) (high_digit b) (high_digit c) (high_digit d) (low_digit a) (low_digit b) (low_digit c) (low_digit d)

pub four_written : (at stops : ℕ) (text fields bytes : List ℕ) → stops < 16 → at + 16 ≤ length text → length bytes ≡ 4 → fields ≡ flat_map field_of bytes → stops ≡ stops_in bytes
    → take (at + 4 + 2 * ones stops) (put_chunk at text (swz_l w8 16 fields 0 (get_or WRITTEN stops []))) ≡ take at text ++ flat_map quoted_byte bytes
four_written at stops text fields bytes few room four e s =
    let ys = swz_l w8 16 fields 0 (get_or WRITTEN stops []) in
    let long : length ys ≡ 16 = length-swz_l w8 16 fields 0 (get_or WRITTEN stops []) ∙ row_long stops few in
    let m : at + 4 + 2 * ones stops ≡ at + (4 + 2 * ones stops) = omega arith in
    ap (λ (k : ℕ). take k (put_chunk at text ys)) m
    ∙ stored at (4 + 2 * ones stops) text ys (omega arith) (omega (arith, ones-le 4 stops few))
    ∙ ap (λ (t : List ℕ). take at text ++ t)
    (ap₂ (λ (k : ℕ) (fs : List ℕ). take (4 + 2 * ones k) (swz_l w8 16 fs 0 (get_or WRITTEN k []))) s e ∙ four_kept bytes four)

-- ---- sixteen bytes
abbrev field : (ℕ → ℕ) → (ℕ → ℕ) → (ℕ → ℕ) → ℕ → List ℕ
field f h l b = f b ∷ h b ∷ l b ∷ l b ∷ []

abbrev woven : List ℕ → List ℕ → List ℕ → List ℕ → List ℕ → List ℕ → List ℕ
woven first high low ks ls ms = pick_l 0 (pick_l 0 (first ++ high) ks ++ pick_l 0 (low ++ low) ls) ms

record Woven (f h l : ℕ → ℕ) (bytes : List ℕ) : Type 0 where
  one : woven (map f bytes) (map h bytes) (map l bytes) LOWER LOWER LOWER_PAIRS ≡ flat_map (field f h l) (take 4 bytes)
  two : woven (map f bytes) (map h bytes) (map l bytes) LOWER LOWER UPPER_PAIRS ≡ flat_map (field f h l) (take 4 (drop 4 bytes))
  three : woven (map f bytes) (map h bytes) (map l bytes) UPPER UPPER LOWER_PAIRS ≡ flat_map (field f h l) (take 4 (drop 8 bytes))
  four : woven (map f bytes) (map h bytes) (map l bytes) UPPER UPPER UPPER_PAIRS ≡ flat_map (field f h l) (take 4 (drop 12 bytes))
  whole : bytes ≡ take 4 bytes ++ (take 4 (drop 4 bytes) ++ (take 4 (drop 8 bytes) ++ take 4 (drop 12 bytes)))

weaves : (f h l : ℕ → ℕ) (bytes : List ℕ) → length bytes ≡ 16 → Woven f h l bytes
weaves f h l = spelled (Woven f h l) 16 (λ g. record { one = refl; two = refl; three = refl; four = refl; whole = refl })

bit_most : (p : Bool) → bit p ≤ 1
bit_most true = omega arith
bit_most false = omega arith

split_stops : (bytes : List ℕ) → 4 ≤ length bytes → (stops_in bytes % 16 ≡ stops_in (take 4 bytes)) × (stops_in bytes / 16 ≡ stops_in (drop 4 bytes))
split_stops [] h = absurd (omega arith)
split_stops (a ∷ []) h = absurd (omega arith)
split_stops (a ∷ b ∷ []) h = absurd (omega arith)
split_stops (a ∷ b ∷ c ∷ []) h = absurd (omega arith)
split_stops (a ∷ b ∷ c ∷ d ∷ xs) h =
    let p = bit_most (is_plain_byte a) in
    let q = bit_most (is_plain_byte b) in
    let r = bit_most (is_plain_byte c) in
    let s = bit_most (is_plain_byte d) in
    (omega (arith, p, q, r, s), omega (arith, p, q, r, s))

record Stops (bytes : List ℕ) : Type 0 where
  one : stops_in bytes % 16 ≡ stops_in (take 4 bytes)
  two : stops_in bytes / 16 % 16 ≡ stops_in (take 4 (drop 4 bytes))
  three : stops_in bytes / 256 % 16 ≡ stops_in (take 4 (drop 8 bytes))
  four : stops_in bytes / 4096 % 16 ≡ stops_in (take 4 (drop 12 bytes))

stops_split : (bytes : List ℕ) → length bytes ≡ 16 → Stops bytes
stops_split = spelled Stops 16 (λ g. let a = split_stops (listed g 16) (omega arith) in
    let b = split_stops (drop 4 (listed g 16)) (omega arith) in
    let c = split_stops (drop 8 (listed g 16)) (omega arith) in
    let d = split_stops (drop 12 (listed g 16)) (omega arith) in
    let x = stops_in (listed g 16) in
    let two : x / 256 ≡ x / 16 / 16 = omega arith in
    let three : x / 4096 ≡ x / 16 / 16 / 16 = omega arith in
    record {
      one = a.0;
      two = ap (λ (k : ℕ). k % 16) a.1 ∙ b.0;
      three = ap (λ (k : ℕ). k % 16) (two ∙ ap (λ (k : ℕ). k / 16) a.1 ∙ b.1) ∙ c.0;
      four = ap (λ (k : ℕ). k % 16) (three ∙ ap (λ (k : ℕ). k / 16) (ap (λ (k : ℕ). k / 16) a.1 ∙ b.1) ∙ c.1) ∙ d.0;
    })

pub record Parts (first high low bytes : List ℕ) (stops : ℕ) : Type 0 where
  pub one : woven first high low LOWER LOWER LOWER_PAIRS ≡ flat_map field_of (take 4 bytes)
  pub two : woven first high low LOWER LOWER UPPER_PAIRS ≡ flat_map field_of (take 4 (drop 4 bytes))
  pub three : woven first high low UPPER UPPER LOWER_PAIRS ≡ flat_map field_of (take 4 (drop 8 bytes))
  pub four : woven first high low UPPER UPPER UPPER_PAIRS ≡ flat_map field_of (take 4 (drop 12 bytes))
  pub stops_one : stops % 16 ≡ stops_in (take 4 bytes)
  pub stops_two : stops / 16 % 16 ≡ stops_in (take 4 (drop 4 bytes))
  pub stops_three : stops / 256 % 16 ≡ stops_in (take 4 (drop 8 bytes))
  pub stops_four : stops / 4096 % 16 ≡ stops_in (take 4 (drop 12 bytes))

pub parts : (bytes first high low : List ℕ) (stops : ℕ) → AreParts bytes first high low stops → Parts first high low bytes stops
parts bytes first high low stops h =
    let w = weaves first_of_byte high_digit low_digit bytes h.sixteen in
    let p = stops_split bytes h.sixteen in
    record {
      one = rw (h.firsts, h.highs, h.lows) w.one;
      two = rw (h.firsts, h.highs, h.lows) w.two;
      three = rw (h.firsts, h.highs, h.lows) w.three;
      four = rw (h.firsts, h.highs, h.lows) w.four;
      stops_one = rw h.bits p.one;
      stops_two = rw h.bits p.two;
      stops_three = rw h.bits p.three;
      stops_four = rw h.bits p.four;
    }

pub part_long : (k : ℕ) (bytes : List ℕ) → length bytes ≡ 16 → k ≤ 12 → length (take 4 (drop k bytes)) ≡ 4
part_long k bytes long few = length-chunk k 4 bytes (omega (arith, long))

quoted_parts : (a b c d : List ℕ) → flat_map quoted_byte (a ++ (b ++ (c ++ d))) ≡ flat_map quoted_byte a ++ (flat_map quoted_byte b ++ (flat_map quoted_byte c ++ flat_map quoted_byte d))
quoted_parts a b c d = simp flat_map-append

joined : (base a b c d : List ℕ) → (((base ++ a) ++ b) ++ c) ++ d ≡ base ++ (a ++ (b ++ (c ++ d)))
joined base a b c d = simp append_assoc

pub parts_written : (base one two three four bytes : List ℕ) → length bytes ≡ 16 → one ≡ base ++ flat_map quoted_byte (take 4 bytes) → two ≡ one ++ flat_map quoted_byte (take 4 (drop 4 bytes)) → three ≡ two ++ flat_map quoted_byte (take 4 (drop 8 bytes))
    → four ≡ three ++ flat_map quoted_byte (take 4 (drop 12 bytes)) → four ≡ base ++ flat_map quoted_byte bytes
parts_written base one two three four bytes long e f g h =
    let q = flat_map quoted_byte in
    let a = take 4 bytes in
    let b = take 4 (drop 4 bytes) in
    let c = take 4 (drop 8 bytes) in
    let d = take 4 (drop 12 bytes) in
    let w = weaves first_of_byte high_digit low_digit bytes long in
    h
    ∙ ap (λ (t : List ℕ). t ++ q d) (g ∙ ap (λ (t : List ℕ). t ++ q c) (f ∙ ap (λ (t : List ℕ). t ++ q b) e))
    ∙ joined base (q a) (q b) (q c) (q d)
    ∙ ap (λ (t : List ℕ). base ++ t) (sym (ap q w.whole ∙ quoted_parts a b c d))

-- ---- from the load
-- the first characters, as the code selects them
selected : (v : List ℕ) → sel_l (map is_stop v) (replicate (length v) 92) v ≡ map first_of_byte v
selected [] = refl
selected (x ∷ v) = ap₂ (λ (a : ℕ) (b : List ℕ). a ∷ b) (one (is_plain_byte x) x) (selected v)
  where
    one : (p : Bool) (x : ℕ) → cond (not p) 92 x ≡ head p x
    one true x = refl
    one false x = refl

pub first_is : (v : List ℕ) (ms : List Bool) → length v ≡ 16 → ms ≡ map is_stop v → sel_l ms (replicate 16 92) v ≡ map first_of_byte v
first_is v ms long e = ap (λ (m : List Bool). sel_l m (replicate 16 92) v) e ∙ ap (λ (n : ℕ). sel_l (map is_stop v) (replicate n 92) v) (sym long) ∙ selected v

mask_is : (v : List ℕ) → mask_l (map is_stop v) ≡ stops_in v
mask_is [] = refl
mask_is (x ∷ v) = ap₂ (λ (a b : ℕ). a + 2 * b) (one (is_plain_byte x)) (mask_is v)
  where
    one : (p : Bool) → cond (not p) 1 0 ≡ bit p
    one true = refl
    one false = refl

pub stops_are : (v : List ℕ) → Bytes v → mask_l (tests_of v 16) % 2 ^ 64 ≡ stops_in v
stops_are v fits = ap (λ l. mask_l l % 2 ^ 64) (stops_by_lane v 16 fits.0 fits.1) ∙ mask_l-mod (map is_stop v) 64 (omega (arith, length-map v is_stop, fits.0)) ∙ mask_is v

plain_one : (p : Bool) (x h l k : ℕ) (r s : List ℕ) → bit p + 2 * k ≡ 0 → (k ≡ 0 → r ≡ s) → form p x h l ++ r ≡ x ∷ s
plain_one true x h l k r s e f = ap (λ (t : List ℕ). x ∷ t) (f (omega arith))
plain_one false x h l k r s e f = absurd (omega arith)

plain_all : (v : List ℕ) → stops_in v ≡ 0 → flat_map quoted_byte v ≡ v
plain_all [] e = refl
plain_all (x ∷ v) e = plain_one (is_plain_byte x) x (high_digit x) (low_digit x) (stops_in v) (flat_map quoted_byte v) v e (plain_all v)

-- sixteen bytes that need no escape were stored
pub plain_stored : (at : ℕ) (text v : List ℕ) → Bytes v → at + 52 ≤ length text → mask_l (tests_of v 16) % 2 ^ 64 ≡ 0 → take (at + 16) (put_chunk at text v) ≡ take at text ++ flat_map quoted_byte v
plain_stored at text v fits room e =
    take_more_put_chunk at text v (at + 16) (omega (arith, fits.0)) (omega arith) ∙ ap (λ (t : List ℕ). take at text ++ t) (sym (plain_all v (sym (stops_are v fits) ∙ e)))

-- ---- the last bytes, with spaces after them
abbrev sum : ℕ → ℕ → ℕ
sum a b = (a + b) % 256

abbrev Each : (ℕ → Type 0) → ℕ → Type 0
Each P zero = ⊤
Each P (suc n) = P n × Each P n

each : (P : ℕ → Type 0) (n k : ℕ) → Each P n → k < n → P k
each P zero k h l = absurd (omega arith)
each P (suc n) k h l = elim (cases_lt k n) [ inl a ↦ each P n k h.1 a | inr a ↦ let e : n ≡ k = omega arith in subst P e h.0 ]

abbrev pub moved_to : List ℕ → ℕ → List ℕ
moved_to last len = sel_l (map (top 7) (zip2 below OFFSETS (replicate 16 len))) (swz_l w8 16 last 0 (zip2 bit_and (zip2 sum OFFSETS (replicate 16 (16 - len))) (replicate 16 15))) (replicate 16 32)

abbrev Moves : List ℕ → ℕ → Type 0
Moves last len = moved_to last len ≡ drop (16 - len) last ++ replicate (16 - len) 32

moves : (len : ℕ) → len ≤ 16 → (last : List ℕ) → length last ≡ 16 → Moves last len
moves len few = spelled (λ last. Moves last len) 16 (λ g. each (Moves (listed g 16)) 17 len
    (refl, (refl, (refl, (refl, (refl, (refl, (refl, (refl, (refl, (refl, (refl, (refl, (refl, (refl, (refl, (refl, (refl, tt))))))))))))))))) (omega arith))

pub last_moved : (len : ℕ) (bytes : List ℕ) → len ≤ 16 → 16 ≤ length bytes → moved_to (chunk (length bytes - 16) 16 bytes) len ≡ drop (length bytes - len) bytes ++ replicate (16 - len) 32
last_moved len bytes few long =
    let i = length bytes - 16 in
    let rest = drop i bytes in
    let all : chunk i 16 bytes ≡ rest = take_all 16 rest (omega (arith, length-drop i bytes)) in
    let from : i + (16 - len) ≡ length bytes - len = omega arith in
    moves len few (chunk i 16 bytes) (length-chunk i 16 bytes (omega arith))
    ∙ ap (λ (t : List ℕ). t ++ replicate (16 - len) 32) (ap (drop (16 - len)) all ∙ drop-drop (16 - len) i bytes ∙ ap (λ (k : ℕ). drop k bytes) from)

abbrev pub kept_of : List ℕ → ℕ → List ℕ
kept_of first len = sel_l (map (top 7) (zip2 below OFFSETS (replicate 16 len))) first (replicate 16 32)

abbrev Keeps : List ℕ → ℕ → Type 0
Keeps first len = kept_of first len ≡ take len first ++ replicate (16 - len) 32

keeps : (len : ℕ) → len ≤ 16 → (first : List ℕ) → length first ≡ 16 → Keeps first len
keeps len few = spelled (λ first. Keeps first len) 16 (λ g. each (Keeps (listed g 16)) 17 len
    (refl, (refl, (refl, (refl, (refl, (refl, (refl, (refl, (refl, (refl, (refl, (refl, (refl, (refl, (refl, (refl, (refl, tt))))))))))))))))) (omega arith))

pub first_kept : (len : ℕ) (bytes : List ℕ) → len ≤ 16 → 16 ≤ length bytes → kept_of (take 16 bytes) len ≡ take len bytes ++ replicate (16 - len) 32
first_kept len bytes few long = keeps len few (take 16 bytes) (length-take-le 16 bytes long) ∙ ap (λ (t : List ℕ). t ++ replicate (16 - len) 32) (take-take len 16 bytes few)

-- some of the first bytes
pub kept_prefix : (n len k : ℕ) (v bytes : List ℕ) → n ≤ len → len ≤ length bytes → v ≡ take len bytes ++ replicate k 32 → take n v ≡ take n bytes
kept_prefix n len k v bytes few room e =
    let long : length (take len bytes) ≡ len = length-take-le len bytes room in
    ap (take {A = ℕ} n) e
    ∙ sym (take-take n len (take len bytes ++ replicate k 32) few) ∙ ap (take {A = ℕ} n) (take_at (take len bytes) (replicate k 32) len long)
    ∙ take-take n len bytes few

quoted_most : (d : List ℕ) → length (flat_map quoted_byte d) ≤ 3 * length d
quoted_most [] = omega arith
quoted_most (x ∷ d) = omega (arith, quoted_most d, one (is_plain_byte x) x (high_digit x) (low_digit x) (flat_map quoted_byte d))
  where
    one : (p : Bool) (x h l : ℕ) (t : List ℕ) → length (form p x h l ++ t) ≤ 3 + length t
    one true x h l t = omega arith
    one false x h l t = omega arith

spaces : (k : ℕ) → flat_map quoted_byte (replicate k 32) ≡ replicate k 32
spaces zero = refl
spaces (suc k) = ap (λ (t : List ℕ). 32 ∷ t) (spaces k)

pub record Padded (r k n : ℕ) (base new rest : List ℕ) : Type 0 where
  pub within : k - n ≤ r
  pub most : r - (k - n) ≤ length base + 3 * n
  pub text : take (r - (k - n)) new ≡ base ++ flat_map quoted_byte rest

-- of k bytes the first n were to be written; the spaces after them don't count
pub padded : (r k : ℕ) (base new v rest : List ℕ) → length rest ≤ k → r ≤ length new → v ≡ rest ++ replicate (k - length rest) 32 → take r new ≡ base ++ flat_map quoted_byte v → Padded r k (length rest) base new rest
padded r k base new v rest few room e is =
    let n = length rest in
    let m = k - n in
    let q = flat_map quoted_byte rest in
    let s : List ℕ = replicate m 32 in
    let parts : flat_map quoted_byte v ≡ q ++ s = ap (flat_map quoted_byte) e ∙ flat_map-append quoted_byte rest s ∙ ap (λ (t : List ℕ). q ++ t) (spaces m) in
    let whole : take r new ≡ (base ++ q) ++ s = is ∙ ap (λ (t : List ℕ). base ++ t) parts ∙ sym (append_assoc base q s) in
    let len : r ≡ length base + length q + m = omega (arith, ap length whole, length-take-le r new room, length-append (base ++ q) s, length-append base q, length-replicate {A = ℕ} m 32) in
    let end : r - m ≡ length (base ++ q) = omega (arith, length-append base q) in
    record {
      within = omega arith;
      most = omega (arith, quoted_most rest);
      text = sym (take-take (r - m) r new (omega arith)) ∙ ap (take (r - m)) whole ∙ ap (λ (j : ℕ). take j ((base ++ q) ++ s)) end ∙ take-append_seam (base ++ q) s;
    }

-- ---- up to the first byte that needs an escape
-- of bytes among which some need an escape, how many are before the first such, and what is written of these and it
pub record UpTo (n : ℕ) (v : List ℕ) : Type 0 where
  pub within : n < length v
  pub text : flat_map quoted_byte (take (suc n) v) ≡ take n v ++ escape (get_or v n 0)

up_to_more : (x m : ℕ) (v : List ℕ) → is_plain_byte x ≡ true → UpTo m v → UpTo (suc m) (x ∷ v)
up_to_more x m v h t = record { within = omega (arith, t.within); text = rw h (ap (λ (l : List ℕ). x ∷ l) t.text) }

up_to : (v : List ℕ) (n : ℕ) → (stops_in v ≡ 0 → ⊥) → n ≡ length (take_while is_plain_byte v) → UpTo n v
up_to [] n some e = absurd (some refl)
up_to (x ∷ v) n some e = split (λ m more f. up_to v m more f) (is_plain_byte x) refl n e
  where
    split : ((m : ℕ) → (stops_in v ≡ 0 → ⊥) → m ≡ length (take_while is_plain_byte v) → UpTo m v) → (p : Bool) → is_plain_byte x ≡ p → (m : ℕ) → m ≡ length (take_while is_plain_byte (x ∷ v)) → UpTo m (x ∷ v)
    split more true h zero f = let one = first_more x v h in absurd (omega (arith, f, one))
    split more true h (suc m) f =
        let one = first_more x v h in
        up_to_more x m v h (more m (λ z. some (rw (h, z) refl)) (omega (arith, f, one)))
    split more false h m f =
        let none : length (take_while is_plain_byte (x ∷ v)) ≡ 0 = rw h refl in
        let at : m ≡ 0 = f ∙ none in
        subst (λ k. UpTo k (x ∷ v)) (sym at) (record { within = omega arith; text = rw h refl })

pub up_to_stop : (v : List ℕ) (stops : ℕ) → Bytes v → stops ≡ mask_l (tests_of v 16) % 2 ^ 64 → (stops ≡ 0 → ⊥) → UpTo (count_trailing_zeros 64 stops) v
up_to_stop v stops fits is some =
    let by_lane : stops ≡ mask_l (map is_stop v) = is ∙ ap (λ l. mask_l l % 2 ^ 64) (stops_by_lane v 16 fits.0 fits.1) ∙ mask_l-mod (map is_stop v) 64 (omega (arith, length-map v is_stop, fits.0)) in
    let bits : stops ≡ stops_in v = is ∙ stops_are v fits in
    up_to v (count_trailing_zeros 64 stops) (λ z. some (bits ∙ z)) (ap (count_trailing_zeros 64) by_lane ∙ trailing_mask_l is_stop 64 v (omega (arith, fits.0)) (omega (arith, by_lane, positive stops some)) ∙ passed_count is_plain_byte v)

pub escape_stored : (at n end : ℕ) (text new v e : List ℕ) → length v ≡ 16 → n < 16 → at + 52 ≤ length text → end ≡ at + n + 3 → take end new ≡ take (at + n) (put_chunk at text v) ++ e → take end new ≡ take at text ++ (take n v ++ e)
escape_stored at n end text new v e long few room to is = is ∙ ap (λ (t : List ℕ). t ++ e) (stored at n text v (omega arith) (omega arith)) ∙ append_assoc (take at text) (take n v) e

pub all_written : (base new v : List ℕ) → length v ≡ 16 → new ≡ base ++ flat_map quoted_byte v → new ≡ base ++ flat_map quoted_byte (take 16 v)
all_written base new v long is = is ∙ ap (λ (t : List ℕ). base ++ flat_map quoted_byte t) (sym (take_all 16 v (omega (arith, long))))

pub escape_written : (base new v : List ℕ) (n : ℕ) → UpTo n v → new ≡ base ++ (take n v ++ escape (get_or v n 0)) → new ≡ base ++ flat_map quoted_byte (take (n + 1) v)
escape_written base new v n t is = is ∙ ap (λ (l : List ℕ). base ++ l) (sym t.text) ∙ ap (λ (k : ℕ). base ++ flat_map quoted_byte (take k v)) (sym (add-one n))

-- ---- a run of bytes after others
pub run_more : (n : ℕ) (base new all v rest after : List ℕ) → new ≡ base ++ flat_map quoted_byte (take n v) → take n v ≡ take n rest → after ≡ drop n rest → base ++ flat_map quoted_byte rest ≡ all → new ++ flat_map quoted_byte after ≡ all
run_more n base new all v rest after f same g h =
    let q = flat_map quoted_byte in
    ap (λ (t : List ℕ). t ++ q after) (f ∙ ap (λ (t : List ℕ). base ++ q t) same)
    ∙ append_assoc base (q (take n rest)) (q after)
    ∙ ap (λ (t : List ℕ). base ++ t)
    (ap (λ (t : List ℕ). q (take n rest) ++ q t) g ∙ sym (flat_map-append quoted_byte (take n rest) (drop n rest)) ∙ ap q (take-append-drop n rest))
    ∙ h

-- a run within the bytes that remain
pub run_within : (n : ℕ) (v rest : List ℕ) → n ≤ 16 → n ≤ length rest → (16 ≤ length rest → v ≡ take 16 rest) → (length rest ≤ 16 → v ≡ rest ++ replicate (16 - length rest) 32) → take n v ≡ take n rest
run_within n v rest few within full pads =
    elim (cases_lt (length rest) 16) [
      | inl l ↦ ap (take n) (pads (omega arith)) ∙ take_append_within n rest _ within
      | inr g ↦ ap (take n) (full g) ∙ take-take n 16 rest few
    ]
  where
    take_append_within : (k : ℕ) (xs ys : List ℕ) → k ≤ length xs → take k (xs ++ ys) ≡ take k xs
    take_append_within zero xs ys h = refl
    take_append_within (suc k) [] ys h = absurd (omega arith)
    take_append_within (suc k) (x ∷ xs) ys h = ap (λ (t : List ℕ). x ∷ t) (take_append_within k xs ys (omega arith))

-- a run that has all bytes that remain
pub run_beyond : (n : ℕ) (v rest : List ℕ) → n ≤ 16 → length rest ≤ n → (length rest ≤ 16 → v ≡ rest ++ replicate (16 - length rest) 32) → take n v ≡ rest ++ replicate (n - length rest) 32
run_beyond n v rest few all pads =
    ap (take {A = ℕ} n) (pads (omega arith)) ∙ beyond n rest (16 - length rest) all (omega arith)
  where
    fewer : (k m : ℕ) → k ≤ m → take {A = ℕ} k (replicate m 32) ≡ replicate k 32
    fewer zero m h = refl
    fewer (suc k) zero h = absurd (omega arith)
    fewer (suc k) (suc m) h = ap (λ (t : List ℕ). 32 ∷ t) (fewer k m (omega arith))

    beyond : (k : ℕ) (xs : List ℕ) (m : ℕ) → length xs ≤ k → k ≤ length xs + m → take k (xs ++ replicate m 32) ≡ xs ++ replicate (k - length xs) 32
    beyond k [] m h l = let whole : k - 0 ≡ k = omega arith in fewer k m (omega arith) ∙ ap (λ (j : ℕ). replicate {A = ℕ} j 32) (sym whole)
    beyond zero (x ∷ xs) m h l = absurd (omega arith)
    beyond (suc k) (x ∷ xs) m h l =
        let left : k - length xs ≡ suc k - suc (length xs) = omega arith in
        ap (λ (t : List ℕ). x ∷ t) (beyond k xs m (omega arith) (omega arith) ∙ ap (λ (j : ℕ). xs ++ replicate {A = ℕ} j 32) left)

pub rest_more : (k : ℕ) (bytes rest after : List ℕ) → length rest ≤ length bytes → rest ≡ drop (length bytes - length rest) bytes → after ≡ drop k rest → length after + k ≡ length rest → after ≡ drop (length bytes - length after) bytes
rest_more k bytes rest after few e g long =
    let from : length bytes - length rest + k ≡ length bytes - length after = omega arith in
    g ∙ ap (drop k) e ∙ drop-drop k (length bytes - length rest) bytes ∙ ap (λ (m : ℕ). drop m bytes) from
