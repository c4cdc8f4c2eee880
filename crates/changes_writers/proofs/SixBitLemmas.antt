-- Base64, twelve bytes at a time, lane by lane.
use Rattle.std.proofs.Common.{◌≡◌, ℕ, suc, ◌+◌, ◌-◌, ◌*◌, ◌/◌, ◌%◌, ◌^◌, ◌<◌, ltb, eqb, eqb→eq, cond, List, [], ◌∷◌, ◌++◌, map, length, take, get_or, replicate, bit_and, refl, sym, ap, ap₂, ◌∙◌, subst, arith, w8, Fits}
use Rattle.std.specs.Prelude.{All, slice_index}
use Rattle.std.specs.List.{range_with_len}
use Rattle.std.proofs.lemmas.List.{length-map, ext_get_or}
use Rattle.std.proofs.lemmas.List.FromFn.{length-map-range_with_len, get_or-map-range_with_len}
use Rattle.std.proofs.lemmas.Nat.{and_mask}
use Rattle.std.proofs.lemmas.Simd.{Each1-from_get_or, Each1-get_or, swz_l, SwzOk, SwzOk-from_below}
use lib.Bits.{bit_or}
use Rattle.std.proofs.Math.Facts.{ltb_yes}
use lib.Lanes.{zip2, pick_l, sel_l, top, Each1, number_l, digits_l}
use mir.Val.{zeroes}
use Rattle.base64.specs.Engines.{standard}
use Rattle.base64.specs.GeneralPurpose.{engine_symbols}
use Rattle.feed_writers.proofs.PlainLemmas.{upto_sound}
use Rattle.changes_writers.specs.declared.base64_text.TheConstants.{SHIFTS, GROUPS, DOWN, UP}
use Rattle.changes_writers.specs.SixBits.{six_bits}

abbrev listed : (ℕ → ℕ) → ℕ → List ℕ
listed f n = map f (range_with_len 0 n)

-- a fact of each list of n numbers, from the same of n numbers written out
spelled : (P : List ℕ → Type 0) (n : ℕ) → ((f : ℕ → ℕ) → P (listed f n)) → (xs : List ℕ) → length xs ≡ n → P xs
spelled P n h xs long =
    let f = λ (k : ℕ). get_or xs k 0 in
    let many = length-map-range_with_len f 0 n in
    subst P (ext_get_or 0 _ xs (many ∙ sym long) (λ i l. get_or-map-range_with_len f 0 n i i 0 (omega arith) (omega arith))) (h f)

-- ---- the digits of sixteen numbers, as the code computes them
abbrev below : ℕ → ℕ → ℕ
below a b = cond (ltb a b) 255 0

abbrev sum : ℕ → ℕ → ℕ
sum a b = (a + b) % 256

abbrev less : ℕ → ℕ → ℕ
less a b = (a + (256 - b)) % 256

abbrev pub indexes_of : List ℕ → List ℕ
indexes_of v = zip2 bit_or (zip2 less (sel_l (map (top 7) (zip2 below v (replicate 16 51))) (replicate 16 51) v) (replicate 16 51)) (sel_l (map (top 7) (zip2 below v (replicate 16 26))) (replicate 16 13) (replicate 16 0))

abbrev pub digits_of : List ℕ → List ℕ
digits_of v = zip2 sum v (swz_l w8 16 SHIFTS 0 (indexes_of v))

abbrev index : ℕ → ℕ
index x = bit_or (less (cond (top 7 (below x 51)) 51 x) 51) (cond (top 7 (below x 26)) 13 0)

abbrev digit : ℕ → ℕ
digit x = sum x (cond (zeroes 16 w8 (index x)) 0 (get_or SHIFTS (0 + index x) 0))

indexes_by_lane : (v : List ℕ) → length v ≡ 16 → indexes_of v ≡ map index v
indexes_by_lane = spelled (λ v. indexes_of v ≡ map index v) 16 (λ f. refl)

digits_by_lane : (v : List ℕ) → length v ≡ 16 → digits_of v ≡ map digit v
digits_by_lane = spelled (λ v. digits_of v ≡ map digit v) 16 (λ f. refl)

small_index : (x : ℕ) → x < 64 → index x < 16
small_index x h = ltb_yes (upto_sound (λ k. ltb (index k) 16) 64 tt x h)

digit_is : (x : ℕ) → x < 64 → digit x ≡ slice_index (engine_symbols standard) x
digit_is x h = eqb→eq _ _ (upto_sound (λ k. eqb (digit k) (slice_index (engine_symbols standard) k)) 64 tt x h)

small : (v : List ℕ) → All (λ x. x < 64) v → Each1 (λ x. x < 64) v
small v h = Each1-from_get_or (λ x. x < 64) v 0 (λ i lt. h i 0 lt)

small_indexes : (v : List ℕ) → Each1 (λ x. x < 64) v → Each1 (λ j. j < 16) (map index v)
small_indexes [] h = tt
small_indexes (x ∷ v) h = (small_index x h.0, small_indexes v h.1)

mapped : (v : List ℕ) → Each1 (λ x. x < 64) v → map digit v ≡ map (λ x. slice_index (engine_symbols standard) x) v
mapped [] h = refl
mapped (x ∷ v) h = ap₂ (λ (a : ℕ) (t : List ℕ). a ∷ t) (digit_is x h.0) (mapped v h.1)

pub indexes_ok : (v : List ℕ) → length v ≡ 16 → All (λ x. x < 64) v → SwzOk w8 16 16 0 (indexes_of v)
indexes_ok v long h =
    let e = indexes_by_lane v long in
    SwzOk-from_below w8 16 1 16 0 (indexes_of v) refl (omega (arith, ap length e, length-map v index, long)) (subst (Each1 (λ j. j < 16)) (sym e) (small_indexes v (small v h)))

pub digits_are : (v : List ℕ) → length v ≡ 16 → All (λ x. x < 64) v → digits_of v ≡ map (λ x. slice_index (engine_symbols standard) x) v
digits_are v long h = digits_by_lane v long ∙ mapped v (small v h)

-- ---- the numbers of six bits of twelve bytes, as the code computes them
abbrev groups_of : List ℕ → List ℕ
groups_of v = digits_l 65536 8 (number_l 256 (pick_l 0 (v ++ v) GROUPS))

abbrev down : ℕ → ℕ → ℕ
down a b = a / 2 ^ b

abbrev up : ℕ → ℕ → ℕ
up a b = (a * b) % 65536

abbrev high : ℕ → ℕ → ℕ
high a b = (a * 2 ^ b) % 65536

abbrev plus : ℕ → ℕ → ℕ
plus a b = (a + b) % 65536

abbrev lanes_of : List ℕ → List ℕ
lanes_of g = zip2 plus (zip2 bit_and (zip2 down g DOWN) (replicate 8 63)) (zip2 high (zip2 bit_and (zip2 down (zip2 up g UP) (replicate 8 8)) (replicate 8 63)) (replicate 8 8))

abbrev pub sixes_of : List ℕ → List ℕ
sixes_of v = digits_l 256 16 (number_l 65536 (lanes_of (groups_of v)))

-- two numbers of six bits, by the bits that move down and the factor that moves up
abbrev lane : ℕ → ℕ → ℕ → ℕ
lane j k g = plus (bit_and (down g j) 63) (high (bit_and (down (up g k) 8) 63) 8)

-- a byte below another
abbrev pair : ℕ → ℕ → ℕ
pair a b = b + 256 * a

-- a group of three bytes as two numbers
group_in : (a b c n : ℕ) (rest : List ℕ) → a < 256 → b < 256 → c < 256
    → digits_l 65536 (suc (suc n)) (number_l 256 (b ∷ a ∷ c ∷ b ∷ rest)) ≡ pair a b ∷ pair b c ∷ digits_l 65536 n (number_l 256 rest)
group_in a b c n rest p q r =
    let y = number_l 256 rest in
    let x = b + 256 * (a + 256 * (c + 256 * (b + 256 * y))) in
    let first : x % 65536 ≡ pair a b = omega arith in
    let others : x / 65536 ≡ c + 256 * (b + 256 * y) = omega arith in
    let second : (c + 256 * (b + 256 * y)) % 65536 ≡ pair b c = omega arith in
    let last : (c + 256 * (b + 256 * y)) / 65536 ≡ y = omega arith in
    ap₂ (λ (k m : ℕ). k ∷ digits_l 65536 (suc n) m) first others ∙ ap₂ (λ (k m : ℕ). pair a b ∷ k ∷ digits_l 65536 n m) second last

lane_is : (j k g l u : ℕ) → down g j % 64 ≡ l → down (up g k) 8 % 64 ≡ u → lane j k g ≡ l + 256 * u
lane_is j k g l u lower upper =
    let one : bit_and (down g j) 63 ≡ l = and_mask (down g j) 6 ∙ lower in
    let two : bit_and (down (up g k) 8) 63 ≡ u = and_mask (down (up g k) 8) 6 ∙ upper in
    rw (one, two) (omega (arith, lower, upper))

first_lane : (a b : ℕ) → a < 256 → b < 256 → lane 10 16 (pair a b) ≡ a / 4 + 256 * (a % 4 * 16 + b / 16)
first_lane a b p q = lane_is 10 16 (pair a b) (a / 4) (a % 4 * 16 + b / 16) (omega arith) (omega arith)

second_lane : (b c : ℕ) → b < 256 → c < 256 → lane 6 256 (pair b c) ≡ b % 16 * 4 + c / 64 + 256 * (c % 64)
second_lane b c q r = lane_is 6 256 (pair b c) (b % 16 * 4 + c / 64) (c % 64) (omega arith) (omega arith)

group_out : (a b c n y : ℕ) → a < 256 → b < 256 → c < 256
    → digits_l 256 (suc (suc (suc (suc n)))) (lane 10 16 (pair a b) + 65536 * (lane 6 256 (pair b c) + 65536 * y)) ≡ a / 4 ∷ (a % 4 * 16 + b / 16) ∷ (b % 16 * 4 + c / 64) ∷ (c % 64) ∷ digits_l 256 n y
group_out a b c n y p q r =
    let s = a / 4 in
    let t = a % 4 * 16 + b / 16 in
    let u = b % 16 * 4 + c / 64 in
    let w = c % 64 in
    ap₂ (λ (k m : ℕ). digits_l 256 (suc (suc (suc (suc n)))) (k + 65536 * (m + 65536 * y))) (first_lane a b p q) (second_lane b c q r) ∙ bytes_out s t u w n y (omega arith) (omega arith) (omega arith) (omega arith)
  where
    bytes_out : (s t u w n y : ℕ) → s < 256 → t < 256 → u < 256 → w < 256 → digits_l 256 (suc (suc (suc (suc n)))) (s + 256 * t + 65536 * (u + 256 * w + 65536 * y)) ≡ s ∷ t ∷ u ∷ w ∷ digits_l 256 n y
    bytes_out s t u w n y h i j k =
        let x = s + 256 * t + 65536 * (u + 256 * w + 65536 * y) in
        let one : x % 256 ≡ s = omega arith in
        let from : x / 256 ≡ t + 256 * (u + 256 * w) + 16777216 * y = omega arith in
        let two : (t + 256 * (u + 256 * w) + 16777216 * y) % 256 ≡ t = omega arith in
        let then : (t + 256 * (u + 256 * w) + 16777216 * y) / 256 ≡ u + 256 * w + 65536 * y = omega arith in
        let three : (u + 256 * w + 65536 * y) % 256 ≡ u = omega arith in
        let next : (u + 256 * w + 65536 * y) / 256 ≡ w + 256 * y = omega arith in
        let four : (w + 256 * y) % 256 ≡ w = omega arith in
        let last : (w + 256 * y) / 256 ≡ y = omega arith in
        ap₂ (λ (k m : ℕ). k ∷ digits_l 256 (suc (suc (suc n))) m) one from
        ∙ ap₂ (λ (k m : ℕ). s ∷ k ∷ digits_l 256 (suc (suc n)) m) two then
        ∙ ap₂ (λ (k m : ℕ). s ∷ t ∷ k ∷ digits_l 256 (suc n) m) three next
        ∙ ap₂ (λ (k m : ℕ). s ∷ t ∷ u ∷ k ∷ digits_l 256 n m) four last

-- ---- all four groups
abbrev spread : (ℕ → ℕ) → ℕ → List ℕ → List ℕ
spread f k rest = pair (f k) (f (k + 1)) ∷ pair (f (k + 1)) (f (k + 2)) ∷ rest

four_in : (f : ℕ → ℕ) → ((k : ℕ) → k < 12 → f k < 256) → groups_of (listed f 16) ≡ spread f 0 (spread f 3 (spread f 6 (spread f 9 [])))
four_in f h =
    group_in (f 0) (f 1) (f 2) 6 (f 4 ∷ f 3 ∷ f 5 ∷ f 4 ∷ f 7 ∷ f 6 ∷ f 8 ∷ f 7 ∷ f 10 ∷ f 9 ∷ f 11 ∷ f 10 ∷ []) (h 0 (omega arith)) (h 1 (omega arith)) (h 2 (omega arith))
    ∙ ap (λ (t : List ℕ). spread f 0 t)
    (group_in (f 3) (f 4) (f 5) 4 (f 7 ∷ f 6 ∷ f 8 ∷ f 7 ∷ f 10 ∷ f 9 ∷ f 11 ∷ f 10 ∷ []) (h 3 (omega arith)) (h 4 (omega arith)) (h 5 (omega arith))
    ∙ ap (λ (t : List ℕ). spread f 3 t)
    (group_in (f 6) (f 7) (f 8) 2 (f 10 ∷ f 9 ∷ f 11 ∷ f 10 ∷ []) (h 6 (omega arith)) (h 7 (omega arith)) (h 8 (omega arith))
    ∙ ap (λ (t : List ℕ). spread f 6 t)
    (group_in (f 9) (f 10) (f 11) 0 [] (h 9 (omega arith)) (h 10 (omega arith)) (h 11 (omega arith)))))

-- the lanes of the groups from index k on
abbrev laned : (ℕ → ℕ) → ℕ → List ℕ → List ℕ
laned f k rest = lane 10 16 (pair (f k) (f (k + 1))) ∷ lane 6 256 (pair (f (k + 1)) (f (k + 2))) ∷ rest

four_out : (f : ℕ → ℕ) → ((k : ℕ) → k < 12 → f k < 256)
    → digits_l 256 16 (number_l 65536 (laned f 0 (laned f 3 (laned f 6 (laned f 9 []))))) ≡ six_bits (take 12 (listed f 16))
four_out f h =
    let one = λ (n y : ℕ). group_out (f 0) (f 1) (f 2) n y (h 0 (omega arith)) (h 1 (omega arith)) (h 2 (omega arith)) in
    let two = λ (n y : ℕ). group_out (f 3) (f 4) (f 5) n y (h 3 (omega arith)) (h 4 (omega arith)) (h 5 (omega arith)) in
    let three = λ (n y : ℕ). group_out (f 6) (f 7) (f 8) n y (h 6 (omega arith)) (h 7 (omega arith)) (h 8 (omega arith)) in
    let four = λ (n y : ℕ). group_out (f 9) (f 10) (f 11) n y (h 9 (omega arith)) (h 10 (omega arith)) (h 11 (omega arith)) in
    let d = number_l 65536 (laned f 9 []) in
    let c = number_l 65536 (laned f 6 (laned f 9 [])) in
    let b = number_l 65536 (laned f 3 (laned f 6 (laned f 9 []))) in
    one 12 b
    ∙ ap (λ (t : List ℕ). f 0 / 4 ∷ (f 0 % 4 * 16 + f 1 / 16) ∷ (f 1 % 16 * 4 + f 2 / 64) ∷ (f 2 % 64) ∷ t)
    (two 8 c
    ∙ ap (λ (t : List ℕ). f 3 / 4 ∷ (f 3 % 4 * 16 + f 4 / 16) ∷ (f 4 % 16 * 4 + f 5 / 64) ∷ (f 5 % 64) ∷ t)
    (three 4 d
    ∙ ap (λ (t : List ℕ). f 6 / 4 ∷ (f 6 % 4 * 16 + f 7 / 16) ∷ (f 7 % 16 * 4 + f 8 / 64) ∷ (f 8 % 64) ∷ t)
    (four 0 0)))

pub sixes_are : (v : List ℕ) → length v ≡ 16 → Each1 (Fits w8) v → sixes_of v ≡ six_bits (take 12 v)
sixes_are v long fits = spelled (λ v. ((k : ℕ) → k < 12 → get_or v k 0 < 256) → sixes_of v ≡ six_bits (take 12 v)) 16 all v long (λ k lt. (Each1-get_or (Fits w8) v k 0 (omega (arith, long, lt)) fits).fits)
  where
    all : (f : ℕ → ℕ) → ((k : ℕ) → k < 12 → get_or (listed f 16) k 0 < 256) → sixes_of (listed f 16) ≡ six_bits (take 12 (listed f 16))
    all f h =
        let each : (k : ℕ) → k < 12 → f k < 256 = λ k lt. subst (λ (x : ℕ). x < 256) (get_or-map-range_with_len f 0 16 k k 0 (omega arith) (omega arith)) (h k lt) in
        ap (λ (g : List ℕ). digits_l 256 16 (number_l 65536 (lanes_of g))) (four_in f each) ∙ four_out f each
