-- Numbers of groups from packed bytes, with the inversion of the sign and the top bit undone on the number.
use Rattle.std.proofs.Common.{◌≡◌, ◌≤◌, ◌<◌, ◌+◌, ◌*◌, ◌-◌, Bool, true, false, eqb, ℕ, zero, suc, List, [], ◌∷◌, length, take, drop, map, inl, inr, arith, refl, sym, ap, subst, ◌∙◌}
use Rattle.std.specs.Prelude.{slice_range, slice_index_or, ◌&&◌}
use Rattle.std.proofs.lemmas.List.{take-map, drop-map, length-take-le}
use Rattle.std.proofs.lemmas.Bool.Decides.{eqb_tells}
use Rattle.byteorder.specs.Endian.{big_number}
use Rattle.wire_buf.specs.Encoding.{AreBytes}
use Rattle.rows_values.specs.Digits.{top_flipped, signed}
use Rattle.rows_values.specs.PackedTexts.{flipped_back}
use Rattle.rows_values.proofs.UnpackLemmas.{top_bytes}
use Rattle.rows_values.proofs.UnpackedLemmas.{signed_are, length-top, length-signed}

-- the number in all of the bytes
abbrev pub num : List ℕ → ℕ
num xs = big_number (length xs) xs

abbrev pub largest : ℕ → ℕ
largest k = slice_index_or (0 ∷ 255 ∷ 65535 ∷ 16777215 ∷ 4294967295 ∷ []) k 0

abbrev pub tops : ℕ → ℕ
tops k = slice_index_or (0 ∷ 128 ∷ 32768 ∷ 8388608 ∷ 2147483648 ∷ []) k 0

pub all_turned : (xs : List ℕ) → length xs ≤ 4 → AreBytes xs → largest (length xs) - num xs ≡ big_number (length xs) (map (λ b. 255 - b) xs)
all_turned [] few h = refl
all_turned (a ∷ []) few h = omega (arith, h 0)
all_turned (a ∷ b ∷ []) few h = omega (arith, h 0, h 1)
all_turned (a ∷ b ∷ c ∷ []) few h = omega (arith, h 0, h 1, h 2)
all_turned (a ∷ b ∷ c ∷ d ∷ []) few h = omega (arith, h 0, h 1, h 2, h 3)
all_turned (a ∷ b ∷ c ∷ d ∷ e ∷ xs) few h = absurd (omega (arith, few))

high_turned : (xs : List ℕ) → length xs ≤ 4 → AreBytes xs → tops (length xs) ≤ num xs → num xs - tops (length xs) ≡ big_number (length xs) (top_flipped xs)
high_turned [] few h high = refl
high_turned (a ∷ []) few h high = omega (arith, h 0, high)
high_turned (a ∷ b ∷ []) few h high = omega (arith, h 0, h 1, high)
high_turned (a ∷ b ∷ c ∷ []) few h high = omega (arith, h 0, h 1, h 2, high)
high_turned (a ∷ b ∷ c ∷ d ∷ []) few h high = omega (arith, h 0, h 1, h 2, h 3, high)
high_turned (a ∷ b ∷ c ∷ d ∷ e ∷ xs) few h high = absurd (omega (arith, few))

low_turned : (xs : List ℕ) → length xs ≤ 4 → AreBytes xs → num xs < tops (length xs) → num xs + tops (length xs) ≡ big_number (length xs) (top_flipped xs)
low_turned [] few h low = refl
low_turned (a ∷ []) few h low = omega (arith, h 0, low)
low_turned (a ∷ b ∷ []) few h low = omega (arith, h 0, h 1, low)
low_turned (a ∷ b ∷ c ∷ []) few h low = omega (arith, h 0, h 1, h 2, low)
low_turned (a ∷ b ∷ c ∷ d ∷ []) few h low = omega (arith, h 0, h 1, h 2, h 3, low)
low_turned (a ∷ b ∷ c ∷ d ∷ e ∷ xs) few h low = absurd (omega (arith, few))

pub minus_number : (negative : Bool) (xs : List ℕ) (packed number : ℕ) → length xs ≤ 4 → AreBytes xs → negative ≡ true → packed ≡ num xs → number ≡ largest (length xs) - packed
    → number ≡ big_number (length xs) (signed negative xs)
minus_number negative xs packed number few h is p e = rw is (e ∙ ap (λ k. largest (length xs) - k) p ∙ all_turned xs few h)

pub plus_number : (negative : Bool) (xs : List ℕ) (packed number : ℕ) → negative ≡ false → packed ≡ num xs → number ≡ packed → number ≡ big_number (length xs) (signed negative xs)
plus_number negative xs packed number is p e = rw is (e ∙ p)

pub high_number : (negative top : Bool) (xs : List ℕ) (n : ℕ) → length xs ≤ 4 → AreBytes xs → top ≡ true → n ≡ big_number (length xs) (signed negative xs) → tops (length xs) ≤ n
    → n - tops (length xs) ≡ big_number (length xs) (flipped_back negative top xs)
high_number negative top xs n few h is e high =
    let long = length-signed negative xs in
    let number : n ≡ num (signed negative xs) = e ∙ ap (λ k. big_number k (signed negative xs)) (sym long) in
    let over : tops (length (signed negative xs)) ≤ num (signed negative xs) = subst (λ k. tops k ≤ num (signed negative xs)) (sym long) (subst (λ m. tops (length xs) ≤ m) number high) in
    let least : length (signed negative xs) ≤ 4 = omega (arith, long, few) in
    rw is (ap (λ m. m - tops (length xs)) number ∙ ap (λ k. num (signed negative xs) - tops k) (sym long) ∙ high_turned (signed negative xs) least (signed_are negative xs h) over
    ∙ ap (λ k. big_number k (top_flipped (signed negative xs))) long)

pub low_number : (negative top : Bool) (xs : List ℕ) (n : ℕ) → length xs ≤ 4 → AreBytes xs → top ≡ true → n ≡ big_number (length xs) (signed negative xs) → n < tops (length xs)
    → n + tops (length xs) ≡ big_number (length xs) (flipped_back negative top xs)
low_number negative top xs n few h is e low =
    let long = length-signed negative xs in
    let number : n ≡ num (signed negative xs) = e ∙ ap (λ k. big_number k (signed negative xs)) (sym long) in
    let under : num (signed negative xs) < tops (length (signed negative xs)) = subst (λ k. num (signed negative xs) < tops k) (sym long) (subst (λ m. m < tops (length xs)) number low) in
    let least : length (signed negative xs) ≤ 4 = omega (arith, long, few) in
    rw is (ap (λ m. m + tops (length xs)) number ∙ ap (λ k. num (signed negative xs) + tops k) (sym long) ∙ low_turned (signed negative xs) least (signed_are negative xs h) under
    ∙ ap (λ k. big_number k (top_flipped (signed negative xs))) long)

-- ---- prefixes and rests of inverted bytes

pub length-flipped_back : (negative top : Bool) (xs : List ℕ) → length (flipped_back negative top xs) ≡ length xs
length-flipped_back negative true xs = length-top (signed negative xs) ∙ length-signed negative xs
length-flipped_back negative false xs = length-signed negative xs

take-signed : (k : ℕ) (negative : Bool) (xs : List ℕ) → take k (signed negative xs) ≡ signed negative (take k xs)
take-signed k true xs = take-map (λ b. 255 - b) k xs
take-signed k false xs = refl

drop-signed : (k : ℕ) (negative : Bool) (xs : List ℕ) → drop k (signed negative xs) ≡ signed negative (drop k xs)
drop-signed k true xs = drop-map (λ b. 255 - b) k xs
drop-signed k false xs = refl

take-top : (k : ℕ) (xs : List ℕ) → take k (top_flipped xs) ≡ top_flipped (take k xs)
take-top zero [] = refl
take-top zero (x ∷ xs) = refl
take-top (suc k) [] = refl
take-top (suc k) (x ∷ xs) = refl

drop-top : (k : ℕ) (xs : List ℕ) → drop (suc k) (top_flipped xs) ≡ drop (suc k) xs
drop-top k [] = refl
drop-top k (x ∷ xs) = refl

pub take-flipped_back : (k : ℕ) (negative top : Bool) (xs : List ℕ) → take k (flipped_back negative top xs) ≡ flipped_back negative top (take k xs)
take-flipped_back k negative true xs = take-top k (signed negative xs) ∙ ap top_flipped (take-signed k negative xs)
take-flipped_back k negative false xs = take-signed k negative xs

some_eqb : (n : ℕ) → eqb (suc n) 0 ≡ false
some_eqb n = elim (eqb_tells (suc n) 0) [ inl t ↦ absurd (omega (arith, t.1)) | inr t ↦ t.0 ]

pub drop-flipped_back : (k : ℕ) (negative top : Bool) (xs : List ℕ) → drop k (flipped_back negative top xs) ≡ flipped_back negative (top && eqb k 0) (drop k xs)
drop-flipped_back zero negative true xs = refl
drop-flipped_back zero negative false xs = refl
drop-flipped_back (suc k) negative true xs = rw (some_eqb k) (drop-top k (signed negative xs) ∙ drop-signed (suc k) negative xs)
drop-flipped_back (suc k) negative false xs = drop-signed (suc k) negative xs

pub four_none : (i : ℕ) → eqb (4 * i) 0 ≡ eqb i 0
four_none i = elim (eqb_tells i 0) [
  | inl t ↦ let e : 4 * i ≡ 0 = omega (arith, t.1) in rw (t.0, e) refl
  | inr t ↦ elim (eqb_tells (4 * i) 0) [ inl q ↦ absurd (t.1 (omega (arith, q.1))) | inr q ↦ q.0 ∙ sym t.0 ]
]

pub number_of_turned : (negative top : Bool) (xs y : List ℕ) (n : ℕ) → n ≡ big_number (length xs) (flipped_back negative top xs) → y ≡ flipped_back negative top xs → n ≡ num y
number_of_turned negative top xs y n e is = e ∙ ap (λ k. big_number k (flipped_back negative top xs)) (sym (length-flipped_back negative top xs)) ∙ ap num (sym is)

-- the number of the first bytes
pub number_prefix : (negative top : Bool) (s g : ℕ) (bytes prefix : List ℕ) (n : ℕ) → s ≡ g → prefix ≡ take s bytes → n ≡ big_number (length prefix) (flipped_back negative top prefix) → n ≡ num (take g (flipped_back negative top bytes))
number_prefix negative top s g bytes prefix n size is e =
    number_of_turned negative top prefix (take g (flipped_back negative top bytes)) n e (take-flipped_back g negative top bytes ∙ ap (λ k. flipped_back negative top (take k bytes)) (sym size) ∙ ap (flipped_back negative top) (sym is))

-- the number of a group of four bytes
pub number_nine : (negative top first : Bool) (i : ℕ) (xs y : List ℕ) (n : ℕ) → y ≡ flipped_back negative top xs → first ≡ (top && eqb i 0)
    → n ≡ big_number (length (slice_range xs (4 * i) (4 * i + 4))) (flipped_back negative first (slice_range xs (4 * i) (4 * i + 4))) → n ≡ num (take 4 (drop (4 * i) y))
number_nine negative top first i xs y n is flag e =
    let four : 4 * i + 4 - 4 * i ≡ 4 = omega arith in
    let this : first ≡ (top && eqb (4 * i) 0) = flag ∙ ap (λ b. top && b) (sym (four_none i)) in
    number_of_turned negative first (slice_range xs (4 * i) (4 * i + 4)) (take 4 (drop (4 * i) y)) n e
    (ap (λ l. take 4 (drop (4 * i) l)) is ∙ ap (take 4) (drop-flipped_back (4 * i) negative top xs) ∙ take-flipped_back 4 negative (top && eqb (4 * i) 0) (drop (4 * i) xs)
    ∙ ap (λ b. flipped_back negative b (take 4 (drop (4 * i) xs))) (sym this) ∙ ap (λ k. flipped_back negative first (take k (drop (4 * i) xs))) (sym four))

-- the number of the last bytes
pub number_rest : (negative top first : Bool) (w : ℕ) (bytes rest : List ℕ) (n : ℕ) → rest ≡ drop (4 * w) bytes → first ≡ (top && eqb w 0) → n ≡ big_number (length rest) (flipped_back negative first rest)
    → n ≡ num (drop (4 * w) (flipped_back negative top bytes))
number_rest negative top first w bytes rest n is flag e =
    let this : first ≡ (top && eqb (4 * w) 0) = flag ∙ ap (λ b. top && b) (sym (four_none w)) in
    number_of_turned negative first rest (drop (4 * w) (flipped_back negative top bytes)) n e
    (drop-flipped_back (4 * w) negative top bytes ∙ ap (λ b. flipped_back negative b (drop (4 * w) bytes)) (sym this) ∙ ap (flipped_back negative first) (sym is))

-- the bytes after the first group
pub rest_turned : (negative top : Bool) (s g : ℕ) (bytes rest : List ℕ) → s ≡ g → rest ≡ drop s bytes → top ≡ eqb g 0 → drop g (flipped_back negative true bytes) ≡ flipped_back negative top rest
rest_turned negative top s g bytes rest size is flag =
    drop-flipped_back g negative true bytes ∙ ap (λ b. flipped_back negative b (drop g bytes)) (sym flag) ∙ ap (λ k. flipped_back negative top (drop k bytes)) (sym size) ∙ ap (flipped_back negative top) (sym is)

-- ---- groups of inverted bytes

pub turned_are : (negative top : Bool) (xs : List ℕ) → AreBytes xs → AreBytes (flipped_back negative top xs)
turned_are negative true xs h = top_bytes (signed negative xs) (signed_are negative xs h)
turned_are negative false xs h = signed_are negative xs h

-- a group of four bytes
pub nine_turned : (negative top first : Bool) (i : ℕ) (xs : List ℕ) → first ≡ (top && eqb i 0)
    → flipped_back negative first (slice_range xs (4 * i) (4 * i + 4)) ≡ slice_range (flipped_back negative top xs) (4 * i) (4 * i + 4)
nine_turned negative top first i xs flag =
    let four : 4 * i + 4 - 4 * i ≡ 4 = omega arith in
    let this : first ≡ (top && eqb (4 * i) 0) = flag ∙ ap (λ b. top && b) (sym (four_none i)) in
    sym (ap (take (4 * i + 4 - 4 * i)) (drop-flipped_back (4 * i) negative top xs) ∙ take-flipped_back (4 * i + 4 - 4 * i) negative (top && eqb (4 * i) 0) (drop (4 * i) xs)
    ∙ ap (λ b. flipped_back negative b (take (4 * i + 4 - 4 * i) (drop (4 * i) xs))) (sym this))

-- the first bytes
pub prefix_turned : (negative top : Bool) (s : ℕ) (bytes prefix : List ℕ) → prefix ≡ take s bytes → flipped_back negative top prefix ≡ take s (flipped_back negative top bytes)
prefix_turned negative top s bytes prefix is = ap (flipped_back negative top) is ∙ sym (take-flipped_back s negative top bytes)

-- the bytes after the groups of nine
pub back_turned : (negative top first : Bool) (w : ℕ) (bytes back : List ℕ) → back ≡ drop (4 * w) bytes → first ≡ (top && eqb w 0) → flipped_back negative first back ≡ drop (4 * w) (flipped_back negative top bytes)
back_turned negative top first w bytes back is flag =
    let this : first ≡ (top && eqb (4 * w) 0) = flag ∙ ap (λ b. top && b) (sym (four_none w)) in
    ap (flipped_back negative first) is ∙ ap (λ b. flipped_back negative b (drop (4 * w) bytes)) this ∙ sym (drop-flipped_back (4 * w) negative top bytes)

-- the bytes after the first ones; `top` says that there are no first ones
pub after_turned : (negative top : Bool) (s : ℕ) (bytes prefix back : List ℕ) → prefix ≡ take s bytes → back ≡ drop s bytes → s ≤ length bytes → top ≡ eqb (length prefix) 0 → flipped_back negative top back ≡ drop s (flipped_back negative true bytes)
after_turned negative top s bytes prefix back is following room flag =
    let long : length prefix ≡ s = ap length is ∙ length-take-le s bytes room in
    let this : top ≡ eqb s 0 = flag ∙ ap (λ k. eqb k 0) long in
    ap (flipped_back negative top) following ∙ ap (λ b. flipped_back negative b (drop s bytes)) this ∙ sym (drop-flipped_back s negative true bytes)
