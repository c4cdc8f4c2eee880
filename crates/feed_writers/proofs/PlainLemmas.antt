-- From a vector's mask to bytes that need no escape. A mask that is computed lane by lane is compared with a test of each of the 256 bytes.
use Rattle.std.proofs.Common.{◌≡◌, ℕ, zero, suc, ◌+◌, ◌-◌, ◌%◌, ◌^◌, ◌<◌, ◌≤◌, ltb, eqb, Bool, true, false, not, ◌&&◌, ◌==◌, ◌⊎◌, inl, inr, cond, T, List, [], ◌∷◌, length, take, drop, get_or, map, replicate, Fits, w8, refl, sym, ap, ap₂, ◌∙◌, subst, arith, add-one, get_or-take, not-suc-le-zero}
use Rattle.std.proofs.lemmas.Bool.{eqb-true, cases_order}
use Rattle.std.proofs.lemmas.Simd.{length-chunk, leading_from_mask_l, chunk-fits, zip2_splat, mask_l-mod, trailing_mask_l}
use Rattle.std.proofs.lemmas.List.{length-map}
use Rattle.std.proofs.lemmas.List.Sums.{prefix_len-le-length, prefix_len_passes}
use Rattle.std.specs.Bool.{OnTrue}
use Rattle.std.specs.List.{prefix_len}
use Rattle.std.specs.Prelude.{take_while}
use lib.Bits.{bit_or}
use lib.Count.{count_trailing_zeros}
use lib.Lanes.{chunk, mask_l, zip2, top, Each1}
use Rattle.feed_writers.specs.Quoting.{is_plain_byte}
use Rattle.feed_writers.specs.PlainBytes.{IsPlainPrefix}

-- ---- a fact for each number below n, by computation
abbrev pub upto : (ℕ → Bool) → ℕ → Bool
upto p zero = true
upto p (suc n) = p n && upto p n

both : (a b : Bool) → T (a && b) → T a × T b
both true b h = (tt, h)
both false b h = absurd h

pub upto_sound : (p : ℕ → Bool) (n : ℕ) → T (upto p n) → (i : ℕ) → i < n → T (p i)
upto_sound p zero h i lt = absurd (not-suc-le-zero lt)
upto_sound p (suc n) h i lt = go (upto_sound p n (both (p n) (upto p n) h).1 i) (cases_order i n)
  where
    go : (i < n → T (p i)) → (i ≡ n) ⊎ ((i < n) ⊎ (n < i)) → T (p i)
    go below (inl e) = subst (λ x. T (p x)) (sym e) (both (p n) (upto p n) h).0
    go below (inr (inl l)) = below l
    go below (inr (inr g)) = let no : ⊥ = omega arith in absurd no

abbrev same : Bool → Bool → Bool
same true b = b
same false b = not b

same_is : (a b : Bool) → T (same a b) → a ≡ b
same_is true true h = refl
same_is false false h = refl
same_is true false h = absurd h
same_is false true h = absurd h

-- ---- lanes
abbrev hit : ℕ → ℕ → ℕ
hit a b = cond (eqb a b) 255 0

abbrev pub below : ℕ → ℕ → ℕ
below a b = cond (ltb a b) 255 0

zip2-map : (f g : ℕ → ℕ) (xs : List ℕ) → zip2 bit_or (map f xs) (map g xs) ≡ map (λ x. bit_or (f x) (g x)) xs
zip2-map f g [] = refl
zip2-map f g (x ∷ xs) = ap (λ r. bit_or (f x) (g x) ∷ r) (zip2-map f g xs)

either : (f g : ℕ → ℕ) (v : List ℕ) {a b : List ℕ} → a ≡ map f v → b ≡ map g v → zip2 bit_or a b ≡ map (λ x. bit_or (f x) (g x)) v
either f g v p q = ap₂ (zip2 bit_or) p q ∙ zip2-map f g v

splat_left : (h : ℕ → ℕ → ℕ) (y : ℕ) (xs : List ℕ) → zip2 h (replicate (length xs) y) xs ≡ map (h y) xs
splat_left h y [] = refl
splat_left h y (x ∷ xs) = ap (λ r. h y x ∷ r) (splat_left h y xs)

each_byte : (f : ℕ → ℕ) (p : ℕ → Bool) → T (upto (λ x. same (top 7 (f x)) (p x)) 256) → (v : List ℕ) → Each1 (Fits w8) v → map (top 7) (map f v) ≡ map p v
each_byte f p all [] fits = refl
each_byte f p all (x ∷ xs) fits = ap₂ (λ a b. a ∷ b) (same_is _ _ (upto_sound (λ y. same (top 7 (f y)) (p y)) 256 all x fits.0.fits)) (each_byte f p all xs fits.1)

-- ---- plain bytes
abbrev pub is_stop : ℕ → Bool
is_stop x = not (is_plain_byte x)

no_stop : (b : Bool) → not (not b) ≡ true → b ≡ true
no_stop true h = refl
no_stop false h = h

all_byte : (p : Bool) (n l : ℕ) → n ≤ l → cond p (1 + n) 0 ≡ suc l → (p ≡ true) × (n ≡ l)
all_byte true n l h e = (refl, omega arith)
all_byte false n l h e = absurd (omega arith)

all_plain : (xs : List ℕ) → prefix_len (λ x. not (is_stop x)) xs ≡ length xs → (k : ℕ) → k < length xs → is_plain_byte (get_or xs k 0) ≡ true
all_plain [] e k q = absurd (omega arith)
all_plain (x ∷ xs) e zero q = no_stop (is_plain_byte x) (all_byte (not (is_stop x)) _ (length xs) (prefix_len-le-length (λ x. not (is_stop x)) xs) e).0
all_plain (x ∷ xs) e (suc k) q = all_plain xs (all_byte (not (is_stop x)) _ (length xs) (prefix_len-le-length (λ x. not (is_stop x)) xs) e).1 k (omega arith)

on_true : (b : Bool) (P : Type 0) → (b ≡ true → P) → OnTrue b P
on_true true P f = f refl
on_true false P f = tt

plain_from_mask : (d : List ℕ) (n : ℕ) → n ≤ length d → mask_l (map is_stop (chunk 0 n d)) ≡ 0 → IsPlainPrefix d n
plain_from_mask d n room none k q =
    let long = length-chunk 0 n d (omega (arith, room)) in
    ap is_plain_byte (sym (get_or-take n d k 0 q)) ∙ all_plain (chunk 0 n d) (leading_from_mask_l is_stop (chunk 0 n d) none) k (omega arith)

-- the four tests of a vector of n lanes, as the code makes them
abbrev pub tests_of : List ℕ → ℕ → List Bool
tests_of v n = map (top 7) (zip2 bit_or (zip2 bit_or (zip2 bit_or (zip2 hit v (replicate n 39)) (zip2 hit v (replicate n 92))) (zip2 below v (replicate n 32))) (zip2 below (replicate n 126) v))

pub stops_by_lane : (v : List ℕ) (n : ℕ) → length v ≡ n → Each1 (Fits w8) v → tests_of v n ≡ map is_stop v
stops_by_lane v n long fits =
    let above : zip2 below (replicate n 126) v ≡ map (below 126) v = ap (λ k. zip2 below (replicate k 126) v) (sym long) ∙ splat_left below 126 v in
    let all = either _ _ v (either _ _ v (either _ _ v (zip2_splat hit v n 39 long) (zip2_splat hit v n 92 long)) (zip2_splat below v n 32 long)) above in
    ap (map (top 7)) all ∙ each_byte _ is_stop tt v fits

pub stops_from_lanes : (d : List ℕ) (n : ℕ) → n ≤ length d → n ≤ 64 → ((k : ℕ) → Fits w8 (get_or d k 0)) → mask_l (tests_of (chunk 0 n d) n) % 2 ^ 64 ≡ mask_l (map is_stop (chunk 0 n d))
stops_from_lanes d n room few fits =
    let v = chunk 0 n d in
    let long = length-chunk 0 n d (omega (arith, room)) in
    ap (λ l. mask_l l % 2 ^ 64) (stops_by_lane v n long (chunk-fits w8 0 n d fits)) ∙ mask_l-mod (map is_stop v) 64 (omega (arith, length-map v is_stop, long))

pub plain_from_lanes : (d : List ℕ) (n : ℕ) → n ≤ length d → n ≤ 64 → ((k : ℕ) → Fits w8 (get_or d k 0)) → OnTrue (mask_l (tests_of (chunk 0 n d) n) % 2 ^ 64 == 0) (IsPlainPrefix d n)
plain_from_lanes d n room few fits = on_true _ _ (λ e. plain_from_mask d n room (sym (stops_from_lanes d n room few fits) ∙ eqb-true _ 0 e))

one_up : (n : ℕ) → 1 + n ≡ suc n
one_up n = omega arith

pub first_more : (x : ℕ) (d : List ℕ) → is_plain_byte x ≡ true → length (take_while is_plain_byte (x ∷ d)) ≡ length (take_while is_plain_byte d) + 1
first_more x d h = rw (h, one_up (prefix_len is_plain_byte d), add-one) refl

-- n plain bytes at the start add n to the count
pub plain_more : (n : ℕ) (d : List ℕ) → n ≤ length d → IsPlainPrefix d n → length (take_while is_plain_byte d) ≡ n + length (take_while is_plain_byte (drop n d))
plain_more zero d room h = omega arith
plain_more (suc n) [] room h = absurd (omega arith)
plain_more (suc n) (x ∷ d) room h =
    let e = plain_more n d (omega (arith, room)) (λ k q. h (suc k) (omega (arith, q))) in
    let one : length (take_while is_plain_byte (x ∷ d)) ≡ length (take_while is_plain_byte d) + 1 = first_more x d (h 0 (omega arith)) in
    omega (arith, e, one)

-- n bytes were passed, and the remaining bytes begin after them
pub passed_more : (n : ℕ) (all rest after : List ℕ) → length rest ≤ length all → length (take_while is_plain_byte all) ≡ length all - length rest + length (take_while is_plain_byte rest) → n ≤ length rest → IsPlainPrefix rest n → after ≡ drop n rest
    → length after + n ≡ length rest → length (take_while is_plain_byte all) ≡ length all - length after + length (take_while is_plain_byte after)
passed_more n all rest after le e room plain is len =
    let more : length (take_while is_plain_byte rest) ≡ n + length (take_while is_plain_byte after) = plain_more n rest room plain ∙ ap (λ (t : List ℕ). n + length (take_while is_plain_byte t)) (sym is) in
    omega (arith, le, e, more, len)

-- the number of elements before the first that fails the test is that of the longest prefix that passes it
pub passed_count : (p : ℕ → Bool) (d : List ℕ) → prefix_len (λ x. not (not (p x))) d ≡ length (take_while p d)
passed_count p [] = refl
passed_count p (x ∷ d) = split (p x) refl (passed_count p d)
  where
    split : (b : Bool) → p x ≡ b → prefix_len (λ y. not (not (p y))) d ≡ length (take_while p d) → prefix_len (λ y. not (not (p y))) (x ∷ d) ≡ length (take_while p (x ∷ d))
    split true h e = rw (h, e, one_up (prefix_len p d)) (one_up _)
    split false h e = rw h refl

-- no lane stops
pub count_where_none : (d : List ℕ) (n m : ℕ) → n ≤ length d → m ≡ mask_l (map is_stop (chunk 0 n d)) → m ≡ 0 → n ≡ length (take_while is_plain_byte (take n d))
count_where_none d n m room e none =
    sym (length-chunk 0 n d (omega (arith, room))) ∙ sym (leading_from_mask_l is_stop (chunk 0 n d) (sym e ∙ none)) ∙ passed_count is_plain_byte (take n d)

pub positive : (k : ℕ) → (k ≡ 0 → ⊥) → 0 < k
positive zero h = absurd (h refl)
positive (suc k) h = omega arith

-- the number of lanes before the lowest bit of their mask
pub count_where_some : (d : List ℕ) (n m : ℕ) → n ≤ length d → n ≤ 64 → m ≡ mask_l (map is_stop (chunk 0 n d)) → (m ≡ 0 → ⊥) → count_trailing_zeros 64 m ≡ length (take_while is_plain_byte (take n d))
count_where_some d n m room few e some =
    let long = length-chunk 0 n d (omega (arith, room)) in
    ap (count_trailing_zeros 64) e ∙ trailing_mask_l is_stop 64 (chunk 0 n d) (omega arith) (omega (arith, e, positive m some)) ∙ passed_count is_plain_byte (take n d)

-- a byte that counts as plain is plain
pub plain_counted : (d : List ℕ) (n k : ℕ) → n ≤ length d → k ≤ length (take_while is_plain_byte (take n d)) → IsPlainPrefix d k
plain_counted d n k room le i q =
    let counted = passed_count is_plain_byte (take n d) in
    let all = prefix_len-le-length (λ x. not (is_stop x)) (take n d) in
    let long = length-chunk 0 n d (omega (arith, room)) in
    ap is_plain_byte (sym (get_or-take n d i 0 (omega (arith, long, all, counted, le, q)))) ∙ no_stop _ (prefix_len_passes (λ x. not (is_stop x)) (take n d) i 0 (omega (arith, counted, le, q)))
