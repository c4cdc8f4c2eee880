-- From a vector's mask to bytes that are copied. A mask that is computed lane by lane is compared with a test of each of the 256 bytes.
use Rattle.std.proofs.Common.{◌≡◌, ℕ, zero, suc, ◌+◌, ◌-◌, ◌%◌, ◌^◌, ◌<◌, ◌≤◌, ltb, eqb, Bool, true, false, not, ◌&&◌, cond, T, List, [], ◌∷◌, ◌++◌, length, take, drop, get_or, map, replicate, Fits, w8, refl, sym, ap, ap₂, ◌∙◌, inl, inr, arith, rules, append_assoc, add-one}
use Rattle.std.proofs.lemmas.Simd.{leading_from_mask_l, zip2_splat, mask_l-mod, trailing_mask_l, take_more_put_chunk, length-chunk, length-put_chunk, get_or-chunk}
use Rattle.std.proofs.lemmas.List.{length-map, take-take, take_all, length-take-le, length-drop, take-append-drop, get_or-take}
use Rattle.std.proofs.lemmas.List.Sums.{prefix_len-le-length, prefix_len_passes}
use Rattle.std.proofs.lemmas.List.Folds.{length-prefix_len}
use Rattle.std.proofs.lemmas.Grind.{get_or_default_zero}
use Rattle.std.proofs.Math.Seq.{take-add, take-append_seam, drop-append_seam}
use Rattle.std.specs.List.{flat_map, AllPass}
use Rattle.std.specs.Prelude.{take_while, IsAscii, nat_lt, Option, Some, None, IfSome}
use Rattle.std.proofs.Math.ListN.{get_or-eq_default}
use lib.Bits.{bit_or}
use lib.Count.{count_trailing_zeros}
use Rattle.std.proofs.lemmas.Bool.{cases_lt, false≢true}
use lib.Lanes.{mask_l, zip2, top, Each1, chunk, put_chunk}
use Rattle.feed_writers.proofs.PlainLemmas.{upto, upto_sound, passed_count, positive}
use Rattle.changes_writers.specs.JsonStrings.{is_unescaped, json_byte}
use Rattle.changes_writers.specs.PlainText.{is_plain}

-- ---- lanes
abbrev same : Bool → Bool → Bool
same true b = b
same false b = not b

same_is : (a b : Bool) → T (same a b) → a ≡ b
same_is true true h = refl
same_is false false h = refl
same_is true false h = absurd h
same_is false true h = absurd h

abbrev hit : ℕ → ℕ → ℕ
hit a b = cond (eqb a b) 255 0

abbrev below : ℕ → ℕ → ℕ
below a b = cond (ltb a b) 255 0

zip2-map : (f g : ℕ → ℕ) (xs : List ℕ) → zip2 bit_or (map f xs) (map g xs) ≡ map (λ x. bit_or (f x) (g x)) xs
zip2-map f g [] = refl
zip2-map f g (x ∷ xs) = ap (λ r. bit_or (f x) (g x) ∷ r) (zip2-map f g xs)

either : (f g : ℕ → ℕ) (v : List ℕ) {a b : List ℕ} → a ≡ map f v → b ≡ map g v → zip2 bit_or a b ≡ map (λ x. bit_or (f x) (g x)) v
either f g v p q = ap₂ (zip2 bit_or) p q ∙ zip2-map f g v

splat_left : (h : ℕ → ℕ → ℕ) (y : ℕ) (xs : List ℕ) → zip2 h (replicate (length xs) y) xs ≡ map (h y) xs
splat_left h y [] = refl
splat_left h y (x ∷ xs) = ap (λ r. h y x ∷ r) (splat_left h y xs)

each_byte : (f : ℕ → ℕ) (p : ℕ → Bool) → T (upto (λ x. same (top 7 (f x)) (p x)) 256) → (v : List ℕ) → Each1 (Fits w8) v → map (top 7) (map f v) ≡ map p v
each_byte f p all [] fits = refl
each_byte f p all (x ∷ xs) fits = ap₂ (λ a b. a ∷ b) (same_is _ _ (upto_sound (λ y. same (top 7 (f y)) (p y)) 256 all x fits.0.fits)) (each_byte f p all xs fits.1)

-- the tests of a vector of n lanes, as the code makes them
abbrev pub escape_tests : List ℕ → ℕ → List Bool
escape_tests v n = map (top 7) (zip2 bit_or (zip2 bit_or (zip2 hit v (replicate n 34)) (zip2 hit v (replicate n 92))) (zip2 below v (replicate n 32)))

abbrev pub plain_tests : List ℕ → ℕ → List Bool
plain_tests v n = map (top 7) (zip2 bit_or (zip2 bit_or (zip2 bit_or (zip2 hit v (replicate n 34)) (zip2 hit v (replicate n 92))) (zip2 below v (replicate n 32))) (zip2 below (replicate n 127) v))

abbrev not_of : (ℕ → Bool) → ℕ → Bool
not_of p x = not (p x)

abbrev Lanes : List ℕ → ℕ → Type 0
Lanes v n = (length v ≡ n) × Each1 (Fits w8) v

masked : (p : ℕ → Bool) (v : List ℕ) (n : ℕ) (tests : List Bool) → length v ≡ n → n ≤ 64 → tests ≡ map (not_of p) v → mask_l tests % 2 ^ 64 ≡ mask_l (map (not_of p) v)
masked p v n tests long few e = ap (λ l. mask_l l % 2 ^ 64) e ∙ mask_l-mod (map (not_of p) v) 64 (omega (arith, length-map v (not_of p), long))

pub escapes_masked : (v : List ℕ) (n : ℕ) → Lanes v n → n ≤ 64 → mask_l (escape_tests v n) % 2 ^ 64 ≡ mask_l (map (not_of is_unescaped) v)
escapes_masked v n h few =
    let long = h.0 in
    let all = either _ _ v (either _ _ v (zip2_splat hit v n 34 long) (zip2_splat hit v n 92 long)) (zip2_splat below v n 32 long) in
    masked is_unescaped v n _ long few (ap (map (top 7)) all ∙ each_byte _ (not_of is_unescaped) tt v h.1)

pub plain_masked : (v : List ℕ) (n : ℕ) → Lanes v n → n ≤ 64 → mask_l (plain_tests v n) % 2 ^ 64 ≡ mask_l (map (not_of is_plain) v)
plain_masked v n h few =
    let long = h.0 in
    let above : zip2 below (replicate n 127) v ≡ map (below 127) v = ap (λ k. zip2 below (replicate k 127) v) (sym long) ∙ splat_left below 127 v in
    let all = either _ _ v (either _ _ v (either _ _ v (zip2_splat hit v n 34 long) (zip2_splat hit v n 92 long)) (zip2_splat below v n 32 long)) above in
    masked is_plain v n _ long few (ap (map (top 7)) all ∙ each_byte _ (not_of is_plain) tt v h.1)

-- no lane stops
pub count_where_none : (p : ℕ → Bool) (v : List ℕ) (n m : ℕ) → length v ≡ n → m ≡ mask_l (map (not_of p) v) → m ≡ 0 → n ≡ length (take_while p v)
count_where_none p v n m long e none = sym long ∙ sym (leading_from_mask_l (not_of p) v (sym e ∙ none)) ∙ passed_count p v

-- the number of lanes before the lowest bit of their mask
pub count_where_some : (p : ℕ → Bool) (v : List ℕ) (n m : ℕ) → length v ≡ n → n ≤ 64 → m ≡ mask_l (map (not_of p) v) → (m ≡ 0 → ⊥) → count_trailing_zeros 64 m ≡ length (take_while p v)
count_where_some p v n m long few e some =
    ap (count_trailing_zeros 64) e ∙ trailing_mask_l (not_of p) 64 v (omega (arith, long, few)) (omega (arith, e, positive m some)) ∙ passed_count p v

pub count_most : (p : ℕ → Bool) (v : List ℕ) (n k : ℕ) → length v ≡ n → k ≡ length (take_while p v) → k ≤ n
count_most p v n k long e = omega (arith, e, long, length-prefix_len p v, prefix_len-le-length p v)

-- as many pass as are counted
passes : (p : ℕ → Bool) (v : List ℕ) (n : ℕ) → n ≡ length (take_while p v) → (k d : ℕ) → k < n → p (get_or v k d) ≡ true
passes p v n e k d lt = prefix_len_passes p v k d (omega (arith, e, lt, length-prefix_len p v))

pub all_pass : (p : ℕ → Bool) (v : List ℕ) (m : ℕ) → m ≡ mask_l (map (not_of p) v) → m ≡ 0 → AllPass p v
all_pass p v m e none k d lt = passes p v (length v) (count_where_none p v (length v) m refl e none) k d lt

-- ---- bytes that are copied
pub both : (a b : Bool) → a && b ≡ true → (a ≡ true) × (b ≡ true)
both true true h = (refl, refl)
both true false h = absurd (false≢true h)
both false b h = absurd (false≢true h)

below_of : (b n : ℕ) → nat_lt b n ≡ true → b < n
below_of b n h = search (rules, arith)

pub plain_unescaped : (d : List ℕ) → AllPass is_plain d → AllPass is_unescaped d
plain_unescaped d h k e lt = (both _ _ (h k e lt)).0

pub plain_ascii : (d : List ℕ) → AllPass is_plain d → IsAscii d
plain_ascii d h i =
    elim (cases_lt i (length d)) [
      | inl lt ↦ below_of _ 128 (both _ _ (h i 0 lt)).1
      | inr ge ↦ rw (get_or-eq_default d 0 ge) (omega arith)
    ]

pub unescaped_unchanged : (d : List ℕ) → AllPass is_unescaped d → flat_map json_byte d ≡ d
unescaped_unchanged [] h = refl
unescaped_unchanged (x ∷ d) h = rw (h 0 0 (omega arith)) (ap (λ (t : List ℕ). x ∷ t) (unescaped_unchanged d (λ k e lt. h (suc k) e (omega (arith, lt)))))

pub plain_unchanged : (d : List ℕ) → AllPass is_plain d → flat_map json_byte d ≡ d
plain_unchanged d h = unescaped_unchanged d (plain_unescaped d h)

-- plain bytes were written unchanged
pub plain_written : (base new d : List ℕ) → AllPass is_plain d → new ≡ base ++ d → new ≡ base ++ flat_map json_byte d
plain_written base new d h is = is ∙ ap (λ (t : List ℕ). base ++ t) (sym (plain_unchanged d h))

pub some_written : (r : Option ℕ) (base new d : List ℕ) → IfSome r (λ end. AllPass is_plain d) → IfSome r (λ end. take end new ≡ base ++ d) → IfSome r (λ end. take end new ≡ base ++ flat_map json_byte d)
some_written None base new d h is = tt
some_written (Some end) base new d h is = plain_written base (take end new) d h is

-- the first m bytes of what was stored
pub stored : (at m : ℕ) (text ys : List ℕ) → at + length ys ≤ length text → m ≤ length ys → take (at + m) (put_chunk at text ys) ≡ take at text ++ take m ys
stored at m text ys room few =
    let a = take at text in
    let long : length a ≡ at = length-take-le at text (omega arith) in
    sym (take-take (at + m) (at + length ys) (put_chunk at text ys) (omega arith))
    ∙ ap (take (at + m)) (take_more_put_chunk at text ys (at + length ys) refl room)
    ∙ ap (λ (k : ℕ). take (k + m) (a ++ ys)) (sym long)
    ∙ take-add (length a) m (a ++ ys)
    ∙ ap₂ (λ (x y : List ℕ). x ++ take m y) (take-append_seam a ys) (drop-append_seam a ys)

-- ---- the first h bytes, and the last h
pub halves_plain : (h : ℕ) (d : List ℕ) → h ≤ length d → length d ≤ h + h → AllPass is_plain (chunk 0 h d) → AllPass is_plain (chunk (length d - h) h d) → AllPass is_plain d
halves_plain h d least most first last k e lt =
    let m = length d - h in
    elim (cases_lt k h) [
      | inl l ↦
          let at : 0 + k ≡ k = omega arith in
          ap is_plain (ap (λ (j : ℕ). get_or d j e) (sym at) ∙ sym (get_or-chunk 0 h d k e l)) ∙ first k e (omega (arith, l, length-chunk 0 h d (omega (arith, least))))
      | inr above ↦
          let at : m + (k - m) ≡ k = omega (arith, above, lt, most, least) in
          let within : k - m < h = omega (arith, above, lt, most, least) in
          ap is_plain (ap (λ (j : ℕ). get_or d j e) (sym at) ∙ sym (get_or-chunk m h d (k - m) e within)) ∙ last (k - m) e (omega (arith, within, length-chunk m h d (omega (arith, least))))
    ]

pub halves_written : (h at : ℕ) (text d : List ℕ) → h ≤ length d → length d ≤ h + h → at + length d ≤ length text
    → take (at + length d) (put_chunk (at + length d - h) (put_chunk at text (chunk 0 h d)) (chunk (length d - h) h d)) ≡ take at text ++ d
halves_written h at text d least most room =
    let m = length d - h in
    let one = put_chunk at text (chunk 0 h d) in
    let first : length (chunk 0 h d) ≡ h = length-chunk 0 h d (omega (arith, least)) in
    let last : length (chunk m h d) ≡ h = length-chunk m h d (omega (arith, least)) in
    let long : length one ≡ length text = length-put_chunk at text (chunk 0 h d) in
    let from : at + length d - h ≡ at + m = omega (arith, least) in
    let rest : chunk m h d ≡ drop m d = take_all h (drop m d) (omega (arith, least, length-drop m d)) in
    take_more_put_chunk (at + length d - h) one (chunk m h d) (at + length d) (omega (arith, last, least)) (omega (arith, long, room))
    ∙ ap₂ (λ (k : ℕ) (t : List ℕ). take k one ++ t) from rest
    ∙ ap (λ (t : List ℕ). t ++ drop m d) (stored at m text (chunk 0 h d) (omega (arith, first, room, least)) (omega (arith, first, most)) ∙ ap (λ (t : List ℕ). take at text ++ t) (take-take m h d (omega (arith, most))))
    ∙ append_assoc (take at text) (take m d) (drop m d)
    ∙ ap (λ (t : List ℕ). take at text ++ t) (take-append-drop m d)

-- one more byte passes
pub one_more_passes : (k : ℕ) (d : List ℕ) → AllPass is_plain (take k d) → k < length d → is_plain (get_or d k 0) ≡ true → AllPass is_plain (take (k + 1) d)
one_more_passes k d h lt is i e within =
    let few : i < k + 1 = omega (arith, within, length-take-le (k + 1) d (omega (arith, lt))) in
    ap is_plain (get_or-take (k + 1) d i e few)
    ∙ elim (cases_lt i k) [
      | inl l ↦ ap is_plain (sym (get_or-take k d i e l)) ∙ h i e (omega (arith, l, length-take-le k d (omega (arith, lt))))
      | inr g ↦
          let at : i ≡ k = omega (arith, g, few) in
          ap is_plain (ap (λ (j : ℕ). get_or d j e) at ∙ get_or_default_zero d k e lt) ∙ is
    ]

pub taken : (k : ℕ) (d : List ℕ) → k < length d → take (suc k) d ≡ take k d ++ get_or d k 0 ∷ []
taken k [] h = absurd (omega arith)
taken zero (x ∷ d) h = refl
taken (suc k) (x ∷ d) h = ap (λ (t : List ℕ). x ∷ t) (taken k d (omega (arith, h)))

pub one_more_written : (k : ℕ) (base one new d : List ℕ) → k < length d → one ≡ base ++ take k d → new ≡ one ++ get_or d k 0 ∷ [] → new ≡ base ++ take (k + 1) d
one_more_written k base one new d lt first is =
    is ∙ ap (λ (t : List ℕ). t ++ get_or d k 0 ∷ []) first ∙ append_assoc base (take k d) (get_or d k 0 ∷ [])
    ∙ ap (λ (t : List ℕ). base ++ t) (sym (taken k d lt) ∙ ap (λ (n : ℕ). take n d) (sym (add-one k)))
