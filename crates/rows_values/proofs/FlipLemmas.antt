-- The order of inverted bytes.
use Rattle.std.proofs.Common.{◌≡◌, ◌≢◌, ◌<◌, ◌+◌, ◌-◌, ◌%◌, Bool, true, false, ℕ, List, [], ◌∷◌, map, get_or, inl, inr, arith, refl, sym, ap, ◌∙◌, Ordering}
use Rattle.std.proofs.lemmas.Bool.{true≢false}
use mathlib.Core.Bool.{beq, not}
use Rattle.std.specs.Ordering.{nat_cmp, ordering_then}
use Rattle.std.specs.declared.cmp.Ordering.TheVariants.{Less, Equal, Greater}
use Rattle.std.specs.Cmp.Lexicographic.{slice_cmp}
use Rattle.rows_values.specs.Digits.{top_flipped, signed}
use Rattle.rows_values.specs.Decimals.{decimal_parts, pack_decimal}
use Rattle.rows_values.specs.Steps.{sides_bytes}
use Rattle.rows_values.specs.declared.fields.Decimal.{Decimal}
use Rattle.rows_values.proofs.OrderLemmas.{self_equal}
use Rattle.rows_values.proofs.UnpackLemmas.{sides_low}
use Rattle.rows_values.proofs.NumericLemmas.{less, greater, shift_cmp, flip_cmp, three, mixed_less, mixed_greater, sides_some}

-- equal first bytes don't matter
pub same_prefix : (n : Bool) (b c : ℕ) (x y : List ℕ) → b ≡ c → slice_cmp nat_cmp (signed n (b ∷ x)) (signed n (c ∷ y)) ≡ slice_cmp nat_cmp (signed n x) (signed n y)
same_prefix true b c x y e =
    ap (λ k. ordering_then (nat_cmp (255 - b) (255 - k)) (slice_cmp nat_cmp (map (λ d. 255 - d) x) (map (λ d. 255 - d) y))) (sym e)
    ∙ ap (λ (o : Ordering). ordering_then o (slice_cmp nat_cmp (map (λ d. 255 - d) x) (map (λ d. 255 - d) y))) (self_equal (255 - b))
same_prefix false b c x y e = ap (λ k. ordering_then (nat_cmp b k) (slice_cmp nat_cmp x y)) (sym e) ∙ ap (λ (o : Ordering). ordering_then o (slice_cmp nat_cmp x y)) (self_equal b)

-- bytes that differ decide
decided : (b c : ℕ) (o : Ordering) → b ≢ c → ordering_then (nat_cmp b c) o ≡ nat_cmp b c
decided b c o apart = elim (three b c) [
  | inl l ↦ ap (λ (p : Ordering). ordering_then p o) (less b c l) ∙ sym (less b c l)
  | inr r ↦ elim r [
    | inl e ↦ absurd (apart e)
    | inr g ↦ ap (λ (p : Ordering). ordering_then p o) (greater b c g) ∙ sym (greater b c g)
  ]
]

pub plain_prefix : (b c : ℕ) (x y : List ℕ) → b ≢ c → nat_cmp b c ≡ slice_cmp nat_cmp (signed false (b ∷ x)) (signed false (c ∷ y))
plain_prefix b c x y apart = sym (decided b c (slice_cmp nat_cmp x y) apart)

pub minus_prefix : (b c : ℕ) (x y : List ℕ) → b < 256 → c < 256 → b ≢ c → nat_cmp c b ≡ slice_cmp nat_cmp (signed true (b ∷ x)) (signed true (c ∷ y))
minus_prefix b c x y h g apart =
    let rest = slice_cmp nat_cmp (map (λ d. 255 - d) x) (map (λ d. 255 - d) y) in
    sym (ap (λ (o : Ordering). ordering_then o rest) (flip_cmp b c h g) ∙ decided c b rest (λ e. apart (sym e)))

-- a list is less than one that begins with it
pub ends_less : (n : Bool) (c : ℕ) (y : List ℕ) → Less ≡ slice_cmp nat_cmp (signed n []) (signed n (c ∷ y))
ends_less true c y = refl
ends_less false c y = refl

pub ends_greater : (n : Bool) (b : ℕ) (x : List ℕ) → Greater ≡ slice_cmp nat_cmp (signed n (b ∷ x)) (signed n [])
ends_greater true b x = refl
ends_greater false b x = refl

pub ends_equal : (n : Bool) → Equal ≡ slice_cmp nat_cmp (signed n []) (signed n [])
ends_equal true = refl
ends_equal false = refl

-- the top bits don't matter if they are those of the same sign
pub top_same : (n : Bool) (y z : List ℕ) → get_or y 0 0 < 128 → get_or z 0 0 < 128 → slice_cmp nat_cmp (signed n y) (signed n z) ≡ slice_cmp nat_cmp (signed n (top_flipped y)) (signed n (top_flipped z))
top_same true [] [] h g = refl
top_same true [] (c ∷ z) h g = refl
top_same true (b ∷ y) [] h g = refl
top_same true (b ∷ y) (c ∷ z) h g =
    let one : (b + 128) % 256 ≡ 128 + b = omega (arith, h) in
    let two : (c + 128) % 256 ≡ 128 + c = omega (arith, g) in
    let rest = slice_cmp nat_cmp (map (λ d. 255 - d) y) (map (λ d. 255 - d) z) in
    ap (λ (o : Ordering). ordering_then o rest)
    (flip_cmp b c (omega (arith, h)) (omega (arith, g)) ∙ sym (shift_cmp 128 c b) ∙ sym (flip_cmp (128 + b) (128 + c) (omega (arith, h)) (omega (arith, g)))
    ∙ ap (λ k. nat_cmp (255 - k) (255 - (128 + c))) (sym one) ∙ ap (λ k. nat_cmp (255 - (b + 128) % 256) (255 - k)) (sym two))
top_same false [] [] h g = refl
top_same false [] (c ∷ z) h g = refl
top_same false (b ∷ y) [] h g = refl
top_same false (b ∷ y) (c ∷ z) h g =
    let one : (b + 128) % 256 ≡ 128 + b = omega (arith, h) in
    let two : (c + 128) % 256 ≡ 128 + c = omega (arith, g) in
    ap (λ (o : Ordering). ordering_then o (slice_cmp nat_cmp y z)) (sym (shift_cmp 128 b c) ∙ ap (λ k. nat_cmp k (128 + c)) (sym one) ∙ ap (nat_cmp ((b + 128) % 256)) (sym two))

-- ---- the packed format

pub one_sign : (n : Bool) (a b : Decimal) (x y : List ℕ) (o : Ordering) → a.negative ≡ n → b.negative ≡ n → x ≡ sides_bytes a.before.items a.after.items → y ≡ sides_bytes b.before.items b.after.items
    → o ≡ slice_cmp nat_cmp (signed n x) (signed n y) → o ≡ slice_cmp nat_cmp (pack_decimal a) (pack_decimal b)
one_sign n a b x y o first second left right is =
    let v = sides_bytes a.before.items a.after.items in
    let w = sides_bytes b.before.items b.after.items in
    is ∙ ap (λ (l : List ℕ). slice_cmp nat_cmp (signed n l) (signed n y)) left ∙ ap (λ (l : List ℕ). slice_cmp nat_cmp (signed n v) (signed n l)) right
    ∙ top_same n v w (sides_low a.before.items a.after.items a.before_are a.after_are) (sides_low b.before.items b.after.items b.before_are b.after_are)
    ∙ ap (λ (m : Bool). slice_cmp nat_cmp (signed m (top_flipped v)) (signed n (top_flipped w))) (sym first)
    ∙ ap (λ (m : Bool). slice_cmp nat_cmp (signed a.negative (top_flipped v)) (signed m (top_flipped w))) (sym second)

pub minus_less : (a b : Decimal) → a.negative ≡ true → b.negative ≡ false → Less ≡ slice_cmp nat_cmp (pack_decimal a) (pack_decimal b)
minus_less a b first second =
    let v = sides_bytes a.before.items a.after.items in
    let w = sides_bytes b.before.items b.after.items in
    sym (mixed_less v w (sides_some (decimal_parts a) a.some) (sides_some (decimal_parts b) b.some) (sides_low a.before.items a.after.items a.before_are a.after_are) (sides_low b.before.items b.after.items b.before_are b.after_are))
    ∙ ap (λ (m : Bool). slice_cmp nat_cmp (signed m (top_flipped v)) (top_flipped w)) (sym first)
    ∙ ap (λ (m : Bool). slice_cmp nat_cmp (signed a.negative (top_flipped v)) (signed m (top_flipped w))) (sym second)

pub plus_greater : (a b : Decimal) → a.negative ≡ false → b.negative ≡ true → Greater ≡ slice_cmp nat_cmp (pack_decimal a) (pack_decimal b)
plus_greater a b first second =
    let v = sides_bytes a.before.items a.after.items in
    let w = sides_bytes b.before.items b.after.items in
    sym (mixed_greater v w (sides_some (decimal_parts a) a.some) (sides_some (decimal_parts b) b.some) (sides_low a.before.items a.after.items a.before_are a.after_are) (sides_low b.before.items b.after.items b.before_are b.after_are))
    ∙ ap (λ (m : Bool). slice_cmp nat_cmp (signed m (top_flipped v)) (signed true (top_flipped w))) (sym first)
    ∙ ap (λ (m : Bool). slice_cmp nat_cmp (signed a.negative (top_flipped v)) (signed m (top_flipped w))) (sym second)

-- ---- two signs

pub plus_beside : (a b : Bool) → not (beq a b) ≡ true → a ≡ true → b ≡ false
plus_beside a false apart is = refl
plus_beside true true apart is = absurd (true≢false (sym apart))
plus_beside false true apart is = absurd (true≢false (sym is))

pub minus_beside : (a b : Bool) → not (beq a b) ≡ true → a ≡ false → b ≡ true
minus_beside a true apart is = refl
minus_beside true false apart is = absurd (true≢false is)
minus_beside false false apart is = absurd (true≢false (sym apart))

pub same_sign : (a b : Bool) → not (beq a b) ≡ false → b ≡ a
same_sign true true same = refl
same_sign false false same = refl
same_sign true false same = absurd (true≢false same)
same_sign false true same = absurd (true≢false same)
