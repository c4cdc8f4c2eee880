-- The numbers of a decimal of at most eight bytes.
use Rattle.std.proofs.Common.{◌≡◌, ◌≤◌, ◌<◌, ◌+◌, ◌*◌, ◌-◌, ◌/◌, ◌%◌, ◌^◌, Bool, true, false, ℕ, zero, suc, List, [], ◌∷◌, length, take, drop, Some, inl, inr, arith, refl, sym, ap, ap₂, subst, ◌∙◌}
use Rattle.std.specs.Prelude.{◌++◌}
use Rattle.std.specs.Option.{option_map}
use Rattle.std.proofs.lemmas.List.{length-take-le, take-take, length-drop}
use Rattle.std.proofs.lemmas.Nat.{div-mul-add, mod-mul-add}
use Rattle.std.proofs.lemmas.Bool.Decides.{leb_tells}
use Rattle.byteorder.specs.Endian.{big_from, big_number}
use Rattle.byteorder.specs.Numbers.{big_from-cons, big_from-lt, big_from-take}
use Rattle.byteorder.proofs.Bytes.{pow256}
use Rattle.wire_buf.specs.Encoding.{AreBytes}
use Rattle.rows_values.specs.Digits.{has_minus_bit, group_size, side_size, digits_in}
use Rattle.rows_values.specs.Decimals.{packed_size}
use Rattle.rows_values.specs.PackedNumbers.{IsNumber, PackNumbers}
use Rattle.rows_values.specs.PackedTexts.{flipped_back, Puts}
use Rattle.rows_values.specs.Unpacked.{unpacked, before_digits, after_digits, plain_bytes, sides_value}
use Rattle.rows_values.specs.declared.numbers.DecimalNumbers.{DecimalNumbers}
use Rattle.rows_values.proofs.FlipBackLemmas.{num, take-flipped_back, length-flipped_back}
use Rattle.rows_values.proofs.NumberLemmas.{one_group, two_groups, numbers_are, few_after}
use Rattle.rows_values.proofs.UnpackedLemmas.{unpacked_sized}
use Rattle.rows_values.proofs.WriteLemmas.{group_fits}
use Rattle.feed_writers.specs.Quoting.{quoted}
use Rattle.feed_text.specs.DecimalText.{quoted_decimal, numbers_text}
use Rattle.feed_text.proofs.DecimalTextLemmas.{packed_left, plain_quoted}
use Rattle.feed_text.proofs.NumberTextLemmas.{numbers_text_is, numbers_short}
use Rattle.feed_text.proofs.PrefixLemmas.{high_number, big_from-split, big_from-past}

-- ---- eight bytes as a number

pub negative_sign : (xs : List ℕ) (n : ℕ) → 8 ≤ length xs → AreBytes xs → n ≡ big_number 8 xs → n < 9223372036854775808 → true ≡ has_minus_bit xs
negative_sign (a ∷ b ∷ c ∷ d ∷ e ∷ f ∷ g ∷ h ∷ xs) n long are is small = elim (leb_tells (suc a) 128) [ inl t ↦ sym t.0 | inr t ↦ absurd (omega (arith, t.1, is, small, are 0, are 1, are 2, are 3, are 4, are 5, are 6, are 7)) ]
negative_sign [] n long are is small = absurd (omega (arith, long))
negative_sign (a ∷ []) n long are is small = absurd (omega (arith, long))
negative_sign (a ∷ b ∷ []) n long are is small = absurd (omega (arith, long))
negative_sign (a ∷ b ∷ c ∷ []) n long are is small = absurd (omega (arith, long))
negative_sign (a ∷ b ∷ c ∷ d ∷ []) n long are is small = absurd (omega (arith, long))
negative_sign (a ∷ b ∷ c ∷ d ∷ e ∷ []) n long are is small = absurd (omega (arith, long))
negative_sign (a ∷ b ∷ c ∷ d ∷ e ∷ f ∷ []) n long are is small = absurd (omega (arith, long))
negative_sign (a ∷ b ∷ c ∷ d ∷ e ∷ f ∷ g ∷ []) n long are is small = absurd (omega (arith, long))

pub positive_sign : (xs : List ℕ) (n : ℕ) → 8 ≤ length xs → AreBytes xs → n ≡ big_number 8 xs → 9223372036854775808 ≤ n → false ≡ has_minus_bit xs
positive_sign (a ∷ b ∷ c ∷ d ∷ e ∷ f ∷ g ∷ h ∷ xs) n long are is large = elim (leb_tells (suc a) 128) [ inl t ↦ absurd (omega (arith, t.1, is, large, are 0, are 1, are 2, are 3, are 4, are 5, are 6, are 7)) | inr t ↦ sym t.0 ]
positive_sign [] n long are is large = absurd (omega (arith, long))
positive_sign (a ∷ []) n long are is large = absurd (omega (arith, long))
positive_sign (a ∷ b ∷ []) n long are is large = absurd (omega (arith, long))
positive_sign (a ∷ b ∷ c ∷ []) n long are is large = absurd (omega (arith, long))
positive_sign (a ∷ b ∷ c ∷ d ∷ []) n long are is large = absurd (omega (arith, long))
positive_sign (a ∷ b ∷ c ∷ d ∷ e ∷ []) n long are is large = absurd (omega (arith, long))
positive_sign (a ∷ b ∷ c ∷ d ∷ e ∷ f ∷ []) n long are is large = absurd (omega (arith, long))
positive_sign (a ∷ b ∷ c ∷ d ∷ e ∷ f ∷ g ∷ []) n long are is large = absurd (omega (arith, long))

complement : (x : ℕ) → x < 256 → x + (255 - x) ≡ 255
complement x small = omega (arith, small)

turned_sum : (a b c d e f g h p q r s t u v w n : ℕ) → a + p ≡ 255 → b + q ≡ 255 → c + r ≡ 255 → d + s ≡ 255 → e + t ≡ 255 → f + u ≡ 255 → g + v ≡ 255 → h + w ≡ 255 → n ≡ big_number 8 (a ∷ b ∷ c ∷ d ∷ e ∷ f ∷ g ∷ h ∷ []) → n < 9223372036854775808
    → 9223372036854775807 - n ≡ big_number 8 ((p + 128) % 256 ∷ q ∷ r ∷ s ∷ t ∷ u ∷ v ∷ w ∷ [])
turned_sum a b c d e f g h p q r s t u v w n e1 e2 e3 e4 e5 e6 e7 e8 is small =
    let low : a < 128 = omega (arith, is, small) in
    let first : (p + 128) % 256 ≡ p - 128 = omega (arith, low, e1) in
    rw first (omega (arith, low, e1, e2, e3, e4, e5, e6, e7, e8, is))

pub negative_word : (xs : List ℕ) (n : ℕ) → 8 ≤ length xs → AreBytes xs → n ≡ big_number 8 xs → n < 9223372036854775808 → 9223372036854775807 - n ≡ big_number 8 (flipped_back true true xs)
negative_word (a ∷ b ∷ c ∷ d ∷ e ∷ f ∷ g ∷ h ∷ xs) n long are is small = turned_sum a b c d e f g h (255 - a) (255 - b) (255 - c) (255 - d) (255 - e) (255 - f) (255 - g) (255 - h) n (complement a (are 0)) (complement b (are 1)) (complement c (are 2)) (complement d (are 3)) (complement e (are 4)) (complement f (are 5)) (complement g (are 6)) (complement h (are 7)) is small
negative_word [] n long are is small = absurd (omega (arith, long))
negative_word (a ∷ []) n long are is small = absurd (omega (arith, long))
negative_word (a ∷ b ∷ []) n long are is small = absurd (omega (arith, long))
negative_word (a ∷ b ∷ c ∷ []) n long are is small = absurd (omega (arith, long))
negative_word (a ∷ b ∷ c ∷ d ∷ []) n long are is small = absurd (omega (arith, long))
negative_word (a ∷ b ∷ c ∷ d ∷ e ∷ []) n long are is small = absurd (omega (arith, long))
negative_word (a ∷ b ∷ c ∷ d ∷ e ∷ f ∷ []) n long are is small = absurd (omega (arith, long))
negative_word (a ∷ b ∷ c ∷ d ∷ e ∷ f ∷ g ∷ []) n long are is small = absurd (omega (arith, long))

pub positive_word : (xs : List ℕ) (n : ℕ) → 8 ≤ length xs → AreBytes xs → n ≡ big_number 8 xs → 9223372036854775808 ≤ n → n - 9223372036854775808 ≡ big_number 8 (flipped_back false true xs)
positive_word (a ∷ b ∷ c ∷ d ∷ e ∷ f ∷ g ∷ h ∷ xs) n long are is large = omega (arith, is, large, are 0, are 1, are 2, are 3, are 4, are 5, are 6, are 7)
positive_word [] n long are is large = absurd (omega (arith, long))
positive_word (a ∷ []) n long are is large = absurd (omega (arith, long))
positive_word (a ∷ b ∷ []) n long are is large = absurd (omega (arith, long))
positive_word (a ∷ b ∷ c ∷ []) n long are is large = absurd (omega (arith, long))
positive_word (a ∷ b ∷ c ∷ d ∷ []) n long are is large = absurd (omega (arith, long))
positive_word (a ∷ b ∷ c ∷ d ∷ e ∷ []) n long are is large = absurd (omega (arith, long))
positive_word (a ∷ b ∷ c ∷ d ∷ e ∷ f ∷ []) n long are is large = absurd (omega (arith, long))
positive_word (a ∷ b ∷ c ∷ d ∷ e ∷ f ∷ g ∷ []) n long are is large = absurd (omega (arith, long))

-- the first bytes of eight
pub first_number : (n u : ℕ) (xs : List ℕ) → AreBytes xs → n ≤ 8 → u + 8 * n ≡ 64 → big_number 8 xs / 2 ^ u ≡ big_number n xs
first_number n u xs are few e = elim (leb_tells 8 n) [
  | inl t ↦
      let all : n ≡ 8 = omega (arith, t.1, few) in
      let none : u ≡ 0 = omega (arith, all, e) in
      rw (all, none) (omega arith)
  | inr t ↦ high_number n u xs are (omega (arith, t.1)) e
]

-- the bytes before the last ones, and these
pub before_last : (n m : ℕ) (xs : List ℕ) → AreBytes xs → big_from 0 (n + m) xs / 2 ^ (8 * m) ≡ big_from 0 n xs
before_last n m xs are = rw (big_from-split n m 0 xs, sym (pow256 m)) (div-mul-add (big_from 0 n xs) (256 ^ m) (big_from (0 + n) m xs) (big_from-lt (0 + n) m xs are))

pub last_bytes : (n m : ℕ) (xs : List ℕ) → AreBytes xs → big_from 0 (n + m) xs % 2 ^ (8 * m) ≡ big_from n m xs
last_bytes n m xs are =
    let same : 0 + n ≡ n = omega arith in
    rw (big_from-split n m 0 xs, sym (pow256 m)) (mod-mul-add (big_from 0 n xs) (256 ^ m) (big_from (0 + n) m xs) (big_from-lt (0 + n) m xs are) ∙ ap (λ (k : ℕ). big_from k m xs) same)

pub shifted_one : (m : ℕ) → m ≤ 4 → 1 * 2 ^ (8 * m) % 18446744073709551616 ≡ 2 ^ (8 * m)
shifted_one zero few = refl
shifted_one (suc zero) few = refl
shifted_one (suc (suc zero)) few = refl
shifted_one (suc (suc (suc zero))) few = refl
shifted_one (suc (suc (suc (suc zero)))) few = refl
shifted_one (suc (suc (suc (suc (suc m))))) few = absurd (omega (arith, few))

pub both_parts : (number n m k : ℕ) (xs : List ℕ) → k ≡ m → m ≤ 4 → AreBytes xs → number ≡ big_from 0 (n + m) xs → (number / 2 ^ (8 * k) ≡ big_from 0 n xs) × (number % (1 * 2 ^ (8 * k) % 18446744073709551616) ≡ big_from n m xs)
both_parts number n m k xs same few are is = rw (same, is) (before_last n m xs are, ap (λ (p : ℕ). big_from 0 (n + m) xs % p) (shifted_one m few) ∙ last_bytes n m xs are)

-- ---- parts of a list as numbers

from_drop : (a n : ℕ) (xs : List ℕ) → big_from 0 n (drop a xs) ≡ big_from a n xs
from_drop zero n xs = refl
from_drop (suc a) n [] = big_from-past 0 n [] (omega arith) ∙ sym (big_from-past (suc a) n [] (omega arith))
from_drop (suc a) n (x ∷ xs) = from_drop a n xs ∙ sym (big_from-cons a n x xs)

num_take : (g a : ℕ) (xs : List ℕ) → g ≤ a → a ≤ length xs → num (take g (take a xs)) ≡ big_from 0 g xs
num_take g a xs le within =
    let long : length (take g (take a xs)) ≡ g = ap length (take-take g a xs le) ∙ length-take-le g xs (omega (arith, le, within)) in
    ap (λ (k : ℕ). big_from 0 k (take g (take a xs))) long ∙ big_from-take 0 g g (take a xs) (omega arith) ∙ big_from-take 0 g a xs (omega (arith, le))

length_rest : (g b : ℕ) (xs : List ℕ) → g + b ≤ length xs → length (drop g (take (g + b) xs)) ≡ b
length_rest g b xs within = omega (arith, length-drop g (take (g + b) xs), length-take-le (g + b) xs within)

num_drop : (g b : ℕ) (xs : List ℕ) → g + b ≤ length xs → num (drop g (take (g + b) xs)) ≡ big_from g b xs
num_drop g b xs within =
    ap (λ (k : ℕ). big_from 0 k (drop g (take (g + b) xs))) (length_rest g b xs within) ∙ from_drop g b (take (g + b) xs) ∙ big_from-take g b (g + b) xs (omega arith)

-- ---- the digits before the point

pub one_whole : (count n : ℕ) (xs : List ℕ) → count < 9 → n ≡ big_from 0 (side_size count) xs → side_size count ≤ length xs → n < 10 ^ count → IsNumber (before_digits count (take (side_size count) xs)) count n
one_whole count n xs few is within small =
    let left : count % 9 ≡ count = omega (arith, few) in
    let g = group_size (count % 9) in
    let size : side_size count ≡ g = let none : count / 9 ≡ 0 = omega (arith, few) in omega (arith, none) in
    let number : n ≡ num (take g (take (side_size count) xs)) = is ∙ ap (λ (k : ℕ). big_from 0 k xs) size ∙ sym (num_take g (side_size count) xs (omega (arith, size)) within) in
    one_group count (count % 9) n (take g (take (side_size count) xs)) (drop g (take (side_size count) xs)) few left number (subst (λ (k : ℕ). n < 10 ^ k) (sym left) small) n refl

pub nine_size : (count : ℕ) → 9 ≤ count → count ≤ 16 → side_size count ≡ group_size (count % 9) + 4
nine_size count many most = let one : count / 9 ≡ 1 = omega (arith, many, most) in omega (arith, one)

pub two_whole : (count high low m : ℕ) (xs : List ℕ) → 9 ≤ count → count ≤ 16 → side_size count ≤ length xs → high ≡ big_from 0 (group_size (count % 9)) xs → low ≡ big_from (group_size (count % 9)) 4 xs
    → high < 10 ^ (count - 9) → low < 1000000000 → m ≡ high * 1000000000 + low → IsNumber (before_digits count (take (side_size count) xs)) count m
two_whole count high low m xs many most within is_high is_low fits_high fits_low sum =
    let g = group_size (count % 9) in
    let left : count - 9 ≡ count % 9 = omega (arith, many, most) in
    let size : side_size count ≡ g + 4 = nine_size count many most in
    let room : g + 4 ≤ length xs = omega (arith, size, within) in
    let first : high ≡ num (take g (take (side_size count) xs)) = is_high ∙ sym (num_take g (side_size count) xs (omega (arith, size)) within) in
    let last : low ≡ num (drop g (take (side_size count) xs)) = is_low ∙ sym (num_drop g 4 xs room) ∙ ap (λ (k : ℕ). num (drop g (take k xs))) (sym size) in
    let four : length (drop g (take (side_size count) xs)) ≡ 4 = ap (λ (k : ℕ). length (drop g (take k xs))) size ∙ length_rest g 4 xs room in
    two_groups count high low m (take g (take (side_size count) xs)) (drop g (take (side_size count) xs)) many most first (subst (λ (k : ℕ). high < 10 ^ k) left fits_high) last four fits_low sum

-- ---- the decimal

pub few_side : (scale : ℕ) → scale ≤ 8 → side_size scale ≡ group_size scale
few_side scale few =
    let none : scale / 9 ≡ 0 = omega (arith, few) in
    let same : scale % 9 ≡ scale = omega (arith, few) in
    rw (none, same) (omega arith)

same_sign : (n : ℕ) (xs : List ℕ) → 1 ≤ n → has_minus_bit (take n xs) ≡ has_minus_bit xs
same_sign zero xs some = absurd (omega (arith, some))
same_sign (suc n) [] some = refl
same_sign (suc n) (x ∷ xs) some = refl

pub numbers_of_word : (precision scale size : ℕ) (bytes : List ℕ) (n : DecimalNumbers) → scale ≤ precision → precision - scale ≤ 16 → scale ≤ 8 → size ≡ packed_size (precision - scale) scale → 1 ≤ size → size ≤ length bytes
    → n.negative ≡ has_minus_bit bytes → (let f : List ℕ = flipped_back n.negative true bytes in (IsNumber (before_digits (precision - scale) (take (side_size (precision - scale)) f)) (precision - scale) n.before) × (n.after ≡ big_from (side_size (precision - scale)) (side_size scale) f))
    → n.after < 10 ^ scale → PackNumbers precision scale (take size bytes) n
numbers_of_word precision scale size bytes n le few_before few size_is some within sign is small =
    let k = precision - scale in
    let a = side_size k in
    let b = side_size scale in
    let c = take size bytes in
    let f = flipped_back n.negative true bytes in
    let long : length c ≡ packed_size k scale = length-take-le size bytes within ∙ size_is in
    let same : has_minus_bit c ≡ n.negative = same_sign size bytes some ∙ sym sign in
    let plain : plain_bytes c ≡ take size f = ap (λ (s : Bool). flipped_back s true c) same ∙ sym (take-flipped_back size n.negative true bytes) in
    let room : a + b ≤ length f = omega (arith, length-flipped_back n.negative true bytes, within, size_is) in
    let whole : unpacked precision scale c ≡ sides_value n.negative k scale (take size f) = unpacked_sized precision scale c le long ∙ ap₂ (λ (s : Bool) (p : List ℕ). sides_value s k scale p) same plain in
    let first : before_digits k (take a (take size f)) ≡ Some (digits_in k n.before) = ap (before_digits k) (take-take a size f (omega (arith, size_is))) ∙ is.0.are in
    let number : n.after ≡ num (drop a (take size f)) = is.1 ∙ sym (num_drop a b f room) ∙ ap (λ (m : ℕ). num (drop a (take m f))) (sym size_is) in
    let last : after_digits scale (drop a (take size f)) ≡ Some (digits_in scale n.after) = few_after scale (drop a (take size f)) few ∙ group_fits scale n.after (drop a (take size f)) number small in
    record {
      ordered = le;
      few_before = few_before;
      few_after = few;
      is = numbers_are (unpacked precision scale c) n.negative (before_digits k (take a (take size f))) (after_digits scale (drop a (take size f))) k scale n.before n.after whole first last;
      before_fits = is.0.fits;
      after_fits = small;
    }

-- the quoted text of two numbers is that of the decimal
pub numbers_put : (precision scale at : ℕ) (b old new : List ℕ) (n : DecimalNumbers) (end : ℕ) → AreBytes b → PackNumbers precision scale b n → end ≡ at + (length (numbers_text scale n) + 2)
    → take end new ≡ take at old ++ (39 ∷ numbers_text scale n ++ 39 ∷ []) → Puts (quoted_decimal precision scale b) 76 at old new end
numbers_put precision scale at b old new n end are p long written =
    let text = numbers_text scale n in
    let is = numbers_text_is precision scale b n p in
    let le = p.ordered in
    let few = p.few_before in
    let some = p.few_after in
    record {
      text = quoted text;
      is = ap (option_map quoted) is;
      from = omega (arith, long);
      most = omega (arith, long, numbers_short precision scale b n p, le, few, some);
      written = written ∙ ap (λ (l : List ℕ). take at old ++ l) (sym (plain_quoted text (packed_left precision scale b text are is)));
    }
