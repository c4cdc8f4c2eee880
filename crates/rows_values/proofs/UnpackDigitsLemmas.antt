-- Digits from packed bytes, and bytes that pack none.
use Rattle.std.proofs.Common.{◌≡◌, ◌≤◌, ◌<◌, ◌+◌, ◌*◌, ◌-◌, ◌/◌, ◌%◌, ◌^◌, ◌++◌, ℕ, zero, suc, List, [], ◌∷◌, length, take, drop, ◌⊎◌, inl, inr, Result, Ok, Err, IsErr, IsErrAnd, IfErr, append_assoc, arith, refl, sym, ap, subst, ◌∙◌}
use Rattle.std.specs.Prelude.{slice_range}
use Rattle.std.proofs.lemmas.Bool.Decides.{leb_tells}
use Rattle.std.proofs.Math.Nat.{pow-suc}
use Rattle.std.proofs.Math.Arith.{digits_div, digits_mod}
use Rattle.std.proofs.Math.Seq.{drop-append_seam, take-length}
use Rattle.std.proofs.lemmas.List.{length-append, length-take-le, length-drop, append-nil, drop-append-le, take-append-le, drop-set, length-set}
use Rattle.std.proofs.Math.ListN.{set}
use Rattle.std.proofs.lemmas.Int.Digits.{number_push}
use Rattle.std.specs.Int.{bytes_high_first, byte_at}
use Rattle.std.specs.Int.Digits.{number_from_digits}
use Rattle.byteorder.specs.Endian.{big_from}
use Rattle.byteorder.specs.Numbers.{big_from-cons, big_from-lt, big_number-reads_back, length-bytes_high_first}
use Rattle.wire_buf.specs.Encoding.{AreBytes}
use Rattle.rows_errors.specs.declared.fault.RowsError.{RowsError}
use Rattle.rows_errors.specs.declared.fault.RowsError.TheVariants.{Decimal as BadDecimal, Memory}
use Rattle.rows_values.specs.Digits.{AreDigits, group_size, group_bytes, nines_bytes, digits_in}
use Rattle.rows_values.specs.Steps.{AppendsDigits, NoDigits}
use Rattle.rows_values.proofs.GroupLemmas.{take_digits, drop_digits, append_digits, number_bound, fits_group, nines_more, nines_append}

-- ---- the last digits of a number

one_digit : (d : ℕ) → d < 10 → AreDigits (d ∷ [])
one_digit d h zero = h
one_digit d h (suc k) = omega arith

pub length-digits_in : (k n : ℕ) → length (digits_in k n) ≡ k
unfolding digits_in
length-digits_in zero n = refl
length-digits_in (suc k) n = omega (arith, length-append (digits_in k (n / 10)) (n % 10 ∷ []), length-digits_in k (n / 10))

pub are-digits_in : (k n : ℕ) → AreDigits (digits_in k n)
unfolding digits_in
are-digits_in zero n = λ j. omega arith
are-digits_in (suc k) n = append_digits (digits_in k (n / 10)) (n % 10 ∷ []) (are-digits_in k (n / 10)) (one_digit (n % 10) (omega arith))

pub number-digits_in : (k n : ℕ) → n < 10 ^ k → number_from_digits 10 (digits_in k n) ≡ n
unfolding digits_in
number-digits_in zero n h = omega (arith, h)
number-digits_in (suc k) n h =
    let power : 10 ^ suc k ≡ 10 ^ k * 10 = pow-suc 10 k in
    let small : n / 10 < 10 ^ k = omega (arith, h, power) in
    number_push 10 (digits_in k (n / 10)) (n % 10) ∙ ap (λ m. m * 10 + n % 10) (number-digits_in k (n / 10) small) ∙ omega arith

-- one more digit
pub digits_step : (k n : ℕ) → 0 < k → digits_in k n ≡ digits_in (k - 1) (n / 10) ++ (n % 10 ∷ [])
unfolding digits_in
digits_step zero n h = absurd (omega (arith, h))
digits_step (suc k) n h = let e : suc k - 1 ≡ k = omega arith in rw e refl

pub digits_none : (n : ℕ) → digits_in 0 n ≡ []
unfolding digits_in
digits_none n = refl

pub below_step : (k n : ℕ) → 0 < k → n / 10 < 10 ^ (k - 1) → n < 10 ^ k
below_step zero n h small = absurd (omega (arith, h))
below_step (suc k) n h small =
    let e : suc k - 1 ≡ k = omega arith in
    let power : 10 ^ suc k ≡ 10 ^ k * 10 = pow-suc 10 k in
    let less : n / 10 < 10 ^ k = subst (λ j. n / 10 < 10 ^ j) e small in
    omega (arith, less, power)

pub above_step : (k n : ℕ) → 0 < k → 10 ^ (k - 1) ≤ n / 10 → 10 ^ k ≤ n
above_step zero n h large = absurd (omega (arith, h))
above_step (suc k) n h large =
    let e : suc k - 1 ≡ k = omega arith in
    let power : 10 ^ suc k ≡ 10 ^ k * 10 = pow-suc 10 k in
    let more : 10 ^ k ≤ n / 10 = subst (λ j. 10 ^ j ≤ n / 10) e large in
    omega (arith, more, power)

-- ---- a number and its bytes

-- lists of bytes with the same number and length are the same
same_bytes : (xs ys : List ℕ) → length xs ≡ length ys → AreBytes xs → AreBytes ys → big_from 0 (length xs) xs ≡ big_from 0 (length ys) ys → xs ≡ ys
same_bytes [] [] e h g is = refl
same_bytes [] (y ∷ ys) e h g is = absurd (omega (arith, e))
same_bytes (x ∷ xs) [] e h g is = absurd (omega (arith, e))
same_bytes (x ∷ xs) (y ∷ ys) e h g is =
    let long : length xs ≡ length ys = omega (arith, e) in
    let m = 256 ^ length xs in
    let r = big_from 0 (length xs) xs in
    let t = big_from 0 (length ys) ys in
    let left : big_from 1 (length xs) (x ∷ xs) ≡ r = big_from-cons 0 (length xs) x xs in
    let right : big_from 1 (length ys) (y ∷ ys) ≡ t = big_from-cons 0 (length ys) y ys in
    let r_below : r < m = big_from-lt 0 (length xs) xs (λ k. h (suc k)) in
    let t_below : t < m = subst (λ k. t < 256 ^ k) (sym long) (big_from-lt 0 (length ys) ys (λ k. g (suc k))) in
    let sums : x * m + r ≡ y * m + t = ap (λ k. x * m + k) (sym left) ∙ is ∙ ap (λ k. y * 256 ^ length ys + k) right ∙ ap (λ k. y * 256 ^ k + t) (sym long) in
    let first : x ≡ y = sym (digits_div x r_below) ∙ ap (λ k. k / m) sums ∙ digits_div y t_below in
    let rest : r ≡ t = sym (digits_mod x r_below) ∙ ap (λ k. k % m) sums ∙ digits_mod y t_below in
    ap (λ k. k ∷ xs) first ∙ ap (λ l. y ∷ l) (same_bytes xs ys long (λ k. h (suc k)) (λ k. g (suc k)) rest)

low_byte : (k n : ℕ) → byte_at k n < 256
low_byte zero n = omega arith
low_byte (suc k) n = omega arith

pub are_bytes : (k n : ℕ) → AreBytes (bytes_high_first k n)
are_bytes zero n j = omega arith
are_bytes (suc k) n zero = low_byte k n
are_bytes (suc k) n (suc j) = are_bytes k n j

pub number_of_bytes : (k n : ℕ) → n < 256 ^ k → big_from 0 k (bytes_high_first k n) ≡ n
number_of_bytes k n small = ap (λ l. big_from 0 k l) (sym (append-nil (bytes_high_first k n))) ∙ big_number-reads_back k n [] small

-- the bytes of a list's number are the list
big_back : (xs : List ℕ) → AreBytes xs → bytes_high_first (length xs) (big_from 0 (length xs) xs) ≡ xs
big_back xs h =
    let n = length xs in
    let v = big_from 0 n xs in
    let size = length-bytes_high_first n v in
    same_bytes (bytes_high_first n v) xs size (are_bytes n v) h (ap (λ k. big_from 0 k (bytes_high_first n v)) size ∙ number_of_bytes n v (big_from-lt 0 n xs h))

-- ---- one group

pub group_gains : (count v : ℕ) (bytes old new : List ℕ) → length bytes ≡ group_size count → AreBytes bytes → v ≡ big_from 0 (length bytes) bytes → v < 10 ^ count → new ≡ old ++ digits_in count v
    → AppendsDigits group_bytes count bytes old new
group_gains count v bytes old new long are is small e =
    let ds = digits_in count v in
    let size = length-digits_in count v in
    record {
      digits = ds;
      size = size;
      are = are-digits_in count v;
      bytes_are = ap (λ k. bytes_high_first (group_size k) (number_from_digits 10 ds)) size ∙ ap (bytes_high_first (group_size count)) (number-digits_in count v small)
          ∙ ap (λ k. bytes_high_first k v) (sym long) ∙ ap (bytes_high_first (length bytes)) is ∙ big_back bytes are;
      appended = e;
    }

pub group_none : (count v : ℕ) (bytes : List ℕ) → count ≤ 9 → length bytes ≡ group_size count → v ≡ big_from 0 (length bytes) bytes → 10 ^ count ≤ v → NoDigits group_bytes count bytes
group_none count v bytes few long is over ds size are same =
    let n = number_from_digits 10 ds in
    let bound : n < 10 ^ count = subst (λ k. n < 10 ^ k) size (number_bound ds are) in
    let fits = (fits_group count n few bound).0 in
    let read : big_from 0 (group_size count) (bytes_high_first (group_size count) n) ≡ n = number_of_bytes (group_size count) n fits in
    let there : bytes_high_first (group_size count) n ≡ bytes = ap (λ k. bytes_high_first (group_size k) n) (sym size) ∙ same in
    let value : v ≡ n = is ∙ ap (λ k. big_from 0 k bytes) long ∙ ap (λ l. big_from 0 (group_size count) l) (sym there) ∙ read in
    omega (arith, value, bound, over)

-- ---- groups of nine

pub length-group : (ds : List ℕ) → length (group_bytes ds) ≡ group_size (length ds)
length-group ds = length-bytes_high_first (group_size (length ds)) (number_from_digits 10 ds)

pub nine_long : (ds : List ℕ) (i : ℕ) → 9 * i + 9 ≤ length ds → length (take 9 (drop (9 * i) ds)) ≡ 9
nine_long ds i room = length-take-le 9 (drop (9 * i) ds) (omega (arith, room, length-drop (9 * i) ds))

pub length-nines : (n : ℕ) (ds : List ℕ) → 9 * n ≤ length ds → length (nines_bytes n ds) ≡ 4 * n
unfolding nines_bytes
length-nines zero ds room = refl
length-nines (suc n) ds room =
    let last = nine_long ds n (omega (arith, room)) in
    let four : length (group_bytes (take 9 (drop (9 * n) ds))) ≡ 4 = length-group (take 9 (drop (9 * n) ds)) ∙ ap group_size last in
    omega (arith, length-append (nines_bytes n ds) (group_bytes (take 9 (drop (9 * n) ds))), length-nines n ds (omega (arith, room)), four)

pub nine_at : (n i : ℕ) (ds : List ℕ) → i < n → 9 * n ≤ length ds → take 4 (drop (4 * i) (nines_bytes n ds)) ≡ group_bytes (take 9 (drop (9 * i) ds))
unfolding nines_bytes
nine_at zero i ds below room = absurd (omega (arith, below))
nine_at (suc n) i ds below room = elim (leb_tells (suc i) n) [
  | inl t ↦
      let size = length-nines n ds (omega (arith, room)) in
      let g = group_bytes (take 9 (drop (9 * n) ds)) in
      let here : 4 * i ≤ length (nines_bytes n ds) = omega (arith, size, t.1) in
      let whole : 4 ≤ length (drop (4 * i) (nines_bytes n ds)) = omega (arith, size, t.1, length-drop (4 * i) (nines_bytes n ds)) in
      ap (take 4) (drop-append-le (4 * i) (nines_bytes n ds) g here) ∙ take-append-le 4 (drop (4 * i) (nines_bytes n ds)) g whole ∙ nine_at n i ds t.1 (omega (arith, room))
  | inr t ↦
      let size = length-nines n ds (omega (arith, room)) in
      let g = group_bytes (take 9 (drop (9 * n) ds)) in
      let same : i ≡ n = omega (arith, below, t.1) in
      let four : length g ≡ 4 = length-group (take 9 (drop (9 * n) ds)) ∙ ap group_size (nine_long ds n (omega (arith, room))) in
      let position : 4 * i ≡ length (nines_bytes n ds) = omega (arith, same, size) in
      ap (λ k. take 4 (drop k (nines_bytes n ds ++ g))) position ∙ ap (take 4) (drop-append_seam (nines_bytes n ds) g) ∙ ap (λ k. take k g) (sym four) ∙ take-length g
      ∙ ap (λ k. group_bytes (take 9 (drop (9 * k) ds))) (sym same)
]

take_none : (m : ℕ) → take m (let none : List ℕ = [] in none) ≡ []
take_none zero = refl
take_none (suc m) = refl

pub take_parts : (n m : ℕ) (xs : List ℕ) → take n xs ++ take m (drop n xs) ≡ take (n + m) xs
take_parts zero m xs = let e : 0 + m ≡ m = omega arith in ap (λ k. take k xs) (sym e)
take_parts (suc n) m [] = take_none m ∙ sym (take_none (suc n + m))
take_parts (suc n) m (x ∷ xs) = let e : suc n + m ≡ suc (n + m) = omega arith in ap (λ l. x ∷ l) (take_parts n m xs) ∙ ap (λ k. take k (x ∷ xs)) (sym e)

pub nines_gain_none : (bytes old : List ℕ) → AppendsDigits (nines_bytes 0) (9 * 0) (take (4 * 0) bytes) old old
unfolding nines_bytes
nines_gain_none bytes old = record { digits = []; size = refl; are = λ k. omega arith; bytes_are = refl; appended = sym (append-nil old) }

pub nines_gain_more : (i : ℕ) (bytes old mid new : List ℕ) → AppendsDigits (nines_bytes i) (9 * i) (take (4 * i) bytes) old mid → AppendsDigits group_bytes 9 (slice_range bytes (4 * i) (4 * i + 4)) mid new
    → AppendsDigits (nines_bytes (i + 1)) (9 * (i + 1)) (take (4 * (i + 1)) bytes) old new
nines_gain_more i bytes old mid new a b =
    let a_size = a.size in
    let b_size = b.size in
    let back : drop (9 * i) (a.digits ++ b.digits) ≡ b.digits = ap (λ k. drop k (a.digits ++ b.digits)) (sym a_size) ∙ drop-append_seam a.digits b.digits in
    let last : take 9 (drop (9 * i) (a.digits ++ b.digits)) ≡ b.digits = ap (take 9) back ∙ ap (λ k. take k b.digits) (sym b_size) ∙ take-length b.digits in
    let four : 4 * i + 4 - 4 * i ≡ 4 = omega arith in
    let more : 4 * (i + 1) ≡ 4 * i + 4 = omega arith in
    record {
      digits = a.digits ++ b.digits;
      size = omega (arith, length-append a.digits b.digits, a_size, b_size);
      are = append_digits a.digits b.digits a.are b.are;
      bytes_are = nines_more i (a.digits ++ b.digits) ∙ ap (λ l. nines_bytes i (a.digits ++ b.digits) ++ group_bytes l) last
          ∙ ap (λ l. l ++ group_bytes b.digits) (nines_append i a.digits b.digits (omega (arith, a_size)) ∙ a.bytes_are) ∙ ap (λ l. take (4 * i) bytes ++ l) (b.bytes_are ∙ ap (λ k. take k (drop (4 * i) bytes)) four)
          ∙ take_parts (4 * i) 4 bytes ∙ ap (λ k. take k bytes) (sym more);
      appended = b.appended ∙ ap (λ l. l ++ b.digits) a.appended ∙ append_assoc old a.digits b.digits;
    }

pub nines_lack : (count i : ℕ) (bytes : List ℕ) → i < count → length bytes ≡ 4 * count → NoDigits group_bytes 9 (slice_range bytes (4 * i) (4 * i + 4)) → NoDigits (nines_bytes count) (9 * count) bytes
nines_lack count i bytes below long none ds size are same =
    let four : 4 * i + 4 - 4 * i ≡ 4 = omega arith in
    let room : 9 * i + 9 ≤ length ds = omega (arith, size, below) in
    none (take 9 (drop (9 * i) ds)) (nine_long ds i room) (take_digits 9 (drop (9 * i) ds) (drop_digits (9 * i) ds are))
    (sym (nine_at count i ds below (omega (arith, size))) ∙ ap (λ l. take 4 (drop (4 * i) l)) same ∙ ap (λ k. take k (drop (4 * i) bytes)) (sym four))

-- ---- errors

-- an error for one reason, restated for another
pub fault_because : {T A B : Type 0} (r : Result T RowsError) → (A → B) → IfErr r (λ e. e ≡ Memory ⊎ ((e ≡ BadDecimal) × A)) → IfErr r (λ e. e ≡ Memory ⊎ ((e ≡ BadDecimal) × B))
fault_because (Ok v) f h = tt
fault_because (Err e) f h = elim h [ inl m ↦ inl m | inr q ↦ inr (q.0, f q.1) ]

pub fault_exit : {T A B : Type 0} (r : Result T RowsError) (e : RowsError) → IsErr r × IsErrAnd r (λ y. y ≡ e) → (A → B) → e ≡ Memory ⊎ ((e ≡ BadDecimal) × A) → IfErr r (λ y. y ≡ Memory ⊎ ((y ≡ BadDecimal) × B))
fault_exit (Ok v) e h f why = tt
fault_exit (Err y) e h f why = elim why [ inl m ↦ inl (h.1 ∙ m) | inr q ↦ inr (h.1 ∙ q.0, f q.1) ]

-- ---- the digits of one group

-- the last digits of a number are those of the rest, at the first offsets, followed by those that were written
pub record Fills (number count at left : ℕ) (positions : List ℕ) : Type 0 where
  pub size : length positions ≡ count
  pub room : at ≤ count
  pub digits : digits_in count number ≡ digits_in at left ++ drop at positions
  pub below : left < 10 ^ at → number < 10 ^ count
  pub above : 10 ^ at ≤ left → 10 ^ count ≤ number

pub fills_more : (n count at left : ℕ) (positions : List ℕ) → 0 < at → Fills n count at left positions → Fills n count (at - 1) (left / 10) (set positions (at - 1) (left % 10))
fills_more n count at left positions some f =
    let size = f.size in
    let room = f.room in
    let next : at - 1 + 1 ≡ at = omega (arith, some) in
    let written : drop (at - 1) (set positions (at - 1) (left % 10)) ≡ left % 10 ∷ drop at positions = drop-set positions (at - 1) (left % 10) (omega (arith, some, size, room)) ∙ ap (λ k. left % 10 ∷ drop k positions) next in
    record {
      size = length-set positions (at - 1) (left % 10) ∙ size;
      room = omega (arith, room);
      digits = f.digits ∙ ap (λ l. l ++ drop at positions) (digits_step at left some) ∙ append_assoc (digits_in (at - 1) (left / 10)) (left % 10 ∷ []) (drop at positions)
          ∙ ap (λ l. digits_in (at - 1) (left / 10) ++ l) (sym written);
      below = λ h. f.below (below_step at left some h);
      above = λ h. f.above (above_step at left some h);
    }

pub fills_all : (n count at left : ℕ) (positions : List ℕ) → at ≡ 0 → Fills n count at left positions → positions ≡ digits_in count n
fills_all n count at left positions none f =
    sym (f.digits ∙ ap (λ k. digits_in k left ++ drop k positions) none ∙ ap (λ l. l ++ positions) (digits_none left))
