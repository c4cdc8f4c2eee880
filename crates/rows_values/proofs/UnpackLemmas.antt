-- Both sides of the point, the sign, and the groups that are dropped.
use Rattle.std.proofs.Common.{◌≡◌, ◌≤◌, ◌<◌, ◌+◌, ◌*◌, ◌-◌, ◌/◌, ◌%◌, ◌^◌, ◌++◌, Bool, true, false, ltb, ℕ, zero, suc, List, [], ◌∷◌, length, take, drop, map, get_or, inl, inr, append_assoc, arith, refl, sym, ap, subst, ◌∙◌}
use Rattle.std.proofs.Math.Nat.{pow-suc, div-lt_iff_lt-mul}
use Rattle.std.proofs.Math.Seq.{take-append_seam, drop-append_seam}
use Rattle.std.proofs.lemmas.Bool.Decides.{leb_tells}
use Rattle.std.proofs.lemmas.List.{length-append, length-take, length-take-le, length-drop, take-append-drop}
use Rattle.std.specs.Int.{bytes_high_first}
use Rattle.std.specs.Int.Digits.{number_from_digits}
use Rattle.wire_buf.specs.Encoding.{AreBytes}
use Rattle.std.specs.Prelude.{if◌then◌else◌}
use Rattle.rows_values.specs.Digits.{AreDigits, group_size, side_size, group_bytes, nines_bytes, before_bytes, after_bytes, top_flipped, signed, has_minus_bit}
use Rattle.rows_values.specs.Steps.{AppendsDigits, NoDigits}
use Rattle.rows_values.specs.Decimals.{DecimalParts, Unpacks, IsPacked, NonePacked, some_digit, without_zero_groups}
use Rattle.rows_values.proofs.GroupLemmas.{take_digits, drop_digits, append_digits, number_bound, fits_group, nines_append}
use Rattle.rows_values.proofs.ZeroLemmas.{groups_dropped}
use Rattle.rows_values.proofs.UnpackDigitsLemmas.{length-group, length-nines, are_bytes, group_none}

-- ---- before the point

pub before_of : (count : ℕ) (ds : List ℕ) → length ds ≡ count → before_bytes ds ≡ group_bytes (take (count % 9) ds) ++ nines_bytes (count / 9) (drop (count % 9) ds)
unfolding before_bytes
before_of count ds size = ap (λ k. group_bytes (take (k % 9) ds) ++ nines_bytes (k / 9) (drop (k % 9) ds)) size

pub before_gains : (count s : ℕ) (bytes old mid new : List ℕ) → AppendsDigits group_bytes (count % 9) (take s bytes) old mid → AppendsDigits (nines_bytes (count / 9)) (9 * (count / 9)) (drop s bytes) mid new
    → AppendsDigits before_bytes count bytes old new
before_gains count s bytes old mid new a b =
    let a_size = a.size in
    let b_size = b.size in
    let ds = a.digits ++ b.digits in
    let size : length ds ≡ count = omega (arith, length-append a.digits b.digits, a_size, b_size) in
    let prefix : take (count % 9) ds ≡ a.digits = ap (λ k. take k ds) (sym a_size) ∙ take-append_seam a.digits b.digits in
    let back : drop (count % 9) ds ≡ b.digits = ap (λ k. drop k ds) (sym a_size) ∙ drop-append_seam a.digits b.digits in
    record {
      digits = ds;
      size = size;
      are = append_digits a.digits b.digits a.are b.are;
      bytes_are = before_of count ds size ∙ ap (λ l. group_bytes l ++ nines_bytes (count / 9) (drop (count % 9) ds)) prefix ∙ ap (λ l. group_bytes a.digits ++ nines_bytes (count / 9) l) back
          ∙ ap (λ l. l ++ nines_bytes (count / 9) b.digits) a.bytes_are ∙ ap (λ l. take s bytes ++ l) b.bytes_are ∙ take-append-drop s bytes;
      appended = b.appended ∙ ap (λ l. l ++ b.digits) a.appended ∙ append_assoc old a.digits b.digits;
    }

left_long : (count : ℕ) (ds : List ℕ) → length ds ≡ count → length (take (count % 9) ds) ≡ count % 9
left_long count ds size = length-take-le (count % 9) ds (omega (arith, size))

pub before_lacks_first : (count s : ℕ) (bytes : List ℕ) → s ≡ group_size (count % 9) → NoDigits group_bytes (count % 9) (take s bytes) → NoDigits before_bytes count bytes
before_lacks_first count s bytes is none ds size are same =
    let p = take (count % 9) ds in
    let rest = nines_bytes (count / 9) (drop (count % 9) ds) in
    let long = left_long count ds size in
    let g : length (group_bytes p) ≡ s = length-group p ∙ ap group_size long ∙ sym is in
    none p long (take_digits (count % 9) ds are)
    (sym (take-append_seam (group_bytes p) rest) ∙ ap (λ k. take k (group_bytes p ++ rest)) g ∙ ap (take s) (sym (before_of count ds size) ∙ same))

pub before_lacks_rest : (count s : ℕ) (bytes : List ℕ) → s ≡ group_size (count % 9) → NoDigits (nines_bytes (count / 9)) (9 * (count / 9)) (drop s bytes) → NoDigits before_bytes count bytes
before_lacks_rest count s bytes is none ds size are same =
    let p = take (count % 9) ds in
    let q = drop (count % 9) ds in
    let rest = nines_bytes (count / 9) q in
    let g : length (group_bytes p) ≡ s = length-group p ∙ ap group_size (left_long count ds size) ∙ sym is in
    none q (omega (arith, size, length-drop (count % 9) ds)) (drop_digits (count % 9) ds are)
    (sym (drop-append_seam (group_bytes p) rest) ∙ ap (λ k. drop k (group_bytes p ++ rest)) g ∙ ap (drop s) (sym (before_of count ds size) ∙ same))

-- ---- after the point

pub after_of : (count : ℕ) (ds : List ℕ) → length ds ≡ count → after_bytes ds ≡ nines_bytes (count / 9) (take (9 * (count / 9)) ds) ++ group_bytes (drop (9 * (count / 9)) ds)
unfolding after_bytes
after_of count ds size =
    let w = 9 * (count / 9) in
    let p = take w ds in
    let long : length p ≡ w = length-take-le w ds (omega (arith, size)) in
    ap (λ k. nines_bytes (k / 9) ds ++ group_bytes (drop (9 * (k / 9)) ds)) size
    ∙ ap (λ l. nines_bytes (count / 9) l ++ group_bytes (drop w ds)) (sym (take-append-drop w ds))
    ∙ ap (λ l. l ++ group_bytes (drop w ds)) (nines_append (count / 9) p (drop w ds) (omega (arith, long)))

pub after_gains : (count s : ℕ) (bytes old mid new : List ℕ) → AppendsDigits (nines_bytes (count / 9)) (9 * (count / 9)) (take s bytes) old mid → AppendsDigits group_bytes (count % 9) (drop s bytes) mid new
    → AppendsDigits after_bytes count bytes old new
after_gains count s bytes old mid new a b =
    let a_size = a.size in
    let b_size = b.size in
    let ds = a.digits ++ b.digits in
    let w = 9 * (count / 9) in
    let size : length ds ≡ count = omega (arith, length-append a.digits b.digits, a_size, b_size) in
    let prefix : take w ds ≡ a.digits = ap (λ k. take k ds) (sym a_size) ∙ take-append_seam a.digits b.digits in
    let back : drop w ds ≡ b.digits = ap (λ k. drop k ds) (sym a_size) ∙ drop-append_seam a.digits b.digits in
    record {
      digits = ds;
      size = size;
      are = append_digits a.digits b.digits a.are b.are;
      bytes_are = after_of count ds size ∙ ap (λ l. nines_bytes (count / 9) l ++ group_bytes (drop w ds)) prefix ∙ ap (λ l. nines_bytes (count / 9) a.digits ++ group_bytes l) back
          ∙ ap (λ l. l ++ group_bytes b.digits) a.bytes_are ∙ ap (λ l. take s bytes ++ l) b.bytes_are ∙ take-append-drop s bytes;
      appended = b.appended ∙ ap (λ l. l ++ b.digits) a.appended ∙ append_assoc old a.digits b.digits;
    }

pub after_lacks_first : (count s : ℕ) (bytes : List ℕ) → s ≡ 4 * (count / 9) → NoDigits (nines_bytes (count / 9)) (9 * (count / 9)) (take s bytes) → NoDigits after_bytes count bytes
after_lacks_first count s bytes is none ds size are same =
    let w = 9 * (count / 9) in
    let p = take w ds in
    let g = group_bytes (drop w ds) in
    let long : length p ≡ w = length-take-le w ds (omega (arith, size)) in
    let n : length (nines_bytes (count / 9) p) ≡ s = length-nines (count / 9) p (omega (arith, long)) ∙ sym is in
    none p long (take_digits w ds are)
    (sym (take-append_seam (nines_bytes (count / 9) p) g) ∙ ap (λ k. take k (nines_bytes (count / 9) p ++ g)) n ∙ ap (take s) (sym (after_of count ds size) ∙ same))

pub after_lacks_rest : (count s : ℕ) (bytes : List ℕ) → s ≡ 4 * (count / 9) → NoDigits group_bytes (count % 9) (drop s bytes) → NoDigits after_bytes count bytes
after_lacks_rest count s bytes is none ds size are same =
    let w = 9 * (count / 9) in
    let p = take w ds in
    let g = group_bytes (drop w ds) in
    let long : length p ≡ w = length-take-le w ds (omega (arith, size)) in
    let n : length (nines_bytes (count / 9) p) ≡ s = length-nines (count / 9) p (omega (arith, long)) ∙ sym is in
    none (drop w ds) (omega (arith, size, length-drop w ds)) (drop_digits w ds are)
    (sym (drop-append_seam (nines_bytes (count / 9) p) g) ∙ ap (λ k. drop k (nines_bytes (count / 9) p ++ g)) n ∙ ap (drop s) (sym (after_of count ds size) ∙ same))

-- ---- bytes, and the top bit of the first

append_bytes : (xs ys : List ℕ) → AreBytes xs → AreBytes ys → AreBytes (xs ++ ys)
append_bytes [] ys h g k = g k
append_bytes (x ∷ xs) ys h g zero = h 0
append_bytes (x ∷ xs) ys h g (suc k) = append_bytes xs ys (λ j. h (suc j)) g k

append_low : (xs ys : List ℕ) → get_or xs 0 0 < 128 → get_or ys 0 0 < 128 → get_or (xs ++ ys) 0 0 < 128
append_low [] ys h g = g
append_low (x ∷ xs) ys h g = h

low_number : (s n : ℕ) → 2 * n < 256 ^ s → get_or (bytes_high_first s n) 0 0 < 128
low_number zero n h = omega arith
low_number (suc zero) n h = omega (arith, h)
low_number (suc (suc j)) n h =
    let p = 256 ^ suc j in
    let power : 256 ^ suc (suc j) ≡ p * 256 = pow-suc 256 (suc j) in
    let half : n < 128 * p = omega (arith, h, power) in
    let some : 0 < p = omega (arith, half) in
    let q : n / p < 128 = (div-lt_iff_lt-mul some).1 half in
    omega (arith, q)

group_low : (ds : List ℕ) → length ds ≤ 9 → AreDigits ds → get_or (group_bytes ds) 0 0 < 128
group_low ds few are = low_number (group_size (length ds)) (number_from_digits 10 ds) (fits_group (length ds) (number_from_digits 10 ds) few (number_bound ds are)).1

pub group_are_bytes : (ds : List ℕ) → AreBytes (group_bytes ds)
group_are_bytes ds = are_bytes (group_size (length ds)) (number_from_digits 10 ds)

nine_few : (n : ℕ) (ds : List ℕ) → length (take 9 (drop (9 * n) ds)) ≤ 9
nine_few n ds = omega (arith, length-take 9 (drop (9 * n) ds))

nines_low : (n : ℕ) (ds : List ℕ) → AreDigits ds → get_or (nines_bytes n ds) 0 0 < 128
unfolding nines_bytes
nines_low zero ds are = omega arith
nines_low (suc n) ds are =
    append_low (nines_bytes n ds) (group_bytes (take 9 (drop (9 * n) ds))) (nines_low n ds are) (group_low (take 9 (drop (9 * n) ds)) (nine_few n ds) (take_digits 9 (drop (9 * n) ds) (drop_digits (9 * n) ds are)))

nines_are_bytes : (n : ℕ) (ds : List ℕ) → AreBytes (nines_bytes n ds)
unfolding nines_bytes
nines_are_bytes zero ds k = omega arith
nines_are_bytes (suc n) ds k = append_bytes (nines_bytes n ds) (group_bytes (take 9 (drop (9 * n) ds))) (nines_are_bytes n ds) (group_are_bytes (take 9 (drop (9 * n) ds))) k

pub sides_low : (ds es : List ℕ) → AreDigits ds → AreDigits es → get_or (before_bytes ds ++ after_bytes es) 0 0 < 128
unfolding before_bytes after_bytes
sides_low ds es h g =
    let left = length ds % 9 in
    let whole = length es / 9 in
    append_low (group_bytes (take left ds) ++ nines_bytes (length ds / 9) (drop left ds)) (nines_bytes whole es ++ group_bytes (drop (9 * whole) es))
    (append_low (group_bytes (take left ds)) (nines_bytes (length ds / 9) (drop left ds))
    (group_low (take left ds) (omega (arith, length-take left ds)) (take_digits left ds h)) (nines_low (length ds / 9) (drop left ds) (drop_digits left ds h)))
    (append_low (nines_bytes whole es) (group_bytes (drop (9 * whole) es))
    (nines_low whole es g) (group_low (drop (9 * whole) es) (omega (arith, length-drop (9 * whole) es)) (drop_digits (9 * whole) es g)))

pub sides_are_bytes : (ds es : List ℕ) → AreBytes (before_bytes ds ++ after_bytes es)
unfolding before_bytes after_bytes
sides_are_bytes ds es =
    let left = length ds % 9 in
    let whole = length es / 9 in
    append_bytes (group_bytes (take left ds) ++ nines_bytes (length ds / 9) (drop left ds)) (nines_bytes whole es ++ group_bytes (drop (9 * whole) es))
    (append_bytes (group_bytes (take left ds)) (nines_bytes (length ds / 9) (drop left ds)) (group_are_bytes (take left ds)) (nines_are_bytes (length ds / 9) (drop left ds)))
    (append_bytes (nines_bytes whole es) (group_bytes (drop (9 * whole) es)) (nines_are_bytes whole es) (group_are_bytes (drop (9 * whole) es)))

-- ---- the sign

all_back : (xs : List ℕ) → AreBytes xs → map (λ b. 255 - b) (map (λ b. 255 - b) xs) ≡ xs
all_back [] h = refl
all_back (x ∷ xs) h =
    let small = h 0 in
    let e : 255 - (255 - x) ≡ x = omega (arith, small) in
    ap (λ k. k ∷ map (λ b. 255 - b) (map (λ b. 255 - b) xs)) e ∙ ap (λ l. x ∷ l) (all_back xs (λ k. h (suc k)))

pub top_back : (xs : List ℕ) → AreBytes xs → top_flipped (top_flipped xs) ≡ xs
top_back [] h = refl
top_back (x ∷ xs) h =
    let small = h 0 in
    let e : ((x + 128) % 256 + 128) % 256 ≡ x = omega (arith, small) in
    ap (λ k. k ∷ xs) e

all_bytes : (xs : List ℕ) → AreBytes (map (λ b. 255 - b) xs)
all_bytes [] k = omega arith
all_bytes (x ∷ xs) zero = omega arith
all_bytes (x ∷ xs) (suc k) = all_bytes xs k

pub top_bytes : (xs : List ℕ) → AreBytes xs → AreBytes (top_flipped xs)
top_bytes [] h k = h k
top_bytes (x ∷ xs) h zero = omega arith
top_bytes (x ∷ xs) h (suc k) = h (suc k)

signed_bytes : (n : Bool) (xs : List ℕ) → AreBytes xs → AreBytes (signed n xs)
signed_bytes true xs h = all_bytes xs
signed_bytes false xs h = h

pub signed_back : (n : Bool) (xs : List ℕ) → AreBytes xs → signed n (signed n xs) ≡ xs
signed_back true xs h = all_back xs h
signed_back false xs h = refl

-- bytes whose inversion is undone were packed by it
pub plain_packs : (n : Bool) (bytes x : List ℕ) → AreBytes bytes → x ≡ top_flipped (signed n bytes) → signed n (top_flipped x) ≡ bytes
plain_packs n bytes x h e = ap (λ l. signed n (top_flipped l)) e ∙ ap (signed n) (top_back (signed n bytes) (signed_bytes n bytes h)) ∙ signed_back n bytes h

pub below-128 : (b : ℕ) → b < 128 → ltb b 128 ≡ true
below-128 b h = elim (leb_tells (suc b) 128) [ inl t ↦ t.0 | inr t ↦ absurd (omega (arith, t.1, h)) ]

pub above-128 : (b : ℕ) → 128 ≤ b → ltb b 128 ≡ false
above-128 b h = elim (leb_tells (suc b) 128) [ inl t ↦ absurd (omega (arith, t.1, h)) | inr t ↦ t.0 ]

-- packed bytes determine the sign, and so the bytes before packing
pub packed_plain : (n : Bool) (y : List ℕ) → AreBytes y → get_or y 0 0 < 128 → top_flipped (signed (has_minus_bit (signed n (top_flipped y))) (signed n (top_flipped y))) ≡ y
packed_plain true [] h low = refl
packed_plain false [] h low = refl
packed_plain true (b ∷ y) h low =
    let small : 255 - (b + 128) % 256 < 128 = omega (arith, low) in
    rw (below-128 (255 - (b + 128) % 256) small) (ap top_flipped (all_back (top_flipped (b ∷ y)) (top_bytes (b ∷ y) h)) ∙ top_back (b ∷ y) h)
packed_plain false (b ∷ y) h low =
    let large : 128 ≤ (b + 128) % 256 = omega (arith, low) in
    rw (above-128 ((b + 128) % 256) large) (top_back (b ∷ y) h)

-- ---- the whole

pub kept_are : (keep : Bool) (ds : List ℕ) → AreDigits ds → AreDigits (if keep then ds else without_zero_groups ds)
kept_are true ds h = h
kept_are false ds h = subst AreDigits (groups_dropped ds) (drop_digits _ ds h)

pub length-before : (ds : List ℕ) → length (before_bytes ds) ≡ side_size (length ds)
unfolding before_bytes
length-before ds =
    let n = length ds in
    let left : length (take (n % 9) ds) ≡ n % 9 = length-take-le (n % 9) ds (omega arith) in
    let g : length (group_bytes (take (n % 9) ds)) ≡ group_size (n % 9) = length-group (take (n % 9) ds) ∙ ap group_size left in
    let m : length (nines_bytes (n / 9) (drop (n % 9) ds)) ≡ 4 * (n / 9) = length-nines (n / 9) (drop (n % 9) ds) (omega (arith, length-drop (n % 9) ds)) in
    omega (arith, length-append (group_bytes (take (n % 9) ds)) (nines_bytes (n / 9) (drop (n % 9) ds)), g, m)

pub unpacks : (keep neg : Bool) (before after s : ℕ) (bytes x whole fraction short : List ℕ) (d : DecimalParts) → AreBytes bytes → x ≡ top_flipped (signed neg bytes)
    → AppendsDigits before_bytes before (take s x) [] whole → AppendsDigits after_bytes after (drop s x) [] fraction
    → short ≡ (if keep then whole else without_zero_groups whole) → d ≡ some_digit (record { negative = neg; before = short; after = fraction }) → Unpacks keep before after d bytes
unpacks keep neg before after s bytes x whole fraction short d are plain a b cut made = record {
  value = record { negative = neg; before = a.digits; after = b.digits };
  packed_is = record {
    before_size = a.size;
    after_size = b.size;
    before_are = a.are;
    after_are = b.are;
    bytes_are = ap (λ l. signed neg (top_flipped (l ++ after_bytes b.digits))) a.bytes_are ∙ ap (λ l. signed neg (top_flipped (take s x ++ l))) b.bytes_are
        ∙ ap (λ l. signed neg (top_flipped l)) (take-append-drop s x) ∙ plain_packs neg bytes x are plain;
  };
  made = made ∙ ap (λ (l : List ℕ). let v : DecimalParts = record { negative = neg; before = l; after = fraction } in some_digit v) (cut ∙ ap (λ (l : List ℕ). if keep then l else without_zero_groups l) a.appended)
      ∙ ap (λ (l : List ℕ). let v : DecimalParts = record { negative = neg; before = if keep then a.digits else without_zero_groups a.digits; after = l } in some_digit v) b.appended;
}

-- undoing the inversion gives the bytes that were packed
pub plain_of : (neg : Bool) (bytes x : List ℕ) (before after : ℕ) (v : DecimalParts) → neg ≡ has_minus_bit bytes → x ≡ top_flipped (signed neg bytes) → IsPacked before after v bytes
    → x ≡ before_bytes v.before ++ after_bytes v.after
plain_of neg bytes x before after v sign plain p =
    let y = before_bytes v.before ++ after_bytes v.after in
    let back = packed_plain v.negative y (sides_are_bytes v.before v.after) (sides_low v.before v.after p.before_are p.after_are) in
    plain ∙ ap (λ n. top_flipped (signed n bytes)) sign ∙ subst (λ (l : List ℕ). top_flipped (signed (has_minus_bit l) l) ≡ y) p.bytes_are back

pub lacks_before : (neg : Bool) (before after s : ℕ) (bytes x : List ℕ) → neg ≡ has_minus_bit bytes → x ≡ top_flipped (signed neg bytes) → s ≡ side_size before → NoDigits before_bytes before (take s x)
    → NonePacked before after bytes
lacks_before neg before after s bytes x sign plain is none v p =
    let long : length (before_bytes v.before) ≡ s = length-before v.before ∙ ap side_size p.before_size ∙ sym is in
    none v.before p.before_size p.before_are
    (sym (take-append_seam (before_bytes v.before) (after_bytes v.after)) ∙ ap (λ k. take k (before_bytes v.before ++ after_bytes v.after)) long ∙ ap (take s) (sym (plain_of neg bytes x before after v sign plain p)))

pub lacks_after : (neg : Bool) (before after s : ℕ) (bytes x : List ℕ) → neg ≡ has_minus_bit bytes → x ≡ top_flipped (signed neg bytes) → s ≡ side_size before → NoDigits after_bytes after (drop s x)
    → NonePacked before after bytes
lacks_after neg before after s bytes x sign plain is none v p =
    let long : length (before_bytes v.before) ≡ s = length-before v.before ∙ ap side_size p.before_size ∙ sym is in
    none v.after p.after_size p.after_are
    (sym (drop-append_seam (before_bytes v.before) (after_bytes v.after)) ∙ ap (λ k. drop k (before_bytes v.before ++ after_bytes v.after)) long ∙ ap (drop s) (sym (plain_of neg bytes x before after v sign plain p)))

pub gains_from_none : (pack : List ℕ → List ℕ) (count : ℕ) (bytes old new : List ℕ) → old ≡ [] → AppendsDigits pack count bytes old new → AppendsDigits pack count bytes [] new
gains_from_none pack count bytes old new e g = record { digits = g.digits; size = g.size; are = g.are; bytes_are = g.bytes_are; appended = g.appended ∙ ap (λ l. l ++ g.digits) e }

pub gained_are : (pack : List ℕ → List ℕ) (count : ℕ) (bytes old new : List ℕ) → old ≡ [] → AppendsDigits pack count bytes old new → AreDigits new
gained_are pack count bytes old new e g = subst AreDigits (sym (g.appended ∙ ap (λ l. l ++ g.digits) e)) g.are

pub length-after : (ds : List ℕ) → length (after_bytes ds) ≡ side_size (length ds)
unfolding after_bytes
length-after ds =
    let n = length ds in
    let left : length (drop (9 * (n / 9)) ds) ≡ n % 9 = omega (arith, length-drop (9 * (n / 9)) ds) in
    let g : length (group_bytes (drop (9 * (n / 9)) ds)) ≡ group_size (n % 9) = length-group (drop (9 * (n / 9)) ds) ∙ ap group_size left in
    let m : length (nines_bytes (n / 9) ds) ≡ 4 * (n / 9) = length-nines (n / 9) ds (omega arith) in
    omega (arith, length-append (nines_bytes (n / 9) ds) (group_bytes (drop (9 * (n / 9)) ds)), g, m)

-- a hundred isn't two digits
pub no_hundred : NonePacked 2 0 (228 ∷ [])
no_hundred =
    lacks_before false 2 0 1 (228 ∷ []) (100 ∷ []) refl refl refl
    (before_lacks_first 2 1 (100 ∷ []) refl (group_none 2 100 (100 ∷ []) (omega arith) refl refl (omega arith)))
