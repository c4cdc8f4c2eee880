-- The decimal that is computed from bytes is the one whose packed bytes they are.
use Rattle.std.proofs.Common.{◌≡◌, ◌≤◌, ◌<◌, ◌+◌, ◌*◌, ◌-◌, ◌/◌, ◌%◌, ◌^◌, ◌++◌, Bool, true, false, ℕ, zero, suc, List, [], ◌∷◌, length, take, drop, Option, Some, None, Result, IfOk, IfErr, ◌⊎◌, inl, inr, append_assoc, map, arith, refl, sym, ap, subst, ◌∙◌}
use Rattle.std.specs.Prelude.{slice_range, if◌then◌else◌}
use Rattle.std.proofs.lemmas.Bool.Decides.{leb_tells, eqb_tells}
use Rattle.std.proofs.lemmas.Result.{IfOk-weaker}
use Rattle.rows_errors.specs.declared.fault.RowsError.{RowsError}
use Rattle.rows_errors.specs.declared.fault.RowsError.TheVariants.{Decimal as BadDecimal, Memory}
use Rattle.rows_values.specs.declared.fields.Decimal.{Decimal}
use Rattle.std.proofs.lemmas.Option.{none-some, same_Some}
use Rattle.std.proofs.lemmas.List.{length-take-le, length-drop, append-nil, take-append-drop, length-map}
use Rattle.std.proofs.Math.Seq.{take-length}
use Rattle.byteorder.specs.Endian.{big_number}
use Rattle.wire_buf.specs.Encoding.{AreBytes}
use Rattle.rows_values.specs.Digits.{AreDigits, group_size, side_size, group_bytes, nines_bytes, before_bytes, after_bytes, top_flipped, signed, digits_in, has_minus_bit}
use Rattle.rows_values.specs.Steps.{AppendsDigits, NoDigits}
use Rattle.rows_values.specs.Decimals.{DecimalParts, packed_size, IsPacked, NonePacked, Unpacks, normalized, decimal_parts, packed_encoding}
use Rattle.rows_values.specs.Unpacked.{concat_digits, exact_digits, group_digits, nines_digits, before_digits, after_digits, valued, plain_bytes, sides_value, unpacked, normalized_of}
use Rattle.rows_values.proofs.UnpackDigitsLemmas.{group_gains, group_none, nines_gain_none, nines_gain_more, nines_lack, fault_because}
use Rattle.rows_values.proofs.UnpackLemmas.{before_gains, before_lacks_first, before_lacks_rest, after_gains, after_lacks_first, after_lacks_rest, plain_packs, lacks_before, lacks_after, top_bytes, sides_are_bytes}
use Rattle.rows_values.proofs.ReadBackLemmas.{packed_once, unpacked_once}
use Rattle.rows_values.proofs.OrderLemmas.{length-packed}

-- ---- joining

pub joined_some : (a b : Option (List ℕ)) (ds : List ℕ) → concat_digits a b ≡ Some ds → (x : List ℕ) × (y : List ℕ) × (a ≡ Some x) × (b ≡ Some y) × (x ++ y ≡ ds)
joined_some None b ds e = absurd (none-some ds e)
joined_some (Some x) None ds e = absurd (none-some ds e)
joined_some (Some x) (Some y) ds e = (x, y, refl, refl, same_Some (x ++ y) ds e)

pub joined_none : (a b : Option (List ℕ)) → concat_digits a b ≡ None → (a ≡ None) ⊎ ((x : List ℕ) × (a ≡ Some x) × (b ≡ None))
joined_none None b e = inl refl
joined_none (Some x) None e = inr (x, refl, refl)
joined_none (Some x) (Some y) e = absurd (none-some (x ++ y) (sym e))

-- ---- lists of bytes

pub take_bytes : (n : ℕ) (xs : List ℕ) → AreBytes xs → AreBytes (take n xs)
take_bytes zero xs h k = omega arith
take_bytes (suc n) [] h k = omega arith
take_bytes (suc n) (x ∷ xs) h zero = h 0
take_bytes (suc n) (x ∷ xs) h (suc k) = take_bytes n xs (λ j. h (suc j)) k

pub drop_bytes : (n : ℕ) (xs : List ℕ) → AreBytes xs → AreBytes (drop n xs)
drop_bytes zero xs h = h
drop_bytes (suc n) [] h = h
drop_bytes (suc n) (x ∷ xs) h = drop_bytes n xs (λ k. h (suc k))

-- ---- one group

pub positions_some : (k n : ℕ) (ds : List ℕ) → exact_digits k n ≡ Some ds → (n < 10 ^ k) × (digits_in k n ≡ ds)
positions_some k n ds e = elim (leb_tells (suc n) (10 ^ k)) [
  | inl t ↦ (omega (arith, t.1), same_Some (digits_in k n) ds (subst (λ b. (if b then Some (digits_in k n) else None) ≡ Some ds) t.0 e))
  | inr t ↦ absurd (none-some ds (subst (λ b. (if b then Some (digits_in k n) else None) ≡ Some ds) t.0 e))
]

pub positions_none : (k n : ℕ) → exact_digits k n ≡ None → 10 ^ k ≤ n
positions_none k n e = elim (leb_tells (suc n) (10 ^ k)) [
  | inl t ↦ absurd (none-some (digits_in k n) (sym (subst (λ b. (if b then Some (digits_in k n) else None) ≡ None) t.0 e)))
  | inr t ↦ omega (arith, t.1)
]

group_found : (k : ℕ) (bytes old ds : List ℕ) → length bytes ≡ group_size k → AreBytes bytes → group_digits k bytes ≡ Some ds → AppendsDigits group_bytes k bytes old (old ++ ds)
group_found k bytes old ds long are e =
    let n = big_number (length bytes) bytes in
    let p = positions_some k n ds e in
    group_gains k n bytes old (old ++ ds) long are refl p.0 (ap (λ l. old ++ l) (sym p.1))

group_lacks : (k : ℕ) (bytes : List ℕ) → k ≤ 9 → length bytes ≡ group_size k → group_digits k bytes ≡ None → NoDigits group_bytes k bytes
group_lacks k bytes few long e = let n = big_number (length bytes) bytes in group_none k n bytes few long refl (positions_none k n e)

-- ---- groups of nine

at_nine : (n : ℕ) (bytes : List ℕ) → take 4 (drop (4 * n) bytes) ≡ slice_range bytes (4 * n) (4 * n + 4)
at_nine n bytes = let four : 4 * n + 4 - 4 * n ≡ 4 = omega arith in ap (λ k. take k (drop (4 * n) bytes)) (sym four)

nine_size : (n : ℕ) (bytes : List ℕ) → 4 * n + 4 ≤ length bytes → length (take 4 (drop (4 * n) bytes)) ≡ 4
nine_size n bytes room = length-take-le 4 (drop (4 * n) bytes) (omega (arith, room, length-drop (4 * n) bytes))

nines_found : (n : ℕ) (bytes old ds : List ℕ) → 4 * n ≤ length bytes → AreBytes bytes → nines_digits n bytes ≡ Some ds → AppendsDigits (nines_bytes n) (9 * n) (take (4 * n) bytes) old (old ++ ds)
unfolding nines_digits
nines_found zero bytes old ds room are e =
    let none : old ≡ old ++ ds = sym (append-nil old) ∙ ap (λ l. old ++ l) (same_Some [] ds e) in
    subst (λ l. AppendsDigits (nines_bytes 0) (9 * 0) (take (4 * 0) bytes) old l) none (nines_gain_none bytes old)
nines_found (suc n) bytes old ds room are e =
    let p = joined_some (nines_digits n bytes) (group_digits 9 (take 4 (drop (4 * n) bytes))) ds e in
    let a = nines_found n bytes old p.0 (omega (arith, room)) are p.2 in
    let b = group_found 9 (take 4 (drop (4 * n) bytes)) (old ++ p.0) p.1 (nine_size n bytes (omega (arith, room))) (take_bytes 4 (drop (4 * n) bytes) (drop_bytes (4 * n) bytes are)) p.3 in
    let c = subst (λ l. AppendsDigits group_bytes 9 l (old ++ p.0) ((old ++ p.0) ++ p.1)) (at_nine n bytes) b in
    let next : n + 1 ≡ suc n = omega arith in
    let all : (old ++ p.0) ++ p.1 ≡ old ++ ds = append_assoc old p.0 p.1 ∙ ap (λ l. old ++ l) p.4 in
    subst (λ l. AppendsDigits (nines_bytes (suc n)) (9 * suc n) (take (4 * suc n) bytes) old l) all
    (subst (λ k. AppendsDigits (nines_bytes k) (9 * k) (take (4 * k) bytes) old ((old ++ p.0) ++ p.1)) next (nines_gain_more n bytes old (old ++ p.0) ((old ++ p.0) ++ p.1) a c))

-- a group of nine that is too large
none_at : (n : ℕ) (bytes : List ℕ) → nines_digits n bytes ≡ None → (i : ℕ) × (i < n) × (group_digits 9 (take 4 (drop (4 * i) bytes)) ≡ None)
unfolding nines_digits
none_at zero bytes e = absurd (none-some [] (sym e))
none_at (suc n) bytes e = elim (joined_none (nines_digits n bytes) (group_digits 9 (take 4 (drop (4 * n) bytes))) e) [
  | inl a ↦ let q = none_at n bytes a in let below = q.1 in (q.0, omega (arith, below), q.2)
  | inr b ↦ (n, omega arith, b.2)
]

nines_lacks : (n : ℕ) (bytes : List ℕ) → length bytes ≡ 4 * n → nines_digits n bytes ≡ None → NoDigits (nines_bytes n) (9 * n) bytes
nines_lacks n bytes long e =
    let q = none_at n bytes e in
    let below = q.1 in
    let at = q.0 in
    let four = nine_size at bytes (omega (arith, below, long)) in
    nines_lack n at bytes below long (subst (NoDigits group_bytes 9) (at_nine at bytes) (group_lacks 9 (take 4 (drop (4 * at) bytes)) (omega arith) four q.2))

nines_all : (n : ℕ) (bytes old ds : List ℕ) → length bytes ≡ 4 * n → AreBytes bytes → nines_digits n bytes ≡ Some ds → AppendsDigits (nines_bytes n) (9 * n) bytes old (old ++ ds)
nines_all n bytes old ds long are e =
    let whole : take (4 * n) bytes ≡ bytes = ap (λ k. take k bytes) (sym long) ∙ take-length bytes in
    subst (λ l. AppendsDigits (nines_bytes n) (9 * n) l old (old ++ ds)) whole (nines_found n bytes old ds (omega (arith, long)) are e)

-- ---- the sides

before_found : (n : ℕ) (bytes ds : List ℕ) → length bytes ≡ side_size n → AreBytes bytes → before_digits n bytes ≡ Some ds → AppendsDigits before_bytes n bytes [] ds
before_found n bytes ds long are e =
    let s = group_size (n % 9) in
    let prefix = take s bytes in
    let back = drop s bytes in
    let p = joined_some (group_digits (n % 9) prefix) (nines_digits (n / 9) back) ds e in
    let a = group_found (n % 9) prefix [] p.0 (length-take-le s bytes (omega (arith, long))) (take_bytes s bytes are) p.2 in
    let b = nines_all (n / 9) back p.0 p.1 (omega (arith, long, length-drop s bytes)) (drop_bytes s bytes are) p.3 in
    subst (λ l. AppendsDigits before_bytes n bytes [] l) p.4 (before_gains n s bytes [] p.0 (p.0 ++ p.1) a b)

before_lacks : (n : ℕ) (bytes : List ℕ) → length bytes ≡ side_size n → before_digits n bytes ≡ None → NoDigits before_bytes n bytes
before_lacks n bytes long e =
    let s = group_size (n % 9) in
    let prefix = take s bytes in
    let back = drop s bytes in
    elim (joined_none (group_digits (n % 9) prefix) (nines_digits (n / 9) back) e) [
      | inl a ↦ before_lacks_first n s bytes refl (group_lacks (n % 9) prefix (omega arith) (length-take-le s bytes (omega (arith, long))) a)
      | inr b ↦ before_lacks_rest n s bytes refl (nines_lacks (n / 9) back (omega (arith, long, length-drop s bytes)) b.2)
    ]

after_found : (n : ℕ) (bytes ds : List ℕ) → length bytes ≡ side_size n → AreBytes bytes → after_digits n bytes ≡ Some ds → AppendsDigits after_bytes n bytes [] ds
after_found n bytes ds long are e =
    let s = 4 * (n / 9) in
    let prefix = take s bytes in
    let back = drop s bytes in
    let p = joined_some (nines_digits (n / 9) prefix) (group_digits (n % 9) back) ds e in
    let a = nines_all (n / 9) prefix [] p.0 (length-take-le s bytes (omega (arith, long))) (take_bytes s bytes are) p.2 in
    let b = group_found (n % 9) back p.0 p.1 (omega (arith, long, length-drop s bytes)) (drop_bytes s bytes are) p.3 in
    subst (λ l. AppendsDigits after_bytes n bytes [] l) p.4 (after_gains n s bytes [] p.0 (p.0 ++ p.1) a b)

after_lacks : (n : ℕ) (bytes : List ℕ) → length bytes ≡ side_size n → after_digits n bytes ≡ None → NoDigits after_bytes n bytes
after_lacks n bytes long e =
    let s = 4 * (n / 9) in
    let prefix = take s bytes in
    let back = drop s bytes in
    elim (joined_none (nines_digits (n / 9) prefix) (group_digits (n % 9) back) e) [
      | inl a ↦ after_lacks_first n s bytes refl (nines_lacks (n / 9) prefix (length-take-le s bytes (omega (arith, long))) a)
      | inr b ↦ after_lacks_rest n s bytes refl (group_lacks (n % 9) back (omega arith) (omega (arith, long, length-drop s bytes)) b.2)
    ]

-- ---- the whole

valued_some : (negative : Bool) (a b : Option (List ℕ)) (v : DecimalParts) → valued negative a b ≡ Some v
    → (x : List ℕ) × (y : List ℕ) × (a ≡ Some x) × (b ≡ Some y) × ((let w : DecimalParts = record { negative = negative; before = x; after = y } in w) ≡ v)
valued_some negative None b v e = absurd (none-some v e)
valued_some negative (Some x) None v e = absurd (none-some v e)
valued_some negative (Some x) (Some y) v e = (x, y, refl, refl, same_Some _ v e)

valued_none : (negative : Bool) (a b : Option (List ℕ)) → valued negative a b ≡ None → (a ≡ None) ⊎ ((x : List ℕ) × (a ≡ Some x) × (b ≡ None))
valued_none negative None b e = inl refl
valued_none negative (Some x) None e = inr (x, refl, refl)
valued_none negative (Some x) (Some y) e = absurd (none-some _ (sym e))

pub length-top : (xs : List ℕ) → length (top_flipped xs) ≡ length xs
length-top [] = refl
length-top (x ∷ xs) = refl

pub length-signed : (n : Bool) (xs : List ℕ) → length (signed n xs) ≡ length xs
length-signed true xs = length-map xs (λ b. 255 - b)
length-signed false xs = refl

pub length-plain : (bytes : List ℕ) → length (plain_bytes bytes) ≡ length bytes
length-plain bytes = length-top (signed (has_minus_bit bytes) bytes) ∙ length-signed (has_minus_bit bytes) bytes

turned_bytes : (xs : List ℕ) → AreBytes (map (λ b. 255 - b) xs)
turned_bytes [] k = omega arith
turned_bytes (x ∷ xs) zero = omega arith
turned_bytes (x ∷ xs) (suc k) = turned_bytes xs k

pub signed_are : (n : Bool) (xs : List ℕ) → AreBytes xs → AreBytes (signed n xs)
signed_are true xs h = turned_bytes xs
signed_are false xs h = h

pub plain_are : (bytes : List ℕ) → AreBytes bytes → AreBytes (plain_bytes bytes)
plain_are bytes h = top_bytes (signed (has_minus_bit bytes) bytes) (signed_are (has_minus_bit bytes) bytes h)

sides_found : (before after : ℕ) (v : DecimalParts) (bytes : List ℕ) → length bytes ≡ packed_size before after → AreBytes bytes
    → sides_value (has_minus_bit bytes) before after (plain_bytes bytes) ≡ Some v → IsPacked before after v bytes
sides_found before after v bytes long are e =
    let neg = has_minus_bit bytes in
    let x = plain_bytes bytes in
    let s = side_size before in
    let size = length-plain bytes in
    let p = valued_some neg (before_digits before (take s x)) (after_digits after (drop s x)) v e in
    let a = before_found before (take s x) p.0 (length-take-le s x (omega (arith, size, long))) (take_bytes s x (plain_are bytes are)) p.2 in
    let b = after_found after (drop s x) p.1 (omega (arith, size, long, length-drop s x)) (drop_bytes s x (plain_are bytes are)) p.3 in
    let w : DecimalParts = record { negative = neg; before = p.0; after = p.1 } in
    let prefix : p.0 ≡ a.digits = a.appended in
    let back : p.1 ≡ b.digits = b.appended in
    let is : IsPacked before after w bytes = record {
      before_size = ap length prefix ∙ a.size;
      after_size = ap length back ∙ b.size;
      before_are = subst AreDigits (sym prefix) a.are;
      after_are = subst AreDigits (sym back) b.are;
      bytes_are = ap (λ l. signed neg (top_flipped (before_bytes l ++ after_bytes p.1))) prefix ∙ ap (λ l. signed neg (top_flipped (before_bytes a.digits ++ after_bytes l))) back
          ∙ ap (λ l. signed neg (top_flipped (l ++ after_bytes b.digits))) a.bytes_are ∙ ap (λ l. signed neg (top_flipped (take s x ++ l))) b.bytes_are
          ∙ ap (λ l. signed neg (top_flipped l)) (take-append-drop s x) ∙ plain_packs neg bytes x are refl;
    } in
    subst (λ (u : DecimalParts). IsPacked before after u bytes) p.4 is

sides_lack : (before after : ℕ) (bytes : List ℕ) → length bytes ≡ packed_size before after → sides_value (has_minus_bit bytes) before after (plain_bytes bytes) ≡ None → NonePacked before after bytes
sides_lack before after bytes long e =
    let neg = has_minus_bit bytes in
    let x = plain_bytes bytes in
    let s = side_size before in
    let size = length-plain bytes in
    elim (valued_none neg (before_digits before (take s x)) (after_digits after (drop s x)) e) [
      | inl a ↦ lacks_before neg before after s bytes x refl refl refl (before_lacks before (take s x) (length-take-le s x (omega (arith, size, long))) a)
      | inr b ↦ lacks_after neg before after s bytes x refl refl refl (after_lacks after (drop s x) (omega (arith, size, long, length-drop s x)) b.2)
    ]

-- ---- sizes

pub unpacked_sized : (precision scale : ℕ) (bytes : List ℕ) → scale ≤ precision → length bytes ≡ packed_size (precision - scale) scale
    → unpacked precision scale bytes ≡ sides_value (has_minus_bit bytes) (precision - scale) scale (plain_bytes bytes)
unfolding unpacked
unpacked_sized precision scale bytes le long = elim (leb_tells (suc precision) scale) [
  | inl t ↦ absurd (omega (arith, t.1, le))
  | inr t ↦ elim (eqb_tells (length bytes) (packed_size (precision - scale) scale)) [
    | inl q ↦ rw (t.0, q.0) refl
    | inr q ↦ absurd (q.1 long)
  ]
]

pub unpacked_past : (precision scale : ℕ) (bytes : List ℕ) → precision < scale → unpacked precision scale bytes ≡ None
unfolding unpacked
unpacked_past precision scale bytes past = elim (leb_tells (suc precision) scale) [ inl t ↦ rw t.0 refl | inr t ↦ absurd (omega (arith, t.1, past)) ]

pub unpacked_other : (precision scale : ℕ) (bytes : List ℕ) → (length bytes ≡ packed_size (precision - scale) scale → ⊥) → unpacked precision scale bytes ≡ None
unfolding unpacked
unpacked_other precision scale bytes other = elim (leb_tells (suc precision) scale) [
  | inl t ↦ rw t.0 refl
  | inr t ↦ elim (eqb_tells (length bytes) (packed_size (precision - scale) scale)) [
    | inl q ↦ absurd (other q.1)
    | inr q ↦ rw (t.0, q.0) refl
  ]
]

-- ---- the law

pub unpacked-sound : (precision scale : ℕ) (v : DecimalParts) (bytes : List ℕ) → AreBytes bytes → unpacked precision scale bytes ≡ Some v → (scale ≤ precision) × IsPacked (precision - scale) scale v bytes
unpacked-sound precision scale v bytes are e = elim (leb_tells (suc precision) scale) [
  | inl t ↦ absurd (none-some v (sym (unpacked_past precision scale bytes (omega (arith, t.1))) ∙ e))
  | inr t ↦ elim (eqb_tells (length bytes) (packed_size (precision - scale) scale)) [
    | inl q ↦
        let le : scale ≤ precision = omega (arith, t.1) in
        (le, sides_found (precision - scale) scale v bytes q.1 are (sym (unpacked_sized precision scale bytes le q.1) ∙ e))
    | inr q ↦ absurd (none-some v (sym (unpacked_other precision scale bytes q.1) ∙ e))
  ]
]

length-is : (before after : ℕ) (v : DecimalParts) (bytes : List ℕ) → IsPacked before after v bytes → length bytes ≡ packed_size before after
length-is before after v bytes p = ap length (sym p.bytes_are) ∙ length-packed v ∙ ap (λ k. packed_size k (length v.after)) p.before_size ∙ ap (packed_size before) p.after_size

pub unpacked_none : (precision scale : ℕ) (bytes : List ℕ) → scale ≤ precision → unpacked precision scale bytes ≡ None → NonePacked (precision - scale) scale bytes
unpacked_none precision scale bytes le e v p =
    let long = length-is (precision - scale) scale v bytes p in
    sides_lack (precision - scale) scale bytes long (sym (unpacked_sized precision scale bytes le long) ∙ e) v p

pub packed_bytes : (before after : ℕ) (v : DecimalParts) (bytes : List ℕ) → IsPacked before after v bytes → AreBytes bytes
packed_bytes before after v bytes p =
    subst AreBytes p.bytes_are (signed_are v.negative (top_flipped (before_bytes v.before ++ after_bytes v.after)) (top_bytes (before_bytes v.before ++ after_bytes v.after) (sides_are_bytes v.before v.after)))

pub unpacked-complete : (precision scale : ℕ) (v : DecimalParts) (bytes : List ℕ) → 0 < precision → scale ≤ precision → IsPacked (precision - scale) scale v bytes → unpacked precision scale bytes ≡ Some v
unpacked-complete precision scale v bytes some le p = other (unpacked precision scale bytes) refl
  where
    digits : 0 < precision - scale + scale
    digits = omega (arith, some, le)

    other : (o : Option DecimalParts) → unpacked precision scale bytes ≡ o → unpacked precision scale bytes ≡ Some v
    other None e = absurd (unpacked_none precision scale bytes le e v p)
    other (Some w) e =
        let q = (unpacked-sound precision scale w bytes (packed_bytes (precision - scale) scale v bytes p) e).1 in
        e ∙ ap (λ (u : DecimalParts). Some u) (packed_once (precision - scale) scale w v bytes digits q p)

-- the packed bytes of digits unpack to them
pub read_back : (v : DecimalParts) → AreDigits v.before → AreDigits v.after → 0 < length v.before + length v.after → unpacked (length v.before + length v.after) (length v.after) (packed_encoding v) ≡ Some v
read_back v before after some =
    unpacked-complete (length v.before + length v.after) (length v.after) v (packed_encoding v) some (omega arith)
    (record { before_size = omega arith; after_size = refl; before_are = before; after_are = after; bytes_are = refl })

-- the decimal that digits unpack to, even without digits
pub normalized-complete : (keep : Bool) (precision scale : ℕ) (d : DecimalParts) (bytes : List ℕ) → scale ≤ precision → Unpacks keep (precision - scale) scale d bytes → normalized_of keep (unpacked precision scale bytes) ≡ Some d
normalized-complete keep precision scale d bytes le u = other (unpacked precision scale bytes) refl
  where
    are : AreBytes bytes
    are = packed_bytes (precision - scale) scale u.value bytes u.packed_is

    other : (o : Option DecimalParts) → unpacked precision scale bytes ≡ o → normalized_of keep (unpacked precision scale bytes) ≡ Some d
    other None e = absurd (unpacked_none precision scale bytes le e u.value u.packed_is)
    other (Some w) e =
        let q = (unpacked-sound precision scale w bytes are e).1 in
        let mine : Unpacks keep (precision - scale) scale (normalized keep w) bytes = record { value = w; packed_is = q; made = refl } in
        ap (normalized_of keep) e ∙ ap (λ (u : DecimalParts). Some u) (unpacked_once keep (precision - scale) scale (normalized keep w) d bytes mine u)

kept_some : (keep : Bool) (o : Option DecimalParts) (d : DecimalParts) → normalized_of keep o ≡ Some d → (w : DecimalParts) × (o ≡ Some w) × (normalized keep w ≡ d)
kept_some keep None d e = absurd (none-some d e)
kept_some keep (Some w) d e = (w, refl, same_Some (normalized keep w) d e)

pub normalized-sound : (keep : Bool) (precision scale : ℕ) (d : DecimalParts) (bytes : List ℕ) → AreBytes bytes → normalized_of keep (unpacked precision scale bytes) ≡ Some d
    → (scale ≤ precision) × Unpacks keep (precision - scale) scale d bytes
normalized-sound keep precision scale d bytes are e =
    let q = kept_some keep (unpacked precision scale bytes) d e in
    let p = unpacked-sound precision scale q.0 bytes are q.1 in
    (p.0, record { value = q.0; packed_is = p.1; made = sym q.2 })

-- ---- a slice

pub unpacked_lacks : (precision scale : ℕ) (bytes : List ℕ) → AreBytes bytes → NonePacked (precision - scale) scale bytes → unpacked precision scale bytes ≡ None
unpacked_lacks precision scale bytes are none = go (unpacked precision scale bytes) refl
  where
    go : (o : Option DecimalParts) → unpacked precision scale bytes ≡ o → unpacked precision scale bytes ≡ None
    go None e = e
    go (Some w) e = absurd (none w (unpacked-sound precision scale w bytes are e).1)

pub slice_ok : (keep : Bool) (precision scale : ℕ) (bytes copy : List ℕ) (r : Result Decimal RowsError) → scale ≤ precision → copy ≡ bytes
    → IfOk r (λ d. Unpacks keep (precision - scale) scale (decimal_parts d) copy) → IfOk r (λ d. normalized_of keep (unpacked precision scale bytes) ≡ Some (decimal_parts d))
slice_ok keep precision scale bytes copy r le same h =
    IfOk-weaker r (λ d. Unpacks keep (precision - scale) scale (decimal_parts d) copy) (λ d. normalized_of keep (unpacked precision scale bytes) ≡ Some (decimal_parts d))
    (λ d u. normalized-complete keep precision scale (decimal_parts d) bytes le (subst (Unpacks keep (precision - scale) scale (decimal_parts d)) same u)) h

pub slice_err : (precision scale : ℕ) (bytes copy : List ℕ) (r : Result Decimal RowsError) → AreBytes bytes → copy ≡ bytes
    → IfErr r (λ e. e ≡ Memory ⊎ ((e ≡ BadDecimal) × NonePacked (precision - scale) scale copy)) → IfErr r (λ e. e ≡ Memory ⊎ ((e ≡ BadDecimal) × (unpacked precision scale bytes ≡ None)))
slice_err precision scale bytes copy r are same h =
    fault_because r (λ none. unpacked_lacks precision scale bytes are (subst (NonePacked (precision - scale) scale) same none)) h
