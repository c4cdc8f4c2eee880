-- The JSON of ENUM and SET values shows their numbers.
use Rattle.std.proofs.Common.{◌≡◌, ◌⊎◌, ℕ, zero, suc, ◌+◌, ◌/◌, ◌%◌, ◌<◌, ◌≤◌, ◌^◌, Bool, true, false, ◌||◌, not, T, ltb, eqb→eq, List, [], ◌∷◌, ◌++◌, map, length, refl, sym, ap, ap₂, ◌∙◌, subst, append_assoc, arith, inl, inr}
use Rattle.std.specs.Prelude.{◌≢◌, ◌==◌, slice_index_or, if◌then◌else◌}
use Rattle.std.specs.List.{filter, join_with_byte, range_with_len}
use Rattle.std.specs.Fmt.{decimal}
use Rattle.std.proofs.Math.Facts.{ltb_yes}
use Rattle.std.proofs.lemmas.Bool.{cases_lt, false≢true}
use Rattle.std.proofs.lemmas.Fmt.{decimal_injective, decimal_is_IsNumeral}
use Rattle.std.proofs.lemmas.List.{get_or_past}
use Rattle.std.proofs.lemmas.Nat.Bits.{same_from_bits_below}
use Rattle.changes_cells.specs.CellJson.{member_json, bit_json, has_bit, members_json}
use Rattle.changes_laws.specs.JsonGrammar.{IsAfterValue}
use Rattle.changes_laws.specs.JsonLines.{IsJsonValue}
use Rattle.changes_laws.specs.JsonNames.{IsOther, AreDistinct}
use Rattle.changes_laws.specs.SameCells.{AreMembers, begins_as_member}
use Rattle.changes_laws.proofs.DateReadLemmas.{is_digit, Digits, decimal_digits}
use Rattle.changes_laws.proofs.SoundCellLemmas.{EachHolds}
use Rattle.changes_laws.proofs.ValueEnds.{values_end}
use Rattle.changes_laws.proofs.NumberGrammarLemmas.{decimal_json}
use Rattle.changes_laws.proofs.WrittenJson.{after_commas, joined_after}
use Rattle.changes_laws.proofs.ValueLemmas.{of_json as value_of}
use Rattle.feed_writers.proofs.PlainLemmas.{upto, upto_sound}

abbrev pub first : List ℕ → ℕ
first [] = 0
first (x ∷ xs) = x

abbrev others : List ℕ → List ℕ
others [] = []
others (x ∷ xs) = xs

-- ---- a member, or a number
pub first_digit : (n : ℕ) → n < 2 ^ 64 → is_digit (first (decimal n)) ≡ true
first_digit n h = go (decimal n) (decimal_digits n) (decimal_is_IsNumeral n h).0.0
  where
    go : (l : List ℕ) → Digits l → 0 < length l → is_digit (first l) ≡ true
    go [] d some = absurd (omega (arith, some))
    go (x ∷ l) d some = d.0

no_digit : (m : List ℕ) → begins_as_member m ≡ true → is_digit (first m) ≡ false
no_digit [] h = refl
no_digit (b ∷ bs) h = go (b == 34) (b == 123) refl refl h
  where
    go : (k l : Bool) → (b == 34) ≡ k → (b == 123) ≡ l → (k || l) ≡ true → is_digit b ≡ false
    go true l e f g = subst (λ (x : ℕ). is_digit x ≡ false) (sym (eqb→eq b 34 (subst T (sym e) tt))) refl
    go false true e f g = subst (λ (x : ℕ). is_digit x ≡ false) (sym (eqb→eq b 123 (subst T (sym f) tt))) refl
    go false false e f g = absurd (false≢true g)

member_is_no_number : (m : List ℕ) (n : ℕ) → begins_as_member m ≡ true → n < 2 ^ 64 → m ≡ decimal n → ⊥
member_is_no_number m n h lt e = false≢true (sym (no_digit m h) ∙ ap (λ (l : List ℕ). is_digit (first l)) e ∙ first_digit n lt)

different_members : (members : List (List ℕ)) (i j : ℕ) → AreDistinct members → i < j → j < length members → (d e : List ℕ) → slice_index_or members j d ≢ slice_index_or members i e
different_members [] i j a lt le d e = absurd (omega (arith, le))
different_members (m ∷ ms) i zero a lt le d e = absurd (omega (arith, lt))
different_members (m ∷ ms) zero (suc j) a lt le d e = ahead m ms j a.0 (omega (arith, le))
  where
    ahead : (m : List ℕ) (ms : List (List ℕ)) (j : ℕ) → IsOther m ms → j < length ms → slice_index_or ms j d ≢ m
    ahead m [] j o le = absurd (omega (arith, le))
    ahead m (n ∷ ns) zero o le = o.0
    ahead m (n ∷ ns) (suc j) o le = ahead m ns j o.1 (omega (arith, le))
different_members (m ∷ ms) (suc i) (suc j) a lt le d e = different_members ms i j a.1 (omega (arith, lt)) (omega (arith, le)) d e

-- the member with an index, or a number if there is none
choices_read : (members : List (List ℕ)) (i j m n : ℕ) → AreMembers members → m < 2 ^ 64 → n < 2 ^ 64 → (m ≡ n → i ≡ j) → slice_index_or members i (decimal m) ≡ slice_index_or members j (decimal n) → i ≡ j
choices_read members i j m n a p q same e = elim (cases_lt i (length members)) [
  | inl inside ↦ elim (cases_lt j (length members)) [
    | inl within ↦ elim (cases_lt i j) [
      | inl lt ↦ absurd (different_members members i j a.distinct lt within (decimal n) (decimal m) (sym e))
      | inr ge ↦ elim (cases_lt j i) [
        | inl lt ↦ absurd (different_members members j i a.distinct lt inside (decimal m) (decimal n) e)
        | inr le ↦ omega (arith, ge, le)
      ]
    ]
    | inr past ↦ absurd (member_is_no_number (slice_index_or members i (decimal m)) n (a.begin i (decimal m) inside) q (e ∙ get_or_past members j (decimal n) past))
  ]
  | inr out ↦ elim (cases_lt j (length members)) [
    | inl within ↦ absurd (member_is_no_number (slice_index_or members j (decimal n)) m (a.begin j (decimal n) within) p (sym e ∙ get_or_past members i (decimal m) out))
    | inr past ↦ same (decimal_injective m n p q (sym (get_or_past members i (decimal m) out) ∙ e ∙ get_or_past members j (decimal n) past))
  ]
]

choice_is_no_zero : (members : List (List ℕ)) (k : ℕ) → AreMembers members → suc k < 2 ^ 64 → slice_index_or members k (decimal (suc k)) ≡ decimal 0 → ⊥
choice_is_no_zero members k a p e = elim (cases_lt k (length members)) [
  | inl inside ↦ member_is_no_number (slice_index_or members k (decimal (suc k))) 0 (a.begin k (decimal (suc k)) inside) (omega arith) e
  | inr out ↦ let same = decimal_injective (suc k) 0 p (omega arith) (sym (get_or_past members k (decimal (suc k)) out) ∙ e) in absurd (omega (arith, same))
]

pub enums_read : (members : List (List ℕ)) (m n : ℕ) → AreMembers members → m < 2 ^ 64 → n < 2 ^ 64 → member_json members m ≡ member_json members n → m ≡ n
enums_read members zero zero a p q e = refl
enums_read members zero (suc j) a p q e = absurd (choice_is_no_zero members j a q (sym e))
enums_read members (suc i) zero a p q e = absurd (choice_is_no_zero members i a p e)
enums_read members (suc i) (suc j) a p q e = ap suc (choices_read members i j (suc i) (suc j) a p q (λ s. omega (arith, s)) e)

-- ---- arrays of the members of set bits
-- a value that begins as a member or a number does
abbrev Begins : List ℕ → Type 0
Begins x = (begins_as_member x ≡ true) ⊎ (is_digit (first x) ≡ true)

abbrev IsElement : List ℕ → Type 0
IsElement x = IsJsonValue x × Begins x

not_closing : (x s t : List ℕ) → Begins x → 93 ∷ s ≡ x ++ t → ⊥
not_closing [] s t (inl h) e = false≢true h
not_closing [] s t (inr h) e = false≢true h
not_closing (b ∷ bs) s t (inl h) e = false≢true (subst (λ (x : ℕ). (x == 34 || x == 123) ≡ true) (sym (ap first e)) h)
not_closing (b ∷ bs) s t (inr h) e = false≢true (subst (λ (x : ℕ). is_digit x ≡ true) (sym (ap first e)) h)

commas_follow : (xs : List (List ℕ)) (s : List ℕ) → IsAfterValue (after_commas xs ++ 93 ∷ s)
commas_follow [] s = refl
commas_follow (x ∷ xs) s = refl

more_read : (xs ys : List (List ℕ)) (s t : List ℕ) → EachHolds IsElement xs → EachHolds IsElement ys → after_commas xs ++ 93 ∷ s ≡ after_commas ys ++ 93 ∷ t → xs ≡ ys
more_read [] [] s t h k e = refl
more_read [] (y ∷ ys) s t h k e = absurd (let no : 93 ≡ 44 = ap first e in omega (arith, no))
more_read (x ∷ xs) [] s t h k e = absurd (let no : 44 ≡ 93 = ap first e in omega (arith, no))
more_read (x ∷ xs) (y ∷ ys) s t h k e =
    let left = after_commas xs ++ 93 ∷ s in
    let right = after_commas ys ++ 93 ∷ t in
    let f = values_end (h.0).0.value (k.0).0.value x y left right (h.0).0.text_is (k.0).0.text_is (commas_follow xs s) (commas_follow ys t) (sym (append_assoc x (after_commas xs) (93 ∷ s)) ∙ ap others e ∙ append_assoc y (after_commas ys) (93 ∷ t)) in
    ap₂ (λ (a : List ℕ) (l : List (List ℕ)). a ∷ l) f.0 (more_read xs ys s t h.1 k.1 f.1)

whole_text : (x : List ℕ) (xs : List (List ℕ)) → join_with_byte 44 (x ∷ xs) ++ 93 ∷ [] ≡ x ++ (after_commas xs ++ 93 ∷ [])
whole_text x xs = ap (λ (t : List ℕ). t ++ 93 ∷ []) (joined_after x xs) ∙ append_assoc x (after_commas xs) (93 ∷ [])

arrays_read : (xs ys : List (List ℕ)) → EachHolds IsElement xs → EachHolds IsElement ys → join_with_byte 44 xs ++ 93 ∷ [] ≡ join_with_byte 44 ys ++ 93 ∷ [] → xs ≡ ys
arrays_read [] [] h k e = refl
arrays_read [] (y ∷ ys) h k e = absurd (not_closing y [] (after_commas ys ++ 93 ∷ []) (k.0).1 (e ∙ whole_text y ys))
arrays_read (x ∷ xs) [] h k e = absurd (not_closing x [] (after_commas xs ++ 93 ∷ []) (h.0).1 (sym e ∙ whole_text x xs))
arrays_read (x ∷ xs) (y ∷ ys) h k e =
    let f = values_end (h.0).0.value (k.0).0.value x y (after_commas xs ++ 93 ∷ []) (after_commas ys ++ 93 ∷ []) (h.0).0.text_is (k.0).0.text_is (commas_follow xs []) (commas_follow ys []) (sym (whole_text x xs) ∙ e ∙ whole_text y ys) in
    ap₂ (λ (a : List ℕ) (l : List (List ℕ)). a ∷ l) f.0 (more_read xs ys [] [] h.1 k.1 f.1)

-- ---- bits
abbrev are_told : ℕ → ℕ → Bool
are_told i j = (i == j) || not (2 ^ i == 2 ^ j)

powers_read : (i j : ℕ) → i < 64 → j < 64 → 2 ^ i ≡ 2 ^ j → i ≡ j
powers_read i j p q e = go (i == j) refl (upto_sound (are_told i) 64 (upto_sound (λ k. upto (are_told k) 64) 64 tt i p) j q)
  where
    go : (b : Bool) → (i == j) ≡ b → T (b || not (2 ^ i == 2 ^ j)) → i ≡ j
    go true f h = eqb→eq i j (subst T (sym f) tt)
    go false f h = absurd (other (2 ^ i == 2 ^ j) refl h)
      where
        other : (b : Bool) → (2 ^ i == 2 ^ j) ≡ b → T (not b) → ⊥
        other true g n = n
        other false g n = let yes : (2 ^ i == 2 ^ j) ≡ true = rw e (search arith) in false≢true (sym g ∙ yes)

abbrev are_powers_small : ℕ → Bool
are_powers_small i = ltb (2 ^ i) (2 ^ 64)

power_small : (i : ℕ) → i < 64 → 2 ^ i < 2 ^ 64
power_small i h = ltb_yes (upto_sound are_powers_small 64 tt i h)

abbrev AllBelow : List ℕ → Type 0
AllBelow = EachHolds (λ i. i < 64)

bits_map_read : (members : List (List ℕ)) (is js : List ℕ) → AreMembers members → AllBelow is → AllBelow js → map (bit_json members) is ≡ map (bit_json members) js → is ≡ js
bits_map_read members [] [] a p q e = refl
bits_map_read members [] (j ∷ js) a p q e = absurd (let no = ap length e in omega (arith, no))
bits_map_read members (i ∷ is) [] a p q e = absurd (let no = ap length e in omega (arith, no))
bits_map_read members (i ∷ is) (j ∷ js) a p q e =
    ap₂ (λ (k : ℕ) (l : List ℕ). k ∷ l) (choices_read members i j (2 ^ i) (2 ^ j) a (power_small i p.0) (power_small j q.0) (λ s. powers_read i j p.0 q.0 s) (ap first_text e)) (bits_map_read members is js a p.1 q.1 (ap other_texts e))
  where
    first_text : List (List ℕ) → List ℕ
    first_text [] = []
    first_text (x ∷ xs) = x

    other_texts : List (List ℕ) → List (List ℕ)
    other_texts [] = []
    other_texts (x ∷ xs) = xs

range_below : (p : ℕ → Bool) (start count : ℕ) → start + count ≤ 64 → AllBelow (filter p (range_with_len start count))
range_below p start zero le = tt
range_below p start (suc count) le = go (p start) (range_below p (start + 1) count (omega (arith, le)))
  where
    go : (b : Bool) → AllBelow (filter p (range_with_len (start + 1) count)) → AllBelow (if b then start ∷ filter p (range_with_len (start + 1) count) else filter p (range_with_len (start + 1) count))
    go true more = (omega (arith, le), more)
    go false more = more

least_of : (q : ℕ → Bool) (start count x : ℕ) (rest : List ℕ) → x ∷ rest ≡ filter q (range_with_len start count) → start ≤ x
least_of q start zero x rest e = absurd (let no = ap length e in omega (arith, no))
least_of q start (suc count) x rest e = go (q start) e (λ f. least_of q (start + 1) count x rest f)
  where
    go : (b : Bool) → x ∷ rest ≡ (if b then start ∷ filter q (range_with_len (start + 1) count) else filter q (range_with_len (start + 1) count)) → (x ∷ rest ≡ filter q (range_with_len (start + 1) count) → start + 1 ≤ x) → start ≤ x
    go true f more = omega (arith, ap first f)
    go false f more = omega (arith, more f)

filters_read : (p q : ℕ → Bool) (start count : ℕ) → filter p (range_with_len start count) ≡ filter q (range_with_len start count) → (i : ℕ) → start ≤ i → i < start + count → p i ≡ q i
filters_read p q start zero e i le lt = absurd (omega (arith, le, lt))
filters_read p q start (suc count) e i le lt = go (p start) (q start) refl refl e (λ f j below above. filters_read p q (start + 1) count f j below above)
  where
    after : ℕ → Bool → Type 0
    after j b = p j ≡ q j

    rest : filter p (range_with_len (start + 1) count) ≡ filter q (range_with_len (start + 1) count) → ((f : filter p (range_with_len (start + 1) count) ≡ filter q (range_with_len (start + 1) count)) (j : ℕ) → start + 1 ≤ j → j < start + 1 + count → p j ≡ q j) → p start ≡ q start → p i ≡ q i
    rest f more here = elim (cases_lt start i) [
      | inl past ↦ more f i (omega (arith, past)) (omega (arith, lt))
      | inr at ↦ let same : i ≡ start = omega (arith, at, le) in subst (λ (k : ℕ). p k ≡ q k) (sym same) here
    ]

    go : (a b : Bool) → p start ≡ a → q start ≡ b
        → (if a then start ∷ filter p (range_with_len (start + 1) count) else filter p (range_with_len (start + 1) count)) ≡ (if b then start ∷ filter q (range_with_len (start + 1) count) else filter q (range_with_len (start + 1) count))
        → ((f : filter p (range_with_len (start + 1) count) ≡ filter q (range_with_len (start + 1) count)) (j : ℕ) → start + 1 ≤ j → j < start + 1 + count → p j ≡ q j) → p i ≡ q i
    go true true f g h more = rest (ap others h) more (f ∙ sym g)
    go false false f g h more = rest h more (f ∙ sym g)
    go true false f g h more = absurd (let no = least_of q (start + 1) count start (filter p (range_with_len (start + 1) count)) h in omega (arith, no))
    go false true f g h more = absurd (let no = least_of p (start + 1) count start (filter q (range_with_len (start + 1) count)) (sym h) in omega (arith, no))

same_bit : (x y : ℕ) → x < 2 → y < 2 → (x == 1) ≡ (y == 1) → x ≡ y
same_bit zero zero p q e = refl
same_bit (suc zero) (suc zero) p q e = refl
same_bit zero (suc zero) p q e = absurd (false≢true e)
same_bit (suc zero) zero p q e = absurd (false≢true (sym e))
same_bit (suc (suc x)) y p q e = absurd (omega (arith, p))
same_bit x (suc (suc y)) p q e = absurd (omega (arith, q))

-- ---- sets
element_of : (members : List (List ℕ)) (i : ℕ) → AreMembers members → i < 64 → IsElement (bit_json members i)
element_of members i a lt = elim (cases_lt i (length members)) [
  | inl inside ↦ (a.json i (decimal (2 ^ i)) inside, inl (a.begin i (decimal (2 ^ i)) inside))
  | inr out ↦
      let j = decimal_json (Unit {0}) (2 ^ i) (omega (arith, power_small i lt)) in
      subst IsElement (sym (get_or_past members i (decimal (2 ^ i)) out)) (value_of (decimal (2 ^ i)) j, inr (first_digit (2 ^ i) (power_small i lt)))
]

elements_of : (members : List (List ℕ)) (is : List ℕ) → AreMembers members → AllBelow is → EachHolds IsElement (map (bit_json members) is)
elements_of members [] a p = tt
elements_of members (i ∷ is) a p = (element_of members i a p.0, elements_of members is a p.1)

pub sets_read : (members : List (List ℕ)) (m n : ℕ) → AreMembers members → m < 2 ^ 64 → n < 2 ^ 64 → members_json members m ≡ members_json members n → m ≡ n
unfolding members_json
sets_read [] m n a p q e = decimal_injective m n p q e
sets_read (x ∷ xs) m n a p q e =
    let ms = x ∷ xs in
    let bits = λ (k : ℕ). filter (has_bit k) (range_with_len 0 64) in
    let below = λ (k : ℕ). range_below (has_bit k) 0 64 (omega arith) in
    let f = arrays_read (map (bit_json ms) (bits m)) (map (bit_json ms) (bits n)) (elements_of ms (bits m) a (below m)) (elements_of ms (bits n) a (below n)) (ap others e) in
    let g = bits_map_read ms (bits m) (bits n) a (below m) (below n) f in
    same_from_bits_below 64 m n p q (λ i lt. same_bit (m / 2 ^ i % 2) (n / 2 ^ i % 2) (omega arith) (omega arith) (filters_read (has_bit m) (has_bit n) 0 64 g i (omega arith) (omega (arith, lt))))
