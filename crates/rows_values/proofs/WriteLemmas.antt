-- The text of packed bytes, one group at a time.
use Rattle.std.proofs.Common.{◌≡◌, ◌≤◌, ◌<◌, ◌+◌, ◌*◌, ◌-◌, ◌^◌, ◌++◌, Bool, true, false, true≢false, eqb, ℕ, zero, suc, List, [], ◌∷◌, length, take, drop, Option, Some, None, ◌⊎◌, inl, inr, append_assoc, arith, refl, sym, ap, subst, ◌∙◌}
use Rattle.std.specs.Prelude.{nat_lt, if◌then◌else◌, ◌&&◌, ◌||◌}
use Rattle.std.proofs.lemmas.Bool.Decides.{leb_tells, eqb_tells}
use Rattle.std.proofs.lemmas.Bool.{and_parts}
use Rattle.std.proofs.lemmas.List.{length-append, length-take-le, append-nil, map-append}
use Rattle.std.proofs.Math.Seq.{take-append_seam}
use Rattle.rows_values.specs.Digits.{side_size, digits_in, has_minus_bit}
use Rattle.rows_values.specs.PrintedDecimals.{glyphs, significant, sign_text, whole_text, fraction_text, decimal_text}
use Rattle.rows_values.specs.Decimals.{DecimalParts, only_zeros, without_zero_groups, first_group, normalized, packed_size}
use Rattle.rows_values.specs.Unpacked.{concat_digits, exact_digits, group_digits, nines_digits, before_digits, after_digits, valued, plain_bytes, sides_value, unpacked, optional_text}
use Rattle.rows_values.specs.PackedTexts.{digits_text, is_shown, lead, lead_piece, zero_piece, flipped_back, Leads, Follows, FollowsOrNone, Fraction, FractionOrNone, PutsOrNone}
use Rattle.rows_values.proofs.UnpackDigitsLemmas.{length-digits_in}
use Rattle.rows_values.proofs.DigitTextLemmas.{lead_none, lead_some, sig_append_none, sig_append_some, sig_zero, sig_suc}
use Rattle.rows_values.proofs.UnpackedLemmas.{joined_some, unpacked_sized}
use Rattle.rows_values.proofs.FlipBackLemmas.{num, take-flipped_back, drop-flipped_back}
use Rattle.rows_values.proofs.ZeroLemmas.{groups_split}

-- ---- places

positions_fit : (k n : ℕ) → n < 10 ^ k → exact_digits k n ≡ Some (digits_in k n)
positions_fit k n h = elim (leb_tells (suc n) (10 ^ k)) [ inl t ↦ rw t.0 refl | inr t ↦ absurd (omega (arith, t.1, h)) ]

positions_past : (k n : ℕ) → 10 ^ k ≤ n → exact_digits k n ≡ None
positions_past k n h = elim (leb_tells (suc n) (10 ^ k)) [ inl t ↦ absurd (omega (arith, t.1, h)) | inr t ↦ rw t.0 refl ]

pub group_fits : (k n : ℕ) (xs : List ℕ) → n ≡ num xs → n < 10 ^ k → group_digits k xs ≡ Some (digits_in k n)
group_fits k n xs is h = ap (exact_digits k) (sym is) ∙ positions_fit k n h

pub group_past : (k n : ℕ) (xs : List ℕ) → n ≡ num xs → 10 ^ k ≤ n → group_digits k xs ≡ None
group_past k n xs is h = ap (exact_digits k) (sym is) ∙ positions_past k n h

pub none_right : (o : Option (List ℕ)) → concat_digits o None ≡ None
none_right None = refl
none_right (Some x) = refl

pub none_left : (o more : Option (List ℕ)) → o ≡ None → concat_digits o more ≡ None
none_left o more e = ap (λ p. concat_digits p more) e

pub none_follows : (o more : Option (List ℕ)) → more ≡ None → concat_digits o more ≡ None
none_follows o more e = ap (concat_digits o) e ∙ none_right o

pub nines_none_of : (n i : ℕ) (x : List ℕ) → i < n → group_digits 9 (take 4 (drop (4 * i) x)) ≡ None → nines_digits n x ≡ None
unfolding nines_digits
nines_none_of zero i x below e = absurd (omega (arith, below))
nines_none_of (suc n) i x below e = elim (leb_tells (suc i) n) [
  | inl t ↦ none_left (nines_digits n x) (group_digits 9 (take 4 (drop (4 * n) x))) (nines_none_of n i x t.1 e)
  | inr t ↦
      let same : i ≡ n = omega (arith, below, t.1) in
      none_follows (nines_digits n x) (group_digits 9 (take 4 (drop (4 * n) x))) (subst (λ k. group_digits 9 (take 4 (drop (4 * k) x)) ≡ None) same e)
]

pub nines_begin : (x : List ℕ) → nines_digits 0 x ≡ Some []
unfolding nines_digits
nines_begin x = refl

pub nines_next : (i : ℕ) (x : List ℕ) → nines_digits (i + 1) x ≡ concat_digits (nines_digits i x) (group_digits 9 (take 4 (drop (4 * i) x)))
unfolding nines_digits
nines_next i x = let e : i + 1 ≡ suc i = omega arith in rw e refl

pub joined_to : (a b : Option (List ℕ)) (x y : List ℕ) → a ≡ Some x → b ≡ Some y → concat_digits a b ≡ Some (x ++ y)
joined_to a b x y e f = ap (λ o. concat_digits o b) e ∙ ap (concat_digits (Some x)) f

joined_more : (f n g : Option (List ℕ)) (ds es : List ℕ) → concat_digits f n ≡ Some ds → g ≡ Some es → concat_digits f (concat_digits n g) ≡ Some (ds ++ es)
joined_more f n g ds es e is =
    let p = joined_some f n ds e in
    joined_to f (concat_digits n g) p.0 (p.1 ++ es) p.2 (joined_to n g p.1 es p.3 is) ∙ ap (λ l. Some l) (sym (append_assoc p.0 p.1 es) ∙ ap (λ l. l ++ es) p.4)

-- ---- the text before the digits

take_less : (a b : ℕ) (xs : List ℕ) → a ≤ b → take a (take b xs) ≡ take a xs
take_less zero b xs h = refl
take_less (suc a) zero xs h = absurd (omega (arith, h))
take_less (suc a) (suc b) [] h = refl
take_less (suc a) (suc b) (x ∷ xs) h = ap (λ l. x ∷ l) (take_less a b xs (omega (arith, h)))

pub kept_prefix : (at end : ℕ) (old new piece : List ℕ) → at ≤ end → at ≤ length old → take end new ≡ take at old ++ piece → take at new ≡ take at old
kept_prefix at end old new piece le room e =
    let long = length-take-le at old room in
    sym (take_less at end new le) ∙ ap (take at) e ∙ ap (λ k. take k (take at old ++ piece)) (sym long) ∙ take-append_seam (take at old) piece

-- ---- the digits before the point

shown_or_none : (ds : List ℕ) → ((significant ds ≡ []) ⊎ (0 < length (significant ds)))
shown_or_none ds = go (significant ds) refl
  where
    go : (s : List ℕ) → significant ds ≡ s → ((significant ds ≡ []) ⊎ (0 < length (significant ds)))
    go [] e = inl e
    go (x ∷ r) e = inr (subst (λ (l : List ℕ). 0 < length l) (sym e) (omega arith))

lead_push : (negative shown : Bool) (ds : List ℕ) (k n : ℕ) → shown ≡ is_shown ds → lead negative ds ++ lead_piece negative shown k n ≡ lead negative (ds ++ digits_in k n)
lead_push negative shown ds k n is = elim (shown_or_none ds) [
  | inl e ↦
      let es = digits_in k n in
      let p = lead_none negative ds e in
      let s : shown ≡ false = is ∙ p.1 in
      let both : lead negative (ds ++ es) ≡ lead negative es = ap (λ (l : List ℕ). if nat_lt 0 (length l) then sign_text negative ++ glyphs l else []) (sig_append_none ds es e) in
      ap (λ l. l ++ lead_piece negative shown k n) p.0 ∙ ap (λ b. lead_piece negative b k n) s ∙ sym both
  | inr some ↦
      let es = digits_in k n in
      let p = lead_some negative ds some in
      let s : shown ≡ true = is ∙ p.1 in
      let sig = sig_append_some ds es some in
      let more : 0 < length (significant (ds ++ es)) = omega (arith, ap length sig, length-append (significant ds) es, some) in
      let q = lead_some negative (ds ++ es) more in
      ap (λ l. l ++ lead_piece negative shown k n) p.0 ∙ ap (λ b. (sign_text negative ++ glyphs (significant ds)) ++ lead_piece negative b k n) s
      ∙ append_assoc (sign_text negative) (glyphs (significant ds)) (glyphs es) ∙ ap (λ l. sign_text negative ++ l) (sym (map-append (λ d. 48 + d) (significant ds) es))
      ∙ ap (λ l. sign_text negative ++ glyphs l) (sym sig) ∙ sym q.0
]

shown_push : (shown : Bool) (ds : List ℕ) (k n : ℕ) → shown ≡ is_shown ds → (shown ≡ false → is_shown (digits_in k n) ≡ nat_lt 0 n) → (shown || nat_lt 0 n) ≡ is_shown (ds ++ digits_in k n)
shown_push shown ds k n is tells = elim (shown_or_none ds) [
  | inl e ↦
      let es = digits_in k n in
      let s : shown ≡ false = is ∙ (lead_none false ds e).1 in
      ap (λ b. b || nat_lt 0 n) s ∙ sym (tells s) ∙ ap (λ (l : List ℕ). nat_lt 0 (length l)) (sym (sig_append_none ds es e))
  | inr some ↦
      let es = digits_in k n in
      let s : shown ≡ true = is ∙ (lead_some false ds some).1 in
      let sig = sig_append_some ds es some in
      let more : 0 < length (significant (ds ++ es)) = omega (arith, ap length sig, length-append (significant ds) es, some) in
      ap (λ b. b || nat_lt 0 n) s ∙ sym (lead_some false (ds ++ es) more).1
]

not_less : (n : ℕ) → nat_lt 0 n ≡ false → n ≡ 0
not_less zero e = refl
not_less (suc n) e = elim (leb_tells 1 (suc n)) [ inl t ↦ absurd (true≢false (sym t.0 ∙ e)) | inr t ↦ absurd (omega (arith, t.1)) ]

or_false : (a b : Bool) → (a || b) ≡ false → (a ≡ false) × (b ≡ false)
or_false true b e = absurd (true≢false e)
or_false false b e = (refl, e)

-- the first group
pub leads_begin : (negative : Bool) (o : Option (List ℕ)) (x : List ℕ) (k n at end : ℕ) (old new : List ℕ) → o ≡ Some (digits_in k n) → at ≤ end → end ≤ at + (k + 1) → (n ≡ 0 → end ≡ at)
    → is_shown (digits_in k n) ≡ nat_lt 0 n → take end new ≡ take at old ++ lead negative (digits_in k n)
    → (after : Bool) → after ≡ nat_lt 0 n → Leads negative (concat_digits o (nines_digits 0 x)) (k + 9 * 0) at old new end after
leads_begin negative o x k n at end old new is from most none tells text after now = record {
  ds = digits_in k n;
  are = joined_to o (nines_digits 0 x) (digits_in k n) [] is (nines_begin x) ∙ ap (λ l. Some l) (append-nil (digits_in k n));
  shown_is = now ∙ sym tells;
  from = from;
  most = omega (arith, most);
  none = λ e. none (not_less n (sym now ∙ e));
  text = text;
}

-- one more group
pub leads_more : (negative shown : Bool) (o : Option (List ℕ)) (x : List ℕ) (k i n at mid_end end : ℕ) (old mid new : List ℕ) → Leads negative (concat_digits o (nines_digits i x)) (k + 9 * i) at old mid mid_end shown
    → group_digits 9 (take 4 (drop (4 * i) x)) ≡ Some (digits_in 9 n) → mid_end ≤ end → end ≤ mid_end + 10 → (shown ≡ true → end ≡ mid_end + 9) → (shown ≡ false → n ≡ 0 → end ≡ mid_end)
    → (shown ≡ false → is_shown (digits_in 9 n) ≡ nat_lt 0 n) → take end new ≡ take mid_end mid ++ lead_piece negative shown 9 n
    → (after : Bool) → after ≡ (shown || nat_lt 0 n) → Leads negative (concat_digits o (nines_digits (i + 1) x)) (k + 9 * (i + 1)) at old new end after
leads_more negative shown o x k i n at mid_end end old mid new l group from most following none tells text after now = record {
  ds = l.ds ++ digits_in 9 n;
  are = ap (concat_digits o) (nines_next i x) ∙ joined_more o (nines_digits i x) (group_digits 9 (take 4 (drop (4 * i) x))) l.ds (digits_in 9 n) l.are group;
  shown_is = now ∙ shown_push shown l.ds 9 n l.shown_is tells;
  from = let a = l.from in omega (arith, a, from);
  most = bound shown l.most l.none following;
  none = λ e. let p = or_false shown (nat_lt 0 n) (sym now ∙ e) in none p.0 (not_less n p.1) ∙ l.none p.0;
  text = text ∙ ap (λ t. t ++ lead_piece negative shown 9 n) l.text ∙ append_assoc (take at old) (lead negative l.ds) (lead_piece negative shown 9 n)
      ∙ ap (λ t. take at old ++ t) (lead_push negative shown l.ds 9 n l.shown_is);
}
  where
    bound : (b : Bool) → mid_end ≤ at + (k + 9 * i + 1) → (b ≡ false → mid_end ≡ at) → (b ≡ true → end ≡ mid_end + 9) → end ≤ at + (k + 9 * (i + 1) + 1)
    bound true m z h = omega (arith, m, h refl)
    bound false m z h = omega (arith, z refl, most)

-- ---- the digits after the point

pub follows_begin : (x : List ℕ) (at : ℕ) (old : List ℕ) → Follows (nines_digits 0 x) (9 * 0) at old old at
follows_begin x at old = record { ds = []; are = nines_begin x; size = refl; end_is = omega arith; text = sym (append-nil (take at old)) }

pub follows_more : (x : List ℕ) (i n at mid_end end : ℕ) (old mid new : List ℕ) → Follows (nines_digits i x) (9 * i) at old mid mid_end → group_digits 9 (take 4 (drop (4 * i) x)) ≡ Some (digits_in 9 n)
    → end ≡ mid_end + 9 → take end new ≡ take mid_end mid ++ digits_text 9 n → Follows (nines_digits (i + 1) x) (9 * (i + 1)) at old new end
follows_more x i n at mid_end end old mid new f group ends text =
    let size = f.size in
    let before = f.end_is in
    record {
      ds = f.ds ++ digits_in 9 n;
      are = nines_next i x ∙ joined_to (nines_digits i x) (group_digits 9 (take 4 (drop (4 * i) x))) f.ds (digits_in 9 n) f.are group;
      size = omega (arith, length-append f.ds (digits_in 9 n), size, length-digits_in 9 n);
      end_is = omega (arith, before, ends);
      text = text ∙ ap (λ t. t ++ digits_text 9 n) f.text ∙ append_assoc (take at old) (glyphs f.ds) (digits_text 9 n) ∙ ap (λ t. take at old ++ t) (sym (map-append (λ d. 48 + d) f.ds (digits_in 9 n)));
    }

pub follows_end : (o more : Option (List ℕ)) (count k n at mid_end end before : ℕ) (old mid new : List ℕ) → Follows o before at old mid mid_end → more ≡ Some (digits_in k n) → before + k ≡ count
    → end ≡ mid_end + k → take end new ≡ take mid_end mid ++ digits_text k n → Follows (concat_digits o more) count at old new end
follows_end o more count k n at mid_end end before old mid new f group all ends text =
    let size = f.size in
    let so_far = f.end_is in
    record {
      ds = f.ds ++ digits_in k n;
      are = joined_to o more f.ds (digits_in k n) f.are group;
      size = omega (arith, length-append f.ds (digits_in k n), size, length-digits_in k n, all);
      end_is = omega (arith, so_far, ends, all);
      text = text ∙ ap (λ t. t ++ digits_text k n) f.text ∙ append_assoc (take at old) (glyphs f.ds) (digits_text k n) ∙ ap (λ t. take at old ++ t) (sym (map-append (λ d. 48 + d) f.ds (digits_in k n)));
    }

no_list : (xs : List ℕ) → length xs ≡ 0 → xs ≡ []
no_list [] e = refl
no_list (x ∷ xs) e = absurd (omega (arith, e))

none_there : (negative top : Bool) → after_digits 0 (flipped_back negative top []) ≡ Some []
unfolding nines_digits digits_in
none_there true true = refl
none_there true false = refl
none_there false true = refl
none_there false false = refl

pub fraction_none : (negative top : Bool) (count at : ℕ) (bytes old : List ℕ) → count ≡ 0 → length bytes ≡ side_size count → Fraction (after_digits count (flipped_back negative top bytes)) count at old old at
fraction_none negative top count at bytes old zero_count long = record {
  ds = [];
  are = ap (λ k. after_digits k (flipped_back negative top bytes)) zero_count ∙ ap (λ l. after_digits 0 (flipped_back negative top l)) (no_list bytes (long ∙ ap side_size zero_count)) ∙ none_there negative top;
  size = sym zero_count;
  from = omega arith;
  most = omega arith;
  text = sym (append-nil (take at old));
}

some_fraction : (ds : List ℕ) (count : ℕ) → length ds ≡ count → (count ≡ 0 → ⊥) → fraction_text ds ≡ 46 ∷ glyphs ds
some_fraction ds count e other = elim (eqb_tells (length ds) 0) [ inl t ↦ absurd (other (sym e ∙ t.1)) | inr t ↦ rw t.0 refl ]

pub fraction_is : (digits : Option (List ℕ)) (count at start : ℕ) (old mid new : List ℕ) (r : Option ℕ) → (count ≡ 0 → ⊥) → at ≤ length old → start ≡ at + 1 → take start mid ≡ take at old ++ 46 ∷ []
    → FollowsOrNone digits count start mid new r → FractionOrNone digits count at old new r
fraction_is digits count at start old mid new (Some end) other room starts point f =
    let size = f.size in
    let ends = f.end_is in
    record {
      ds = f.ds;
      are = f.are;
      size = f.size;
      from = omega (arith, ends, starts);
      most = omega (arith, ends, starts);
      text = f.text ∙ ap (λ t. t ++ glyphs f.ds) point ∙ append_assoc (take at old) (46 ∷ []) (glyphs f.ds) ∙ ap (λ t. take at old ++ t) (sym (some_fraction f.ds count size other));
    }
fraction_is digits count at start old mid new None other room starts point f =
    (f.0, kept_prefix at start old new (46 ∷ []) (omega (arith, starts)) room (f.1 ∙ point))

pub follows_last : (x : List ℕ) (more : Option (List ℕ)) (w i count k n at mid_end end : ℕ) (old mid new : List ℕ) → Follows (nines_digits i x) (9 * i) at old mid mid_end → i ≡ w → more ≡ Some (digits_in k n)
    → 9 * w + k ≡ count → end ≡ mid_end + k → take end new ≡ take mid_end mid ++ digits_text k n → Follows (concat_digits (nines_digits w x) more) count at old new end
follows_last x more w i count k n at mid_end end old mid new f same group all ends text =
    follows_end (nines_digits w x) more count k n at mid_end end (9 * w) old mid new (subst (λ j. Follows (nines_digits j x) (9 * j) at old mid mid_end) same f) group all ends text

-- ---- the whole text

zeros_sig : (ds : List ℕ) → only_zeros ds ≡ true → significant ds ≡ []
zeros_sig [] h = refl
zeros_sig (zero ∷ ds) h = sig_zero ds ∙ zeros_sig ds (and_parts (eqb 0 0) (only_zeros ds) h).1
zeros_sig (suc d ∷ ds) h = elim (eqb_tells (suc d) 0) [
  | inl t ↦ absurd (omega (arith, t.1))
  | inr t ↦ absurd (true≢false (sym (and_parts (eqb (suc d) 0) (only_zeros ds) h).0 ∙ t.0))
]

sig_zeros : (k : ℕ) (ds : List ℕ) → significant ds ≡ [] → only_zeros (take k ds) ≡ true
sig_zeros zero ds e = refl
sig_zeros (suc k) [] e = refl
sig_zeros (suc k) (zero ∷ ds) e = sig_zeros k ds (sym (sig_zero ds) ∙ e)
sig_zeros (suc k) (suc d ∷ ds) e = let long = ap length (sym (sig_suc d ds) ∙ e) in absurd (omega (arith, long))

sig_groups : (ds : List ℕ) → significant (without_zero_groups ds) ≡ significant ds
sig_groups ds =
    let p = groups_split ds in
    sym (ap significant p.whole ∙ sig_append_none p.dropped (without_zero_groups ds) (zeros_sig p.dropped p.zeros))

none_kept : (ds : List ℕ) → significant ds ≡ [] → length (without_zero_groups ds) ≡ 0
none_kept ds e =
    let p = groups_split ds in
    let rest = without_zero_groups ds in
    elim (leb_tells 1 (length rest)) [
      | inl t ↦ absurd (true≢false (sym (sig_zeros (first_group (length rest)) rest (sig_groups ds ∙ e)) ∙ p.others_first t.1))
      | inr t ↦ omega (arith, t.1)
    ]

abbrev value : Bool → List ℕ → List ℕ → DecimalParts
value negative ds es = record { negative = negative; before = ds; after = es }

kept_value : (negative : Bool) (ds es : List ℕ) → 0 < length (without_zero_groups ds) + length es → normalized false (value negative ds es) ≡ value negative (without_zero_groups ds) es
kept_value negative ds es some = elim (eqb_tells (length (without_zero_groups ds) + length es) 0) [
  | inl t ↦ absurd (omega (arith, t.1, some))
  | inr t ↦ rw t.0 refl
]

kept_zero : (negative : Bool) (ds es : List ℕ) → length (without_zero_groups ds) + length es ≡ 0 → decimal_text (normalized false (value negative ds es)) ≡ 48 ∷ []
kept_zero negative ds es none = rw none refl

whole_zero : (ds : List ℕ) → significant ds ≡ [] → whole_text ds ≡ 48 ∷ []
whole_zero ds e = rw e refl

whole_some : (ds : List ℕ) → 0 < length (significant ds) → whole_text ds ≡ glyphs (significant ds)
whole_some ds some = elim (eqb_tells (length (significant ds)) 0) [ inl t ↦ absurd (omega (arith, t.1, some)) | inr t ↦ rw t.0 refl ]

and_no : (b : Bool) → (b && false) ≡ false
and_no true = refl
and_no false = refl

and_yes : (b : Bool) → (b && true) ≡ b
and_yes true = refl
and_yes false = refl

no_more : (n : ℕ) → n ≡ 0 → nat_lt 0 n ≡ false
no_more n e = ap (nat_lt 0) e

some_more : (n : ℕ) → 0 < n → nat_lt 0 n ≡ true
some_more n h = elim (leb_tells 1 n) [ inl t ↦ t.0 | inr t ↦ absurd (omega (arith, t.1, h)) ]

pub kept_text : (negative : Bool) (ds es : List ℕ) (scale : ℕ) → length es ≡ scale
    → (lead negative ds ++ zero_piece (is_shown ds) (negative && nat_lt 0 scale)) ++ fraction_text es ≡ decimal_text (normalized false (value negative ds es))
kept_text negative ds es scale size = elim (shown_or_none ds) [
  | inl e ↦
      let p = lead_none negative ds e in
      let prefix : lead negative ds ++ zero_piece (is_shown ds) (negative && nat_lt 0 scale) ≡ sign_text (negative && nat_lt 0 scale) ++ 48 ∷ [] =
      ap (λ l. l ++ zero_piece (is_shown ds) (negative && nat_lt 0 scale)) p.0 ∙ ap (λ b. zero_piece b (negative && nat_lt 0 scale)) p.1 in
      elim (leb_tells 1 scale) [
        | inl t ↦
            let m : (negative && nat_lt 0 scale) ≡ negative = ap (λ b. negative && b) (some_more scale t.1) ∙ and_yes negative in
            let some : 0 < length (without_zero_groups ds) + length es = omega (arith, t.1, size) in
            ap (λ l. l ++ fraction_text es) (prefix ∙ ap (λ b. sign_text b ++ 48 ∷ []) m) ∙ append_assoc (sign_text negative) (48 ∷ []) (fraction_text es)
            ∙ ap (λ l. sign_text negative ++ (l ++ fraction_text es)) (sym (whole_zero (without_zero_groups ds) (sig_groups ds ∙ e))) ∙ ap decimal_text (sym (kept_value negative ds es some))
        | inr t ↦
            let zero_scale : scale ≡ 0 = omega (arith, t.1) in
            let m : (negative && nat_lt 0 scale) ≡ false = ap (λ b. negative && b) (no_more scale zero_scale) ∙ and_no negative in
            let empty : es ≡ [] = no_list es (size ∙ zero_scale) in
            let none : length (without_zero_groups ds) + length es ≡ 0 = omega (arith, none_kept ds e, size, zero_scale) in
            ap (λ l. l ++ fraction_text es) (prefix ∙ ap (λ b. sign_text b ++ 48 ∷ []) m) ∙ ap (λ l. (48 ∷ []) ++ fraction_text l) empty ∙ sym (kept_zero negative ds es none)
      ]
  | inr some ↦
      let p = lead_some negative ds some in
      let sig = sig_groups ds in
      let more : 0 < length (significant (without_zero_groups ds)) = subst (λ (l : List ℕ). 0 < length l) (sym sig) some in
      let digits : 0 < length (without_zero_groups ds) + length es = omega (arith, sig_long (without_zero_groups ds), more) in
      ap (λ l. l ++ fraction_text es) (ap (λ l. l ++ zero_piece (is_shown ds) (negative && nat_lt 0 scale)) p.0
      ∙ ap (λ b. (sign_text negative ++ glyphs (significant ds)) ++ zero_piece b (negative && nat_lt 0 scale)) p.1 ∙ append-nil (sign_text negative ++ glyphs (significant ds)))
      ∙ append_assoc (sign_text negative) (glyphs (significant ds)) (fraction_text es)
      ∙ ap (λ l. sign_text negative ++ (l ++ fraction_text es)) (sym (whole_some (without_zero_groups ds) more ∙ ap glyphs sig)) ∙ ap decimal_text (sym (kept_value negative ds es digits))
]
  where
    sig_long : (xs : List ℕ) → length (significant xs) ≤ length xs
    sig_long [] = omega arith
    sig_long (zero ∷ xs) = let e = ap length (sig_zero xs) in let h = sig_long xs in omega (arith, e, h)
    sig_long (suc d ∷ xs) = let e = ap length (sig_suc d xs) in omega (arith, e)

-- the decimal that the bytes pack, from both sides
pub unpacked_parts : (negative top : Bool) (precision scale s : ℕ) (bytes prefix back : List ℕ) → scale ≤ precision → length bytes ≡ packed_size (precision - scale) scale → negative ≡ has_minus_bit bytes
    → s ≡ side_size (precision - scale) → prefix ≡ take s bytes → back ≡ drop s bytes → top ≡ eqb (length prefix) 0
    → unpacked precision scale bytes ≡ valued negative (before_digits (precision - scale) (flipped_back negative true prefix)) (after_digits scale (flipped_back negative top back))
unpacked_parts negative top precision scale s bytes prefix back le long sign is first rest flag =
    let b = precision - scale in
    let z = side_size b in
    let room : s ≤ length bytes = omega (arith, long, is) in
    let size : length prefix ≡ z = ap length first ∙ length-take-le s bytes room ∙ is in
    let plain = flipped_back negative true bytes in
    let same : plain_bytes bytes ≡ plain = ap (λ n. flipped_back n true bytes) (sym sign) in
    let prefixes : take z plain ≡ flipped_back negative true prefix = take-flipped_back z negative true bytes ∙ ap (λ k. flipped_back negative true (take k bytes)) (sym is) ∙ ap (flipped_back negative true) (sym first) in
    let backs : drop z plain ≡ flipped_back negative top back =
    drop-flipped_back z negative true bytes ∙ ap (λ k. flipped_back negative (eqb k 0) (drop z bytes)) (sym size) ∙ ap (λ t. flipped_back negative t (drop z bytes)) (sym flag) ∙ ap (λ k. flipped_back negative top (drop k bytes)) (sym is)
    ∙ ap (flipped_back negative top) (sym rest) in
    unpacked_sized precision scale bytes le long ∙ ap (λ n. sides_value n b scale (plain_bytes bytes)) (sym sign) ∙ ap (sides_value negative b scale) same
    ∙ ap (λ l. valued negative (before_digits b l) (after_digits scale (drop z plain))) prefixes ∙ ap (λ l. valued negative (before_digits b (flipped_back negative true prefix)) (after_digits scale l)) backs

pub text_none_before : (o : Option DecimalParts) (negative : Bool) (a b : Option (List ℕ)) → o ≡ valued negative a b → a ≡ None → optional_text o ≡ None
text_none_before o negative a b e none = ap optional_text (e ∙ ap (λ p. valued negative p b) none)

none_after : (negative : Bool) (a : Option (List ℕ)) → valued negative a None ≡ None
none_after negative None = refl
none_after negative (Some x) = refl

pub puts_is : (o : Option DecimalParts) (negative shown minus : Bool) (a b : Option (List ℕ)) (before scale precision at zero_from from : ℕ) (old mid next new : List ℕ) (r : Option ℕ) → before + scale ≡ precision → at ≤ length old
    → o ≡ valued negative a b → Leads negative a before at old mid zero_from shown → minus ≡ (negative && nat_lt 0 scale) → (shown ≡ true → from ≡ zero_from) → zero_from ≤ from → from ≤ zero_from + 2
    → take from next ≡ take zero_from mid ++ zero_piece shown minus → FractionOrNone b scale from next new r → PutsOrNone (optional_text o) (precision + 3) at old new r
puts_is o negative shown minus a b before scale precision at zero_from from old mid next new (Some end) all room is l sign stays up most text f =
    let l_from = l.from in
    let f_from = f.from in
    let f_most = f.most in
    let value_is : o ≡ Some (value negative l.ds f.ds) = is ∙ ap (λ p. valued negative p b) l.are ∙ ap (valued negative (Some l.ds)) f.are in
    let piece = (lead negative l.ds ++ zero_piece shown minus) ++ fraction_text f.ds in
    let written : take end new ≡ take at old ++ piece =
    f.text ∙ ap (λ t. t ++ fraction_text f.ds) (text ∙ ap (λ t. t ++ zero_piece shown minus) l.text ∙ append_assoc (take at old) (lead negative l.ds) (zero_piece shown minus))
    ∙ append_assoc (take at old) (lead negative l.ds ++ zero_piece shown minus) (fraction_text f.ds) in
    let same : piece ≡ decimal_text (normalized false (value negative l.ds f.ds)) =
    ap (λ c. (lead negative l.ds ++ zero_piece c minus) ++ fraction_text f.ds) l.shown_is ∙ ap (λ c. (lead negative l.ds ++ zero_piece (is_shown l.ds) c) ++ fraction_text f.ds) sign ∙ kept_text negative l.ds f.ds scale f.size in
    record {
      text = decimal_text (normalized false (value negative l.ds f.ds));
      is = ap optional_text value_is;
      from = omega (arith, l_from, up, f_from);
      most = bound shown l.most l.none stays f_most;
      written = written ∙ ap (λ t. take at old ++ t) same;
    }
  where
    bound : (c : Bool) → zero_from ≤ at + (before + 1) → (c ≡ false → zero_from ≡ at) → (c ≡ true → from ≡ zero_from) → end ≤ from + (scale + 1) → end ≤ at + (precision + 3)
    bound true m z h g = omega (arith, m, h refl, g, all)
    bound false m z h g = omega (arith, z refl, most, g, all)
puts_is o negative shown minus a b before scale precision at zero_from from old mid next new None all room is l sign stays up most text f =
    let l_from = l.from in
    let written : take from next ≡ take at old ++ (lead negative l.ds ++ zero_piece shown minus) =
    text ∙ ap (λ t. t ++ zero_piece shown minus) l.text ∙ append_assoc (take at old) (lead negative l.ds) (zero_piece shown minus) in
    (ap optional_text (is ∙ ap (valued negative a) f.0 ∙ none_after negative a), kept_prefix at from old new (lead negative l.ds ++ zero_piece shown minus) (omega (arith, l_from, up)) room (f.1 ∙ written))
