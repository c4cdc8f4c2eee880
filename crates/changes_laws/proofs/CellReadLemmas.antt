-- The JSON of a cell shows its value: numbers, decimals, floats, text and bytes.
use Rattle.std.proofs.Common.{◌≡◌, ℕ, zero, suc, ◌+◌, ◌<◌, ◌≤◌, ◌^◌, Bool, true, false, T, List, [], ◌∷◌, length, refl, sym, ap, ◌∙◌, subst, arith, inl, inr}
use Rattle.std.specs.Prelude.{ℤ, pos, negsuc, ◌-ℤ◌, nat_lt, nat_le, if◌then◌else◌}
use Rattle.std.specs.Fmt.{decimal, signed_decimal}
use Rattle.std.proofs.Math.Facts.{ltb_yes, leb_yes}
use Rattle.std.proofs.lemmas.Bool.{cases_lt, false≢true}
use Rattle.std.proofs.lemmas.Fmt.{decimal_injective, signed_decimal_injective}
use Rattle.std.proofs.lemmas.Int.{ints}
use Rattle.std.proofs.lemmas.List.{append-nil, append_cancel_right}
use lib.Signed.{mag}
use Rattle.base64.specs.GeneralPurpose.{IsBytes}
use Rattle.byteorder.specs.Numbers.{big_from-lt}
use Rattle.byteorder.specs.Endian.{big_number, little_number, twos_complement}
use Rattle.wire_buf.specs.Encoding.{AreBytes}
use Rattle.wire_buf.specs.Numbers.{little_signed}
use Rattle.changes_character_sets.specs.Texts.{IsTextOf}
use Rattle.changes_character_sets.specs.declared.character_set.CharacterSet.{CharacterSet}
use Rattle.changes_tables.specs.declared.columns.Shown.{Shown}
use Rattle.changes_tables.specs.declared.columns.Shown.TheVariants as shown
use Rattle.changes_tables.specs.ShownColumns.{ColumnView}
use Rattle.changes_writers.specs.Base64Texts.{base64_object, base64_string}
use Rattle.changes_writers.specs.JsonStrings.{json_string}
use Rattle.changes_writers.proofs.StringLawLemmas.{strings_read, base64_strings_read, base64_objects_read, no_object}
use Rattle.changes_cells.specs.CellJson.{IsSeconds, IsNumberJson, IsNumberShown, IsSimpleNumber, IsIntegerJson, negative_json, IsTextJson, of_few, IsBytesShown, year_json, IsYearJson}
use Rattle.changes_cells.specs.ShownTimes.{in_quotes, IsInstant}
use Rattle.rows_cells.specs.CellValues.{bytes}
use Rattle.changes_laws.specs.SameCells.{IsSameCell, equal, texts, bits, AreMembers, IsNumberAlone, IsNoMember}
use Rattle.changes_laws.proofs.ReadingGives.{little_below}
use Rattle.changes_laws.proofs.DateReadLemmas.{is_digit}
use Rattle.changes_laws.proofs.InstantReadLemmas.{instants_read}
use Rattle.changes_laws.proofs.MemberReadLemmas.{first, first_digit, enums_read, sets_read}

-- ---- signed numbers of bytes
pub mag_negative : (x y : ℕ) (z : ℤ) → x < y → z ≡ pos x -ℤ pos y → mag z + x < y
mag_negative x y (pos n) lt e = absurd (omega (arith, ints, e, lt))
mag_negative x y (negsuc n) lt e = omega (arith, ints, e)

mag_complement : (x : ℕ) → x < 2 ^ 64 → mag (twos_complement 8 x) < 2 ^ 63
mag_complement x lt = go (nat_lt x (2 ^ 63)) refl
  where
    go : (b : Bool) → nat_lt x (2 ^ 63) ≡ b → mag (if b then pos x else pos x -ℤ pos (2 ^ 64)) < 2 ^ 63
    go true e = ltb_yes (subst T (sym e) tt)
    go false e = elim (cases_lt x (2 ^ 63)) [
      | inl below ↦ absurd (let yes : nat_lt x (2 ^ 63) ≡ true = grind arith in false≢true (sym e ∙ yes))
      | inr above ↦ omega (arith, above, mag_negative x (2 ^ 64) (pos x -ℤ pos (2 ^ 64)) lt refl)
    ]

pub eight_below : (b : List ℕ) → AreBytes b → mag (little_signed 8 b) < 2 ^ 63
eight_below b h = mag_complement (little_number 8 b) (omega (arith, little_below 8 b h))

-- ---- quotes
abbrev others : List ℕ → List ℕ
others [] = []
others (x ∷ xs) = xs

quotes_read : (a b : List ℕ) → in_quotes a ≡ in_quotes b → a ≡ b
quotes_read a b e = append_cancel_right a b (34 ∷ []) (ap others e)

-- ---- numbers: those that aren't of members, and no seconds
abbrev wrapped : Shown → List ℕ → List ℕ
wrapped shown.Quoted text = in_quotes text
wrapped _ text = text

unwrap : (s : Shown) (a b : List ℕ) → wrapped s a ≡ wrapped s b → a ≡ b
unwrap shown.Quoted a b e = quotes_read a b e
unwrap shown.Plain a b e = e
unwrap (shown.Text set) a b e = e
unwrap shown.Binary a b e = e
unwrap shown.Unknown a b e = e
unwrap shown.Timestamp a b e = e
unwrap shown.Bit a b e = e
unwrap shown.Enum a b e = e
unwrap shown.Set a b e = e

number_text : (s : Shown) (members : List (List ℕ)) (n : ℕ) (x : List ℕ) → IsNumberAlone s → IsNumberShown s members n x → x ≡ wrapped s (decimal n)
unfolding IsNumberShown IsSimpleNumber
number_text shown.Quoted members n x p e = e
number_text shown.Plain members n x p e = e
number_text (shown.Text set) members n x p e = e
number_text shown.Binary members n x p e = e
number_text shown.Unknown members n x p e = e
number_text shown.Timestamp members n x p e = absurd p
number_text shown.Bit members n x p e = e
number_text shown.Enum members n x p e = absurd p
number_text shown.Set members n x p e = absurd p

negative_text : (s : Shown) (z : ℤ) → IsNumberAlone s → negative_json s z ≡ wrapped s (signed_decimal z)
negative_text shown.Quoted z p = refl
negative_text shown.Plain z p = refl
negative_text (shown.Text set) z p = refl
negative_text shown.Binary z p = refl
negative_text shown.Unknown z p = refl
negative_text shown.Timestamp z p = absurd p
negative_text shown.Bit z p = refl
negative_text shown.Enum z p = absurd p
negative_text shown.Set z p = absurd p

integer_text : (c : ColumnView) (z : ℤ) (x : List ℕ) → IsNumberAlone c.shown → IsIntegerJson c z x → x ≡ wrapped c.shown (signed_decimal z)
unfolding IsIntegerJson
integer_text c (pos n) x p e = number_text c.shown c.members n x p e
integer_text c (negsuc n) x p e = e ∙ negative_text c.shown (negsuc n) p

pub integers_read : (c : ColumnView) (y z : ℤ) (x : List ℕ) → IsNumberAlone c.shown → mag y < 2 ^ 63 → mag z < 2 ^ 63 → IsIntegerJson c y x → IsIntegerJson c z x → y ≡ z
integers_read c y z x p a b e f = signed_decimal_injective y z a b (unwrap c.shown (signed_decimal y) (signed_decimal z) (sym (integer_text c y x p e) ∙ integer_text c z x p f))

pub numbers_read : (c : ColumnView) (m n : ℕ) (x : List ℕ) → IsNumberAlone c.shown → m < 2 ^ 64 → n < 2 ^ 64 → IsNumberJson c m x → IsNumberJson c n x → m ≡ n
numbers_read c m n x p a b e f = decimal_injective m n a b (unwrap c.shown (decimal m) (decimal n) (sym (number_text c.shown c.members m x p e) ∙ number_text c.shown c.members n x p f))

pub decimals_read : (a b x : List ℕ) → x ≡ in_quotes a → x ≡ in_quotes b → a ≡ b
decimals_read a b x e f = quotes_read a b (sym e ∙ f)

-- ---- years
year_cases : (m n y z : ℕ) (a b : List ℕ) → m < 256 → n < 256 → a ≡ decimal (1900 + m) → b ≡ decimal (1900 + n) → a ≡ decimal (1900 + y) → b ≡ decimal (1900 + z) → year_json y ≡ year_json z → a ≡ b
year_cases m n zero zero a b p q am bn ay bz e = ay ∙ sym bz
year_cases m n (suc y) (suc z) a b p q am bn ay bz e = ay ∙ e ∙ sym bz
year_cases m n zero (suc z) a b p q am bn ay bz e = absurd (let same = decimal_injective 0 (1900 + n) (omega arith) (omega (arith, q)) (e ∙ sym bz ∙ bn) in omega (arith, same))
year_cases m n (suc y) zero a b p q am bn ay bz e = absurd (let same = decimal_injective (1900 + m) 0 (omega (arith, p)) (omega arith) (sym am ∙ ay ∙ e) in omega (arith, same))

pub years_read : (m n : ℕ) (a b x : List ℕ) → m < 256 → n < 256 → a ≡ decimal (1900 + m) → b ≡ decimal (1900 + n) → IsYearJson a x → IsYearJson b x → a ≡ b
years_read m n a b x p q am bn e f = year_cases m n e.years f.years a b p q am bn e.is f.is (sym e.text ∙ f.text)

-- ---- text and bytes
abbrev pub IsTold : Shown → List ℕ → List ℕ → Type 0
IsTold s a b = IsSameCell s (bytes a) (bytes b)

pub same_bytes : (s : Shown) (a b : List ℕ) → a ≡ b → IsTold s a b
same_bytes s a b e = subst (IsTold s a) e equal

pub base64_whole : (a b x : List ℕ) → IsBytes a → IsBytes b → x ≡ base64_object a → x ≡ base64_object b → a ≡ b
base64_whole a b x p q e f = (base64_objects_read a b [] [] p q (append-nil (base64_object a) ∙ sym e ∙ f ∙ sym (append-nil (base64_object b)))).0

pub text_read : (set : CharacterSet) (a b x : List ℕ) → IsBytes a → IsBytes b → IsTextJson set a x → IsTextJson set b x → IsTold (shown.Text set) a b
text_read set a b x p q (inl e) (inl f) =
    let same = (strings_read e.0 f.0 [] [] (append-nil (json_string e.0) ∙ sym e.2 ∙ f.2 ∙ sym (append-nil (json_string f.0)))).0 in
    texts set e.0 refl e.1 (subst (IsTextOf set b) (sym same) f.1)
text_read set a b x p q (inl e) (inr f) = absurd (no_object e.0 b [] [] (append-nil (json_string e.0) ∙ sym e.2 ∙ f.1 ∙ sym (append-nil (base64_object b))))
text_read set a b x p q (inr e) (inl f) = absurd (no_object f.0 a [] [] (append-nil (json_string f.0) ∙ sym f.2 ∙ e.1 ∙ sym (append-nil (base64_object a))))
text_read set a b x p q (inr e) (inr f) = same_bytes (shown.Text set) a b (base64_whole a b x p q e.1 f.1)

-- a number of bits, or Base64 of more than eight bytes
no_brace : (n : ℕ) (b : List ℕ) → n < 2 ^ 64 → decimal n ≡ base64_object b → ⊥
unfolding base64_object
no_brace n b lt e = let no : true ≡ false = sym (first_digit n lt) ∙ ap (λ (l : List ℕ). is_digit (first l)) e in false≢true (sym no)

few_bound : (j v : ℕ) → j ≤ 8 → v < 256 ^ j → v < 2 ^ 64
few_bound zero v le lt = omega (arith, lt)
few_bound (suc zero) v le lt = omega (arith, lt)
few_bound (suc (suc zero)) v le lt = omega (arith, lt)
few_bound (suc (suc (suc zero))) v le lt = omega (arith, lt)
few_bound (suc (suc (suc (suc zero)))) v le lt = omega (arith, lt)
few_bound (suc (suc (suc (suc (suc zero))))) v le lt = omega (arith, lt)
few_bound (suc (suc (suc (suc (suc (suc zero)))))) v le lt = omega (arith, lt)
few_bound (suc (suc (suc (suc (suc (suc (suc zero))))))) v le lt = omega (arith, lt)
few_bound (suc (suc (suc (suc (suc (suc (suc (suc zero)))))))) v le lt = omega (arith, lt)
few_bound (suc (suc (suc (suc (suc (suc (suc (suc (suc i))))))))) v le lt = absurd (omega (arith, le))

pub few_small : (l : List ℕ) → AreBytes l → nat_le (length l) 8 ≡ true → big_number (length l) l < 2 ^ 64
few_small l r k = few_bound (length l) (big_number (length l) l) (leb_yes (subst T (sym k) tt)) (big_from-lt 0 (length l) l r)

few_read : (s : Shown) (a b x : List ℕ) → s ≡ shown.Bit → AreBytes a → AreBytes b → x ≡ of_few a (decimal (big_number (length a) a)) → x ≡ of_few b (decimal (big_number (length b) b)) → IsTold s a b
few_read s a b x h p q e f = go (nat_le (length a) 8) (nat_le (length b) 8) refl refl (sym e ∙ f)
  where
    go : (k l : Bool) → nat_le (length a) 8 ≡ k → nat_le (length b) 8 ≡ l → (if k then decimal (big_number (length a) a) else base64_object a) ≡ (if l then decimal (big_number (length b) b) else base64_object b) → IsTold s a b
    go true true i j g = bits h (decimal_injective (big_number (length a) a) (big_number (length b) b) (few_small a p i) (few_small b q j) g)
    go true false i j g = absurd (no_brace (big_number (length a) a) b (few_small a p i) g)
    go false true i j g = absurd (no_brace (big_number (length b) b) a (few_small b q j) (sym g))
    go false false i j g = same_bytes s a b (base64_whole a b (base64_object a) p q refl g)

pub bytes_read : (s : Shown) (members : List (List ℕ)) (a b x : List ℕ) → IsNoMember s → AreBytes a → AreBytes b → IsBytesShown s members a x → IsBytesShown s members b x → IsTold s a b
unfolding IsBytesShown
bytes_read (shown.Text set) members a b x k p q e f = text_read set a b x p q e f
bytes_read shown.Binary members a b x k p q e f = same_bytes shown.Binary a b (base64_strings_read a b [] [] p q (append-nil (base64_string a) ∙ sym e ∙ f ∙ sym (append-nil (base64_string b)))).0
bytes_read shown.Bit members a b x k p q e f = few_read shown.Bit a b x refl p q e f
bytes_read shown.Enum members a b x k p q e f = absurd k
bytes_read shown.Set members a b x k p q e f = absurd k
bytes_read shown.Plain members a b x k p q e f = same_bytes shown.Plain a b (base64_whole a b x p q e f)
bytes_read shown.Quoted members a b x k p q e f = same_bytes shown.Quoted a b (base64_whole a b x p q e f)
bytes_read shown.Unknown members a b x k p q e f = same_bytes shown.Unknown a b (base64_whole a b x p q e f)
bytes_read shown.Timestamp members a b x k p q e f = same_bytes shown.Timestamp a b (base64_whole a b x p q e f)

-- ---- any number that isn't negative
seconds_read : (m n : ℕ) (x : List ℕ) → m < 2 ^ 32 → n < 2 ^ 32 → IsSeconds (nat_lt m 4294967296) m x → IsSeconds (nat_lt n 4294967296) n x → m ≡ n
seconds_read m n x p q e f = (instants_read 0 m n (pos 0) (pos 0) x (omega (arith, p)) (omega (arith, q)) (omega arith) (omega arith) (as_instant m p e) (as_instant n q f)).0
  where
    as_instant : (k : ℕ) → k < 2 ^ 32 → IsSeconds (nat_lt k 4294967296) k x → IsInstant 0 k (pos 0) x
    as_instant k lt g = subst (λ (b : Bool). IsSeconds b k x) yes g
      where
        yes : nat_lt k 4294967296 ≡ true
        yes = grind arith

pub any_numbers_read : (s : Shown) (members : List (List ℕ)) (m n : ℕ) (x : List ℕ) → AreMembers members → m < 2 ^ 64 → n < 2 ^ 64 → (s ≡ shown.Timestamp → (m < 2 ^ 32) × (n < 2 ^ 32)) → IsNumberShown s members m x → IsNumberShown s members n x → m ≡ n
unfolding IsNumberShown IsSimpleNumber
any_numbers_read shown.Enum members m n x a p q t e f = enums_read members m n a p q (sym e ∙ f)
any_numbers_read shown.Set members m n x a p q t e f = sets_read members m n a p q (sym e ∙ f)
any_numbers_read shown.Timestamp members m n x a p q t e f = let below = t refl in seconds_read m n x below.0 below.1 e f
any_numbers_read shown.Quoted members m n x a p q t e f = decimal_injective m n p q (quotes_read (decimal m) (decimal n) (sym e ∙ f))
any_numbers_read shown.Plain members m n x a p q t e f = decimal_injective m n p q (sym e ∙ f)
any_numbers_read (shown.Text set) members m n x a p q t e f = decimal_injective m n p q (sym e ∙ f)
any_numbers_read shown.Binary members m n x a p q t e f = decimal_injective m n p q (sym e ∙ f)
any_numbers_read shown.Unknown members m n x a p q t e f = decimal_injective m n p q (sym e ∙ f)
any_numbers_read shown.Bit members m n x a p q t e f = decimal_injective m n p q (sym e ∙ f)
