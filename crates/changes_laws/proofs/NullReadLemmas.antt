-- No value but NULL has the JSON null.
use Rattle.std.proofs.Common.{◌≡◌, ℕ, zero, suc, ◌+◌, ◌<◌, ◌^◌, Bool, true, false, ◌||◌, List, [], ◌∷◌, ◌++◌, length, refl, sym, ap, ◌∙◌, subst, arith, inl, inr}
use Rattle.std.specs.Prelude.{ℤ, pos, negsuc, ◌==◌, if◌then◌else◌, nat_lt, nat_le, slice_index_or}
use Rattle.std.specs.Fmt.{decimal, sign_text}
use Rattle.std.specs.Str.Parse.{IsNumeral}
use Rattle.std.specs.Char.{digit_value}
use Rattle.std.specs.Float.{float_is_finite}
use Rattle.std.specs.Float.Ieee.{Float, Format}
use Rattle.std.proofs.lemmas.Bool.{cases_lt, false≢true}
use Rattle.std.proofs.lemmas.List.{get_or_past}
use lib.Signed.{mag}
use Rattle.byteorder.specs.Endian.{big_number}
use Rattle.wire_buf.specs.Encoding.{AreBytes}
use Rattle.rows_cells.specs.declared.format.Width.TheVariants as width
use Rattle.rows_cells.specs.declared.format.CellFormat.{CellFormat}
use Rattle.rows_cells.specs.declared.format.CellFormat.TheVariants as format
use Rattle.rows_cells.specs.CellValues.{CellValue}
use Rattle.changes_character_sets.specs.declared.character_set.CharacterSet.{CharacterSet}
use Rattle.changes_tables.specs.ShownColumns.{ColumnView}
use Rattle.changes_tables.specs.declared.columns.Shown.{Shown}
use Rattle.changes_tables.specs.declared.columns.Shown.TheVariants as shown
use Rattle.changes_writers.specs.Base64Texts.{base64_object, base64_string}
use Rattle.changes_writers.specs.FloatTexts.{IsFloatText}
use Rattle.changes_writers.specs.JsonNumbers.{IsJsonNumber}
use Rattle.changes_writers.specs.JsonStrings.{json_string}
use Rattle.changes_writers.specs.TimeStrings.{date_json}
use Rattle.changes_writers.proofs.FloatLawLemmas.{float_number}
use Rattle.ryu.specs.Plain.{word_of}
use Rattle.changes_cells.specs.CellJson.{member_json, members_json, IsSeconds, IsSimpleNumber, IsNumberShown, IsIntegerJson, negative_json, IsTextJson, of_few, IsBytesShown, year_json, IsBytesJson, date_shown, IsCellJson}
use Rattle.changes_laws.specs.SameCells.{AreMembers, begins_as_member, IsFormatOf, IsNoMember}
use Rattle.changes_laws.proofs.CellLawLemmas.{IsKnown, clock_in}
use Rattle.changes_laws.proofs.CellReadLemmas.{few_small}
use Rattle.changes_laws.proofs.DateReadLemmas.{is_digit, datetime_text, duration_text}
use Rattle.changes_laws.proofs.InstantReadLemmas.{instant_quoted}
use Rattle.changes_laws.proofs.TimestampReadLemmas.{timestamp_quoted}
use Rattle.changes_laws.proofs.MemberReadLemmas.{first, first_digit}

-- ---- the first byte isn't that of null
from_digit : (x : List ℕ) → is_digit (first x) ≡ true → first x ≡ 110 → ⊥
from_digit x h e = false≢true (subst (λ (b : ℕ). is_digit b ≡ true) e h)

from_number : (x y : List ℕ) (n : ℕ) → n < 2 ^ 64 → x ≡ decimal n → first x ≡ 110 → ⊥
from_number x y n lt e = from_digit x (subst (λ (t : List ℕ). is_digit (first t) ≡ true) (sym e) (first_digit n lt))

from_byte : (x t : List ℕ) (b : ℕ) → x ≡ b ∷ t → (b ≡ 110 → ⊥) → first x ≡ 110 → ⊥
from_byte x t b e h f = h (sym (ap first e) ∙ f)

from_quote : (x t : List ℕ) → x ≡ 34 ∷ t → first x ≡ 110 → ⊥
from_quote x t e = from_byte x t 34 e (λ f. absurd (omega (arith, f)))

from_string : (x s : List ℕ) → x ≡ json_string s → first x ≡ 110 → ⊥
unfolding json_string
from_string x s e = from_quote x _ e

from_base64 : (x b : List ℕ) → x ≡ base64_string b → first x ≡ 110 → ⊥
unfolding base64_string
from_base64 x b e = from_string x _ e

from_object : (x b : List ℕ) → x ≡ base64_object b → first x ≡ 110 → ⊥
unfolding base64_object
from_object x b e = from_byte x _ 123 e (λ f. absurd (omega (arith, f)))

from_member : (x : List ℕ) → begins_as_member x ≡ true → first x ≡ 110 → ⊥
from_member [] h e = false≢true h
from_member (b ∷ bs) h e = false≢true (subst (λ (k : ℕ). (k == 34 || k == 123) ≡ true) e h)

-- ---- numbers
member_or_number : (members : List (List ℕ)) (k n : ℕ) → AreMembers members → n < 2 ^ 64 → first (slice_index_or members k (decimal n)) ≡ 110 → ⊥
member_or_number members k n a lt = elim (cases_lt k (length members)) [
  | inl inside ↦ from_member (slice_index_or members k (decimal n)) (a.begin k (decimal n) inside)
  | inr out ↦ from_number (slice_index_or members k (decimal n)) [] n lt (get_or_past members k (decimal n) out)
]

from_enum : (x : List ℕ) (members : List (List ℕ)) (n : ℕ) → AreMembers members → n < 2 ^ 64 → x ≡ member_json members n → first x ≡ 110 → ⊥
from_enum x members zero a lt e f = from_number x [] 0 (omega arith) e f
from_enum x members (suc k) a lt e f = member_or_number members k (suc k) a lt (sym (ap first e) ∙ f)

from_set : (x : List ℕ) (members : List (List ℕ)) (n : ℕ) → n < 2 ^ 64 → x ≡ members_json members n → first x ≡ 110 → ⊥
unfolding members_json
from_set x [] n lt e = from_number x [] n lt e
from_set x (m ∷ ms) n lt e = from_byte x _ 91 e (λ f. absurd (omega (arith, f)))

from_seconds : (b : Bool) (n : ℕ) (x : List ℕ) → n < 2 ^ 64 → IsSeconds b n x → first x ≡ 110 → ⊥
from_seconds true n x lt e = let q = instant_quoted 0 n (pos 0) x e in from_quote x q.0 q.1
from_seconds false n x lt e = from_number x [] n lt e

from_any_number : (s : Shown) (members : List (List ℕ)) (n : ℕ) (x : List ℕ) → AreMembers members → n < 2 ^ 64 → IsNumberShown s members n x → first x ≡ 110 → ⊥
unfolding IsNumberShown IsSimpleNumber
from_any_number shown.Enum members n x a lt e = from_enum x members n a lt e
from_any_number shown.Set members n x a lt e = from_set x members n lt e
from_any_number shown.Timestamp members n x a lt e = from_seconds (nat_lt n 4294967296) n x lt e
from_any_number shown.Quoted members n x a lt e = from_quote x _ e
from_any_number shown.Plain members n x a lt e = from_number x [] n lt e
from_any_number (shown.Text set) members n x a lt e = from_number x [] n lt e
from_any_number shown.Binary members n x a lt e = from_number x [] n lt e
from_any_number shown.Unknown members n x a lt e = from_number x [] n lt e
from_any_number shown.Bit members n x a lt e = from_number x [] n lt e

from_negative : (s : Shown) (n : ℕ) (x : List ℕ) → x ≡ negative_json s (negsuc n) → first x ≡ 110 → ⊥
from_negative shown.Quoted n x e = from_quote x _ e
from_negative shown.Plain n x e = from_byte x _ 45 e (λ f. absurd (omega (arith, f)))
from_negative (shown.Text set) n x e = from_byte x _ 45 e (λ f. absurd (omega (arith, f)))
from_negative shown.Binary n x e = from_byte x _ 45 e (λ f. absurd (omega (arith, f)))
from_negative shown.Unknown n x e = from_byte x _ 45 e (λ f. absurd (omega (arith, f)))
from_negative shown.Timestamp n x e = from_byte x _ 45 e (λ f. absurd (omega (arith, f)))
from_negative shown.Bit n x e = from_byte x _ 45 e (λ f. absurd (omega (arith, f)))
from_negative shown.Enum n x e = from_byte x _ 45 e (λ f. absurd (omega (arith, f)))
from_negative shown.Set n x e = from_byte x _ 45 e (λ f. absurd (omega (arith, f)))

from_integer : (c : ColumnView) (z : ℤ) (x : List ℕ) → AreMembers c.members → mag z < 2 ^ 63 → IsIntegerJson c z x → first x ≡ 110 → ⊥
unfolding IsIntegerJson
from_integer c (pos n) x a lt e = from_any_number c.shown c.members n x a (omega (arith, lt)) e
from_integer c (negsuc n) x a lt e = from_negative c.shown n x e

-- ---- floats
from_numeral : (s t : List ℕ) → IsNumeral 10 s → first (s ++ t) ≡ 110 → ⊥
from_numeral [] t h e = absurd (omega (arith, h.0))
from_numeral (c ∷ s) t h e = let no : 23 < 10 = subst (λ (k : ℕ). digit_value k < 10) e h.1.0 in absurd (omega (arith, no))

from_json_number : (x : List ℕ) → IsJsonNumber x → first x ≡ 110 → ⊥
from_json_number x n e = go n.negative (sym (ap first n.is) ∙ e)
  where
    go : (b : Bool) → first (sign_text b ++ (n.whole ++ (n.fraction ++ n.exponent))) ≡ 110 → ⊥
    go true h = absurd (omega (arith, h))
    go false h = from_numeral n.whole (n.fraction ++ n.exponent) n.whole_is h

from_float : (f : Format) (w z : ℕ) (y : Float) (x : List ℕ) → IsFloatText f w z y x → first x ≡ 110 → ⊥
from_float f w z y x t = go (float_is_finite y) refl
  where
    go : (b : Bool) → float_is_finite y ≡ b → first x ≡ 110 → ⊥
    go true h = from_json_number x (float_number f w z y x h t)
    go false h = from_string x (word_of y) (t.word h)

-- ---- bytes
from_text : (set : CharacterSet) (b x : List ℕ) → IsTextJson set b x → first x ≡ 110 → ⊥
from_text set b x (inl h) = from_string x h.0 h.2
from_text set b x (inr h) = from_object x b h.1

from_few : (b x : List ℕ) → AreBytes b → x ≡ of_few b (decimal (big_number (length b) b)) → first x ≡ 110 → ⊥
from_few b x h e = go (nat_le (length b) 8) refl e
  where
    go : (k : Bool) → nat_le (length b) 8 ≡ k → x ≡ (if k then decimal (big_number (length b) b) else base64_object b) → first x ≡ 110 → ⊥
    go true f g = from_number x [] (big_number (length b) b) (few_small b h f) g
    go false f g = from_object x b g

from_bytes : (s : Shown) (members : List (List ℕ)) (b x : List ℕ) → IsNoMember s → AreBytes b → IsBytesShown s members b x → first x ≡ 110 → ⊥
unfolding IsBytesShown
from_bytes (shown.Text set) members b x k h e = from_text set b x e
from_bytes shown.Binary members b x k h e = from_base64 x b e
from_bytes shown.Bit members b x k h e = from_few b x h e
from_bytes shown.Enum members b x k h e = absurd k
from_bytes shown.Set members b x k h e = absurd k
from_bytes shown.Plain members b x k h e = from_object x b e
from_bytes shown.Quoted members b x k h e = from_object x b e
from_bytes shown.Unknown members b x k h e = from_object x b e
from_bytes shown.Timestamp members b x k h e = from_object x b e

from_year : (b x : List ℕ) (n y : ℕ) → n < 256 → b ≡ decimal (1900 + n) → b ≡ decimal (1900 + y) → x ≡ year_json y → first x ≡ 110 → ⊥
from_year b x n zero lt e f g = from_number x [] 0 (omega arith) g
from_year b x n (suc y) lt e f g = from_number x [] (1900 + n) (omega (arith, lt)) (g ∙ sym f ∙ e)

-- ---- the law
pub not_null : (c : ColumnView) (f : CellFormat) (v : CellValue) (x : List ℕ) → IsFormatOf c.shown f → AreMembers c.members → IsKnown f v → IsCellJson c f v x → first x ≡ 110 → ⊥
unfolding IsCellJson IsBytesJson date_shown date_json
not_null c (format.Signed w) v x p a k e = from_integer c k.0 x a k.2 (subst (λ (y : CellValue). IsCellJson c (format.Signed w) y x) k.1 e)
not_null c (format.Unsigned width.Eight) v x p a k e = from_any_number c.shown c.members k.0 x a k.2 (subst (λ (y : CellValue). IsCellJson c (format.Unsigned width.Eight) y x) k.1 e)
not_null c (format.Unsigned width.One) v x p a k e = from_integer c (pos k.0) x a (omega (arith, k.2)) (subst (λ (y : CellValue). IsCellJson c (format.Unsigned width.One) y x) k.1 e)
not_null c (format.Unsigned width.Two) v x p a k e = from_integer c (pos k.0) x a (omega (arith, k.2)) (subst (λ (y : CellValue). IsCellJson c (format.Unsigned width.Two) y x) k.1 e)
not_null c (format.Unsigned width.Three) v x p a k e = from_integer c (pos k.0) x a (omega (arith, k.2)) (subst (λ (y : CellValue). IsCellJson c (format.Unsigned width.Three) y x) k.1 e)
not_null c (format.Unsigned width.Four) v x p a k e = from_integer c (pos k.0) x a (omega (arith, k.2)) (subst (λ (y : CellValue). IsCellJson c (format.Unsigned width.Four) y x) k.1 e)
not_null c format.Float v x p a k e = from_float _ _ _ _ x (subst (λ (y : CellValue). IsCellJson c format.Float y x) k.1 e)
not_null c format.Double v x p a k e = from_float _ _ _ _ x (subst (λ (y : CellValue). IsCellJson c format.Double y x) k.1 e)
not_null c format.Year v x p a k e = let y = subst (λ (y : CellValue). IsCellJson c format.Year y x) k.2 e in from_year (decimal (1900 + k.0)) x k.0 y.years k.1 refl y.is y.text
not_null c format.NewDate v x p a k e = from_string x _ (subst (λ (y : CellValue). IsCellJson c format.NewDate y x) k.2 e)
not_null c format.OldTime v x p a k e = from_quote x _ (subst (λ (y : CellValue). IsCellJson c format.OldTime y x) k.is e ∙ duration_text 0 k.negative (clock_in k.days k.hours k.minutes k.seconds k.micros))
not_null c format.OldDatetime v x p a k e = from_quote x _ (subst (λ (y : CellValue). IsCellJson c format.OldDatetime y x) k.is e ∙ datetime_text 0 k.day k.clock)
not_null c (format.Timestamp2 digits) v x p a k e = let q = timestamp_quoted digits _ x (subst (λ (y : CellValue). IsCellJson c (format.Timestamp2 digits) y x) k.is e) in from_quote x q.0 q.1
not_null c (format.Datetime2 digits) v x p a k e = from_quote x _ (subst (λ (y : CellValue). IsCellJson c (format.Datetime2 digits) y x) k.is e ∙ datetime_text digits k.day k.clock)
not_null c (format.Time2 digits) v x p a k e = from_quote x _ (subst (λ (y : CellValue). IsCellJson c (format.Time2 digits) y x) k.is e ∙ duration_text digits k.negative (clock_in k.days k.hours k.minutes k.seconds k.micros))
not_null c (format.Decimal i j) v x p a k e = from_quote x _ (subst (λ (y : CellValue). IsCellJson c (format.Decimal i j) y x) k.1 e)
not_null c (format.Plain n) v x p a k e = from_bytes c.shown c.members k.0 x p k.1 (subst (λ (y : CellValue). IsCellJson c (format.Plain n) y x) k.2 e)
not_null c (format.Counted n) v x p a k e = from_bytes c.shown c.members k.0 x p k.1 (subst (λ (y : CellValue). IsCellJson c (format.Counted n) y x) k.2 e)
not_null c format.Json v x p a k e = absurd p
not_null c format.JsonDiffs v x p a k e = absurd p
not_null c format.NoMetadata v x p a k e = absurd p
not_null c format.NoCells v x p a k e = absurd p
