-- The JSON of a cell is JSON of RFC 8259.
use Rattle.std.proofs.Common.{◌≡◌, ℕ, zero, suc, ◌+◌, ◌*◌, ◌<◌, ◌≤◌, ◌^◌, Bool, true, false, ◌&&◌, T, List, [], ◌∷◌, ◌++◌, map, length, ltb, refl, sym, subst, arith, inl, inr}
use Rattle.std.specs.Prelude.{ℤ, pos, negsuc, if◌then◌else◌, slice_index_or, nat_lt, nat_le}
use Rattle.std.specs.List.{filter, range_with_len}
use Rattle.std.specs.Fmt.{decimal, sign_text, signed_decimal}
use Rattle.std.proofs.Math.Facts.{leb_yes, ltb_yes}
use lib.Signed.{mag}
use Rattle.byteorder.specs.Endian.{big_number, little_number}
use Rattle.byteorder.specs.Numbers.{big_from-lt, little_from-lt}
use Rattle.wire_buf.specs.Encoding.{AreBytes}
use Rattle.rows_cells.specs.declared.format.CellFormat.{CellFormat}
use Rattle.rows_cells.specs.declared.format.CellFormat.TheVariants as format
use Rattle.rows_cells.specs.CellValues.{CellValue, null, bytes, int, uint, float, double, date, time, json, json_diffs}
use Rattle.feed_writers.specs.TimesOfDay.{day_text}
use Rattle.feed_writers.specs.declared.times.Clock.{Clock}
use Rattle.feed_writers.specs.declared.times.Day.{Day}
use Rattle.changes_character_sets.specs.declared.character_set.CharacterSet.{CharacterSet}
use Rattle.changes_character_sets.proofs.TextLemmas.{text_is_utf8}
use Rattle.changes_tables.specs.ShownColumns.{ColumnView}
use Rattle.changes_tables.specs.declared.columns.Shown.{Shown}
use Rattle.changes_tables.specs.declared.columns.Shown.TheVariants as shown
use Rattle.changes_writers.specs.Base64Texts.{base64_object}
use Rattle.changes_writers.specs.TimeStrings.{datetime_json, duration_json}
use Rattle.changes_cells.specs.CellJson.{member_json, bit_json, has_bit, members_json, IsSeconds, IsSimpleNumber, IsNumberShown, negative_json, IsIntegerJson, IsTextJson, of_few, IsBytesShown, year_json, IsBytesJson, fraction_digits, date_shown, IsCellJson}
use Rattle.changes_cells.specs.ShownTimes.{in_quotes, shown_digits, time_and_number, numbered_datetime, shown_datetime, shown_duration, IsDatetimeWith, IsUtc, IsInstant}
use Rattle.changes_laws.proofs.WrittenJson.{IsJson, AllJson, joined_array, null_json, string_json}
use Rattle.changes_laws.proofs.NumberGrammarLemmas.{decimal_json, signed_json}
use Rattle.changes_laws.proofs.PlainGrammarLemmas.{Plain, plain_append, clock_plain, day_plain, sign_plain, signed_plain, decimal_plain, quoted_json, date_is_json, datetime_is_json, duration_is_json, base64_string_json, base64_object_json, float_json}
use Rattle.changes_laws.proofs.DocumentGrammarLemmas.{document_json}
use Rattle.changes_laws.proofs.UpdateGrammarLemmas.{diffs_json, diffs_sound}
use Rattle.changes_laws.proofs.SoundCellLemmas.{IsSoundBytes, IsSoundCell}
use Rattle.changes_laws.proofs.SoundDocumentLemmas.{document_tree_sound}

-- ---- dates and times
number_plain : (c : Clock) (z : ℤ) → Plain (time_and_number c z)
unfolding time_and_number
number_plain c z = clock_plain c.hour c.minute c.second (46 ∷ signed_decimal z) (refl, signed_plain z)

numbered_json : (P : Type 0) (d : Day) (c : Clock) (z : ℤ) → IsJson P (numbered_datetime d c z)
numbered_json P d c z = quoted_json P (day_text d ++ 32 ∷ time_and_number c z) (plain_append (day_text d) (32 ∷ time_and_number c z) (day_plain d) (refl, number_plain c z))

choice : (P : Type 0) (b : Bool) (x y : List ℕ) → IsJson P x → IsJson P y → IsJson P (if b then x else y)
choice P true x y j k = j
choice P false x y j k = k

shown_datetime_json : (P : Type 0) (digits : ℕ) (d : Day) (c : Clock) → IsJson P (shown_datetime digits d c)
unfolding shown_datetime
shown_datetime_json P digits d c =
    choice P (nat_lt c.micros 1000000) (datetime_json (shown_digits digits c.micros) d c) (numbered_datetime d c (pos c.micros)) (datetime_is_json P (shown_digits digits c.micros) d c) (numbered_json P d c (pos c.micros))

shown_duration_json : (P : Type 0) (digits : ℕ) (negative : Bool) (c : Clock) → IsJson P (shown_duration digits negative c)
unfolding shown_duration
shown_duration_json P digits negative c =
    choice P (nat_lt c.micros 1000000) (duration_json (shown_digits digits c.micros) negative c) (in_quotes (sign_text negative ++ time_and_number c (pos c.micros))) (duration_is_json P (shown_digits digits c.micros) negative c)
    (quoted_json P (sign_text negative ++ time_and_number c (pos c.micros)) (plain_append (sign_text negative) (time_and_number c (pos c.micros)) (sign_plain negative) (number_plain c (pos c.micros))))

with_micros : (P : Type 0) (digits : ℕ) (d : Day) (c : Clock) (z : ℤ) (x : List ℕ) → IsDatetimeWith digits d c z x → IsJson P x
with_micros P digits d c (pos n) x h = subst (IsJson P) (sym h.1) (shown_datetime_json P digits d c)
with_micros P digits d c (negsuc n) x h = subst (IsJson P) (sym h) (numbered_json P d c (negsuc n))

utc_json : (P : Type 0) (digits seconds : ℕ) (micros : ℤ) (x : List ℕ) → IsUtc digits seconds micros x → IsJson P x
utc_json P digits seconds micros x h = with_micros P digits h.day h.clock micros x h.text

instant_json : (P : Type 0) (digits seconds : ℕ) (micros : ℤ) (x : List ℕ) → IsInstant digits seconds micros x → IsJson P x
unfolding IsInstant
instant_json P digits zero (pos zero) x h = subst (IsJson P) (sym h) (shown_datetime_json P digits (record { year = 0; month = 0; day = 0 }) (record { hour = 0; minute = 0; second = 0; micros = 0 }))
instant_json P digits zero (pos (suc n)) x h = utc_json P digits 0 (pos (suc n)) x h
instant_json P digits zero (negsuc n) x h = utc_json P digits 0 (negsuc n) x h
instant_json P digits (suc seconds) micros x h = utc_json P digits (suc seconds) micros x h

date_json_of : (P : Type 0) (f : CellFormat) (d : Day) (c : Clock) → IsJson P (date_shown f d c)
unfolding date_shown
date_json_of P format.NewDate d c = date_is_json P d
date_json_of P (format.Signed w) d c = shown_datetime_json P 0 d c
date_json_of P (format.Unsigned w) d c = shown_datetime_json P 0 d c
date_json_of P format.Float d c = shown_datetime_json P 0 d c
date_json_of P format.Double d c = shown_datetime_json P 0 d c
date_json_of P format.Year d c = shown_datetime_json P 0 d c
date_json_of P format.OldTime d c = shown_datetime_json P 0 d c
date_json_of P format.OldDatetime d c = shown_datetime_json P 0 d c
date_json_of P (format.Timestamp2 n) d c = shown_datetime_json P 0 d c
date_json_of P (format.Datetime2 n) d c = shown_datetime_json P n d c
date_json_of P (format.Time2 n) d c = shown_datetime_json P n d c
date_json_of P (format.Decimal p s) d c = shown_datetime_json P 0 d c
date_json_of P (format.Plain n) d c = shown_datetime_json P 0 d c
date_json_of P (format.Counted w) d c = shown_datetime_json P 0 d c
date_json_of P format.Json d c = shown_datetime_json P 0 d c
date_json_of P format.JsonDiffs d c = shown_datetime_json P 0 d c
date_json_of P format.NoMetadata d c = shown_datetime_json P 0 d c
date_json_of P format.NoCells d c = shown_datetime_json P 0 d c

-- ---- members
pub member_or : (P : Type 0) (members : List (List ℕ)) (k : ℕ) (other : List ℕ) → AllJson P members → IsJson P other → IsJson P (slice_index_or members k other)
member_or P [] k other all j = j
member_or P (m ∷ ms) zero other all j = all.0
member_or P (m ∷ ms) (suc k) other all j = member_or P ms k other all.1 j

one_member_json : (P : Type 0) (members : List (List ℕ)) (n : ℕ) → AllJson P members → n < 10 ^ 64 → IsJson P (member_json members n)
one_member_json P members zero all h = decimal_json P 0 (omega arith)
one_member_json P members (suc k) all h = member_or P members k (decimal (suc k)) all (decimal_json P (suc k) h)

abbrev all_small : List ℕ → Bool
all_small [] = true
all_small (i ∷ is) = ltb (2 ^ i) (10 ^ 64) && all_small is

both : (a b : Bool) → T (a && b) → T a × T b
both true b h = (tt, h)
both false b h = absurd h

bits_json : (P : Type 0) (members : List (List ℕ)) (bits : ℕ) (is : List ℕ) → AllJson P members → T (all_small is) → AllJson P (map (bit_json members) (filter (has_bit bits) is))
bits_json P members bits [] all h = tt
bits_json P members bits (i ∷ is) all h =
    let p = both (ltb (2 ^ i) (10 ^ 64)) (all_small is) h in
    go (has_bit bits i) (member_or P members i (decimal (2 ^ i)) all (decimal_json P (2 ^ i) (ltb_yes p.0))) (bits_json P members bits is all p.1)
  where
    go : (b : Bool) → IsJson P (bit_json members i) → AllJson P (map (bit_json members) (filter (has_bit bits) is))
        → AllJson P (map (bit_json members) (if b then i ∷ filter (has_bit bits) is else filter (has_bit bits) is))
    go true j more = (j, more)
    go false j more = more

set_json : (P : Type 0) (members : List (List ℕ)) (bits : ℕ) → AllJson P members → bits < 10 ^ 64 → IsJson P (members_json members bits)
unfolding members_json
set_json P [] bits all h = decimal_json P bits h
set_json P (m ∷ ms) bits all h = joined_array P (map (bit_json (m ∷ ms)) (filter (has_bit bits) (range_with_len 0 64))) (bits_json P (m ∷ ms) bits (range_with_len 0 64) all tt)

-- ---- numbers
seconds_json : (P : Type 0) (b : Bool) (n : ℕ) (x : List ℕ) → n < 10 ^ 64 → IsSeconds b n x → IsJson P x
seconds_json P true n x h e = instant_json P 0 n (pos 0) x e
seconds_json P false n x h e = subst (IsJson P) (sym e) (decimal_json P n h)

simple_json : (P : Type 0) (s : Shown) (n : ℕ) (x : List ℕ) → n < 10 ^ 64 → IsSimpleNumber s n x → IsJson P x
unfolding IsSimpleNumber
simple_json P shown.Timestamp n x h e = seconds_json P (nat_lt n 4294967296) n x h e
simple_json P shown.Quoted n x h e = subst (IsJson P) (sym e) (quoted_json P (decimal n) (decimal_plain n))
simple_json P shown.Plain n x h e = subst (IsJson P) (sym e) (decimal_json P n h)
simple_json P (shown.Text set) n x h e = subst (IsJson P) (sym e) (decimal_json P n h)
simple_json P shown.Binary n x h e = subst (IsJson P) (sym e) (decimal_json P n h)
simple_json P shown.Unknown n x h e = subst (IsJson P) (sym e) (decimal_json P n h)
simple_json P shown.Bit n x h e = subst (IsJson P) (sym e) (decimal_json P n h)
simple_json P shown.Enum n x h e = subst (IsJson P) (sym e) (decimal_json P n h)
simple_json P shown.Set n x h e = subst (IsJson P) (sym e) (decimal_json P n h)

number_shown_json : (P : Type 0) (s : Shown) (members : List (List ℕ)) (n : ℕ) (x : List ℕ) → AllJson P members → n < 10 ^ 64 → IsNumberShown s members n x → IsJson P x
unfolding IsNumberShown
number_shown_json P shown.Enum members n x all h e = subst (IsJson P) (sym e) (one_member_json P members n all h)
number_shown_json P shown.Set members n x all h e = subst (IsJson P) (sym e) (set_json P members n all h)
number_shown_json P shown.Timestamp members n x all h e = simple_json P shown.Timestamp n x h e
number_shown_json P shown.Quoted members n x all h e = simple_json P shown.Quoted n x h e
number_shown_json P shown.Plain members n x all h e = simple_json P shown.Plain n x h e
number_shown_json P (shown.Text set) members n x all h e = simple_json P (shown.Text set) n x h e
number_shown_json P shown.Binary members n x all h e = simple_json P shown.Binary n x h e
number_shown_json P shown.Unknown members n x all h e = simple_json P shown.Unknown n x h e
number_shown_json P shown.Bit members n x all h e = simple_json P shown.Bit n x h e

negative_is_json : (P : Type 0) (s : Shown) (z : ℤ) → mag z < 10 ^ 63 → IsJson P (negative_json s z)
negative_is_json P shown.Quoted z h = quoted_json P (signed_decimal z) (signed_plain z)
negative_is_json P shown.Timestamp z h = signed_json P z h
negative_is_json P shown.Plain z h = signed_json P z h
negative_is_json P (shown.Text set) z h = signed_json P z h
negative_is_json P shown.Binary z h = signed_json P z h
negative_is_json P shown.Unknown z h = signed_json P z h
negative_is_json P shown.Bit z h = signed_json P z h
negative_is_json P shown.Enum z h = signed_json P z h
negative_is_json P shown.Set z h = signed_json P z h

integer_json : (P : Type 0) (c : ColumnView) (z : ℤ) (x : List ℕ) → AllJson P c.members → mag z < 10 ^ 63 → IsIntegerJson c z x → IsJson P x
unfolding IsIntegerJson
integer_json P c (pos n) x all h e = number_shown_json P c.shown c.members n x all (omega (arith, h)) e
integer_json P c (negsuc n) x all h e = subst (IsJson P) (sym e) (negative_is_json P c.shown (negsuc n) h)

-- ---- bytes
text_json : (P : Type 0) (set : CharacterSet) (b x : List ℕ) → IsTextJson set b x → IsJson P x
text_json P set b x (inl h) = subst (IsJson P) (sym h.2) (string_json P h.0 (text_is_utf8 set b h.0 h.1))
text_json P set b x (inr h) = subst (IsJson P) (sym h.1) (base64_object_json P b)

few_json : (P : Type 0) (b text : List ℕ) → (length b ≤ 8 → IsJson P text) → IsJson P (of_few b text)
few_json P b text j = go (nat_le (length b) 8) refl
  where
    go : (t : Bool) → nat_le (length b) 8 ≡ t → IsJson P (if t then text else base64_object b)
    go true e = j (leb_yes (subst T (sym e) tt))
    go false e = base64_object_json P b

small : (k n : ℕ) → k ≤ 8 → n < 256 ^ k → n < 10 ^ 64
small zero n k h = omega (arith, h)
small (suc zero) n k h = omega (arith, h)
small (suc (suc zero)) n k h = omega (arith, h)
small (suc (suc (suc zero))) n k h = omega (arith, h)
small (suc (suc (suc (suc zero)))) n k h = omega (arith, h)
small (suc (suc (suc (suc (suc zero))))) n k h = omega (arith, h)
small (suc (suc (suc (suc (suc (suc zero)))))) n k h = omega (arith, h)
small (suc (suc (suc (suc (suc (suc (suc zero))))))) n k h = omega (arith, h)
small (suc (suc (suc (suc (suc (suc (suc (suc zero)))))))) n k h = omega (arith, h)
small (suc (suc (suc (suc (suc (suc (suc (suc (suc j))))))))) n k h = absurd (omega (arith, k))

big_small : (b : List ℕ) → AreBytes b → length b ≤ 8 → big_number (length b) b < 10 ^ 64
big_small b h le = small (length b) (big_number (length b) b) le (big_from-lt 0 (length b) b h)

little_small : (b : List ℕ) → AreBytes b → length b ≤ 8 → little_number (length b) b < 10 ^ 64
little_small b h le = small (length b) (little_number (length b) b) le (little_from-lt 0 (length b) b h)

bytes_shown_json : (P : Type 0) (s : Shown) (members : List (List ℕ)) (b x : List ℕ) → AllJson P members → AreBytes b → IsBytesShown s members b x → IsJson P x
unfolding IsBytesShown
bytes_shown_json P (shown.Text set) members b x all h e = text_json P set b x e
bytes_shown_json P shown.Binary members b x all h e = subst (IsJson P) (sym e) (base64_string_json P b)
bytes_shown_json P shown.Bit members b x all h e = subst (IsJson P) (sym e) (few_json P b (decimal (big_number (length b) b)) (λ le. decimal_json P (big_number (length b) b) (big_small b h le)))
bytes_shown_json P shown.Enum members b x all h e = subst (IsJson P) (sym e) (few_json P b (member_json members (little_number (length b) b)) (λ le. one_member_json P members (little_number (length b) b) all (little_small b h le)))
bytes_shown_json P shown.Set members b x all h e = subst (IsJson P) (sym e) (few_json P b (members_json members (little_number (length b) b)) (λ le. set_json P members (little_number (length b) b) all (little_small b h le)))
bytes_shown_json P shown.Timestamp members b x all h e = subst (IsJson P) (sym e) (base64_object_json P b)
bytes_shown_json P shown.Quoted members b x all h e = subst (IsJson P) (sym e) (base64_object_json P b)
bytes_shown_json P shown.Plain members b x all h e = subst (IsJson P) (sym e) (base64_object_json P b)
bytes_shown_json P shown.Unknown members b x all h e = subst (IsJson P) (sym e) (base64_object_json P b)

year_is_json : (P : Type 0) (b : List ℕ) (years : ℕ) → IsJson P b → b ≡ decimal (1900 + years) → IsJson P (year_json years)
year_is_json P b zero j e = decimal_json P 0 (omega arith)
year_is_json P b (suc y) j e = subst (IsJson P) e j

bytes_json : (P : Type 0) (c : ColumnView) (f : CellFormat) (b x : List ℕ) → AllJson P c.members → IsSoundBytes f b → IsBytesJson c f b x → IsJson P x
unfolding IsBytesJson
bytes_json P c (format.Timestamp2 digits) b x all h e = instant_json P digits _ e.micros x e.text
bytes_json P c format.Year b x all h e = subst (IsJson P) (sym e.text) (year_is_json P b e.years (subst (IsJson P) (sym h.2) (decimal_json P (1900 + h.0) (omega (arith, h.1)))) e.is)
bytes_json P c (format.Decimal precision scale) b x all h e = subst (IsJson P) (sym e) (quoted_json P b h)
bytes_json P c (format.Signed w) b x all h e = bytes_shown_json P c.shown c.members b x all h e
bytes_json P c (format.Unsigned w) b x all h e = bytes_shown_json P c.shown c.members b x all h e
bytes_json P c format.Float b x all h e = bytes_shown_json P c.shown c.members b x all h e
bytes_json P c format.Double b x all h e = bytes_shown_json P c.shown c.members b x all h e
bytes_json P c format.NewDate b x all h e = bytes_shown_json P c.shown c.members b x all h e
bytes_json P c format.OldTime b x all h e = bytes_shown_json P c.shown c.members b x all h e
bytes_json P c format.OldDatetime b x all h e = bytes_shown_json P c.shown c.members b x all h e
bytes_json P c (format.Datetime2 n) b x all h e = bytes_shown_json P c.shown c.members b x all h e
bytes_json P c (format.Time2 n) b x all h e = bytes_shown_json P c.shown c.members b x all h e
bytes_json P c (format.Plain n) b x all h e = bytes_shown_json P c.shown c.members b x all h e
bytes_json P c (format.Counted w) b x all h e = bytes_shown_json P c.shown c.members b x all h e
bytes_json P c format.Json b x all h e = bytes_shown_json P c.shown c.members b x all h e
bytes_json P c format.JsonDiffs b x all h e = bytes_shown_json P c.shown c.members b x all h e
bytes_json P c format.NoMetadata b x all h e = bytes_shown_json P c.shown c.members b x all h e
bytes_json P c format.NoCells b x all h e = bytes_shown_json P c.shown c.members b x all h e

-- ---- a cell
pub cell_json : (P : Type 0) (c : ColumnView) (f : CellFormat) (v : CellValue) (x : List ℕ) → AllJson P c.members → IsSoundCell f v → IsCellJson c f v x → IsJson P x
unfolding IsCellJson
cell_json P c f null x all h e = subst (IsJson P) (sym e) (null_json P)
cell_json P c f (bytes b) x all h e = bytes_json P c f b x all h e
cell_json P c f (int z) x all h e = integer_json P c z x all h e
cell_json P c f (uint n) x all h e = number_shown_json P c.shown c.members n x all h e
cell_json P c f (float bits) x all h e = float_json P _ _ _ _ x e
cell_json P c f (double bits) x all h e = float_json P _ _ _ _ x e
cell_json P c f (date year month day hour minute second micros) x all h e = subst (IsJson P) (sym e) (date_json_of P f (record { year = year; month = month; day = day }) (record { hour = hour; minute = minute; second = second; micros = micros }))
cell_json P c f (time negative days hours minutes seconds micros) x all h e = subst (IsJson P) (sym e) (shown_duration_json P (fraction_digits f) negative (record { hour = 24 * days + hours; minute = minutes; second = seconds; micros = micros }))
cell_json P c f (json b) x all h e = document_json P e.tree x ((document_tree_sound b h).each e.tree e.is) e.text
cell_json P c f (json_diffs b) x all h e = diffs_json P e.updates x (diffs_sound b e.updates h e.are) e.text
