-- The JSON of a cell of a row, by its column (MySQL Reference Manual, "Data Types"; RFC 8259).
use Rattle.std.specs.Prelude.{◌≡◌, ◌⊎◌, ℕ, zero, suc, ◌+◌, ◌*◌, ◌/◌, ◌%◌, ◌^◌, ◌==◌, ℤ, pos, negsuc, Bool, true, false, List, [], ◌∷◌, ◌++◌, length, map, nat_le, nat_lt, slice_index_or, if◌then◌else◌, codes}
use Rattle.std.specs.declared.result.Result.TheVariants.{Ok}
use Rattle.std.specs.Fmt.{decimal, signed_decimal}
use Rattle.std.specs.Int.{w32, cast_unsigned}
use Rattle.std.specs.List.{filter, join_with_byte, range_with_len}
use Rattle.byteorder.specs.Endian.{big_number, little_number}
use Rattle.changes_character_sets.specs.Texts.{IsTextOf}
use Rattle.changes_character_sets.specs.declared.character_set.CharacterSet.{CharacterSet}
use Rattle.changes_cells.specs.JsonDocuments.{json_form}
use Rattle.changes_tables.specs.ShownColumns.{ColumnView}
use Rattle.changes_tables.specs.declared.columns.Shown.{Shown}
use Rattle.changes_tables.specs.declared.columns.Shown.TheVariants as shown
use Rattle.changes_writers.specs.Base64Texts.{base64_object, base64_string}
use Rattle.changes_writers.specs.FloatTexts.{IsDoubleJson, IsFloatJson}
use Rattle.changes_writers.specs.JsonStrings.{json_string}
use Rattle.changes_writers.specs.TimeStrings.{date_json}
use Rattle.feed_text.specs.DocumentForms.{IsDocumentIn, IsUpdatesIn}
use Rattle.feed_writers.specs.declared.times.Clock.{Clock}
use Rattle.feed_writers.specs.declared.times.Day.{Day}
use Rattle.rows_cells.specs.declared.format.CellFormat.{CellFormat}
use Rattle.rows_cells.specs.declared.format.CellFormat.TheVariants as format
use Rattle.rows_cells.specs.CellValues.{CellValue, null, bytes, int, uint, float, double, date, time, json, json_diffs, timestamp_text}
use Rattle.rows_jsonb.specs.DocumentTrees.{document_tree}
use Rattle.rows_jsonb.specs.Items.{items_at, all_found}
use Rattle.rows_jsonb.specs.JsonDiffs.{Diff, diff_at}
use Rattle.rows_jsonb.specs.JsonTrees.{Tree}
use Rattle.changes_cells.specs.ShownTimes.{IsInstant, in_quotes, shown_datetime, shown_duration}

-- the member of an ENUM with a number from 1; the number if there is none
abbrev pub member_json : List (List ℕ) → ℕ → List ℕ
member_json members zero = decimal 0
member_json members (suc k) = slice_index_or members k (decimal (suc k))

-- the member of a SET with a bit; the bit's value if there is none
abbrev pub bit_json : List (List ℕ) → ℕ → List ℕ
bit_json members i = slice_index_or members i (decimal (2 ^ i))

-- whether bit i of a number is set
abbrev pub has_bit : ℕ → ℕ → Bool
has_bit bits i = bits / 2 ^ i % 2 == 1

-- the texts of the set bits among the first n
abbrev pub bit_texts : List (List ℕ) → ℕ → ℕ → List (List ℕ)
bit_texts members bits n = map (bit_json members) (filter (has_bit bits) (range_with_len 0 n))

-- an array
abbrev pub array_json : List (List ℕ) → List ℕ
array_json texts = 91 ∷ join_with_byte 44 texts ++ 93 ∷ []

-- the members of a SET whose bits are set; the number of the bits if no members are known
unfoldable pub members_json : List (List ℕ) → ℕ → List ℕ
members_json [] bits = decimal bits
members_json (m ∷ ms) bits = array_json (bit_texts (m ∷ ms) bits 64)

-- the date and the time of so many seconds since 1970, if they have at most 32 bits; else their number
abbrev pub IsSeconds : Bool → ℕ → List ℕ → Type 0
IsSeconds true n x = IsInstant 0 n (pos 0) x
IsSeconds false n x = x ≡ decimal n

-- a number that isn't that of members
unfoldable pub IsSimpleNumber : Shown → ℕ → List ℕ → Type 0
IsSimpleNumber shown.Timestamp n x = IsSeconds (nat_lt n 4294967296) n x
IsSimpleNumber shown.Quoted n x = x ≡ in_quotes (decimal n)
IsSimpleNumber _ n x = x ≡ decimal n

-- a number that isn't negative
unfoldable pub IsNumberShown : Shown → List (List ℕ) → ℕ → List ℕ → Type 0
IsNumberShown shown.Enum members n x = x ≡ member_json members n
IsNumberShown shown.Set members n x = x ≡ members_json members n
IsNumberShown s members n x = IsSimpleNumber s n x

abbrev pub IsNumberJson : ColumnView → ℕ → List ℕ → Type 0
IsNumberJson c n x = IsNumberShown c.shown c.members n x

-- a negative number
abbrev pub negative_json : Shown → ℤ → List ℕ
negative_json shown.Quoted z = in_quotes (signed_decimal z)
negative_json _ z = signed_decimal z

-- an integer
unfoldable pub IsIntegerJson : ColumnView → ℤ → List ℕ → Type 0
IsIntegerJson c (pos n) x = IsNumberJson c n x
IsIntegerJson c (negsuc n) x = x ≡ negative_json c.shown (negsuc n)

-- bytes that are text of a character set, as a string; others as an object of Base64
abbrev pub IsTextJson : CharacterSet → List ℕ → List ℕ → Type 0
IsTextJson set b x = ((t : List ℕ) × IsTextOf set b t × (x ≡ json_string t)) ⊎ (((t : List ℕ) → IsTextOf set b t → ⊥) × (x ≡ base64_object b))

-- a text, if there are at most 8 bytes, else an object of their Base64
abbrev pub of_few : List ℕ → List ℕ → List ℕ
of_few b text = if nat_le (length b) 8 then text else base64_object b

-- bytes as their column shows them: those of a BIT begin with the highest, those of an ENUM or a SET with the lowest
unfoldable pub IsBytesShown : Shown → List (List ℕ) → List ℕ → List ℕ → Type 0
IsBytesShown (shown.Text set) members b x = IsTextJson set b x
IsBytesShown shown.Binary members b x = x ≡ base64_string b
IsBytesShown shown.Bit members b x = x ≡ of_few b (decimal (big_number (length b) b))
IsBytesShown shown.Enum members b x = x ≡ of_few b (member_json members (little_number (length b) b))
IsBytesShown shown.Set members b x = x ≡ of_few b (members_json members (little_number (length b) b))
IsBytesShown _ members b x = x ≡ base64_object b

-- the year of a byte that counts from 1900: 0 for 0
abbrev pub year_json : ℕ → List ℕ
year_json zero = decimal 0
year_json (suc y) = decimal (1900 + suc y)

-- the text of a YEAR, which is 1900 for 0
pub record IsYearJson (b x : List ℕ) : Type 0 where
  pub years : ℕ
  pub is : b ≡ decimal (1900 + years)
  pub text : x ≡ year_json years

-- the seconds without a sign, and microseconds
pub record IsTimestampJson (digits : ℕ) (b x : List ℕ) : Type 0 where
  pub seconds : ℤ
  pub micros : ℤ
  pub is : b ≡ timestamp_text (seconds, micros)
  pub text : IsInstant digits (cast_unsigned w32 seconds) micros x

-- a value that is text or bytes
unfoldable pub IsBytesJson : ColumnView → CellFormat → List ℕ → List ℕ → Type 0
IsBytesJson c (format.Timestamp2 digits) b x = IsTimestampJson digits b x
IsBytesJson c format.Year b x = IsYearJson b x
IsBytesJson c (format.Decimal precision scale) b x = x ≡ in_quotes b
IsBytesJson c _ b x = IsBytesShown c.shown c.members b x

-- the digits of the fraction in a column
abbrev pub fraction_digits : CellFormat → ℕ
fraction_digits (format.Datetime2 digits) = digits
fraction_digits (format.Time2 digits) = digits
fraction_digits _ = 0

-- a date alone, or with its time
unfoldable pub date_shown : CellFormat → Day → Clock → List ℕ
date_shown format.NewDate d c = date_json d
date_shown f d c = shown_datetime (fraction_digits f) d c

-- a JSON document that can be parsed
pub record IsDocumentJson (b x : List ℕ) : Type 0 where
  pub tree : Tree
  pub is : document_tree b ≡ Ok tree
  pub text : IsDocumentIn json_form tree x

-- partial updates of a JSON document
pub record AreUpdatesJson (b x : List ℕ) : Type 0 where
  pub updates : List Diff
  pub are : items_at diff_at b ≡ all_found updates
  pub text : IsUpdatesIn json_form updates x

-- The JSON of a value: a relation, since several texts may be those of a float.
unfoldable pub IsCellJson : ColumnView → CellFormat → CellValue → List ℕ → Type 0
IsCellJson c f null x = x ≡ codes "null"
IsCellJson c f (bytes b) x = IsBytesJson c f b x
IsCellJson c f (int z) x = IsIntegerJson c z x
IsCellJson c f (uint n) x = IsNumberJson c n x
IsCellJson c f (float bits) x = IsFloatJson bits x
IsCellJson c f (double bits) x = IsDoubleJson bits x
IsCellJson c f (date year month day hour minute second micros) x =
    x ≡ date_shown f (record { year = year; month = month; day = day }) (record { hour = hour; minute = minute; second = second; micros = micros })
IsCellJson c f (time negative days hours minutes seconds micros) x =
    x ≡ shown_duration (fraction_digits f) negative (record { hour = 24 * days + hours; minute = minutes; second = seconds; micros = micros })
IsCellJson c f (json b) x = IsDocumentJson b x
IsCellJson c f (json_diffs b) x = AreUpdatesJson b x
