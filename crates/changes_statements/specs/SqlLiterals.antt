-- The literal of a cell of a row, by its column (MySQL Reference Manual, "Literal Values", "Data Types").
use Rattle.std.specs.Prelude.{◌≡◌, ◌⊎◌, ◌==◌, ℕ, ◌+◌, ◌*◌, ℤ, pos, Bool, true, false, ◌&&◌, List, ◌++◌, length, nat_le, nat_lt, Some, codes, unsigned_abs, if◌then◌else◌}
use Rattle.std.specs.declared.result.Result.TheVariants.{Ok}
use Rattle.std.specs.Fmt.{decimal, signed_decimal}
use Rattle.std.specs.Int.{w32, cast_unsigned}
use Rattle.std.specs.List.{list_any}
use Rattle.byteorder.specs.Endian.{big_number, little_number}
use Rattle.rows_cells.specs.declared.cell.CellRef.{CellRef}
use Rattle.rows_cells.specs.declared.cell.CellRef.TheVariants as cell
use Rattle.rows_cells.specs.CellValues.{CellValue, date, time, cell_date, cell_time, new_date, old_datetime, old_time}
use Rattle.rows_values.specs.Unpacked.{packed_text}
use Rattle.rows_jsonb.specs.DocumentTrees.{document_tree}
use Rattle.rows_jsonb.specs.JsonTrees.{Tree}
use Rattle.feed_text.specs.DocumentForms.{IsDocumentIn}
use Rattle.changes_character_sets.specs.Texts.{IsTextOf}
use Rattle.changes_character_sets.specs.declared.character_set.CharacterSet.{CharacterSet}
use Rattle.changes_tables.specs.declared.columns.Shown.{Shown}
use Rattle.changes_tables.specs.declared.columns.Shown.TheVariants as shown
use Rattle.changes_statements.specs.PlainDocuments.{plain_form}
use Rattle.changes_statements.specs.SqlNumbers.{IsDoubleText, IsFloatText, bits_text, year_text}
use Rattle.changes_statements.specs.SqlTexts.{hexadecimal, utf8_text}
use Rattle.changes_statements.specs.SqlTimes.{IsInstantText, date_text, datetime_text, duration_text}

-- text of a character set as a string; bytes that aren't such text in hexadecimal
abbrev pub IsTextLiteral : CharacterSet → List ℕ → List ℕ → Type 0
IsTextLiteral set b x = ((t : List ℕ) × IsTextOf set b t × (x ≡ utf8_text t)) ⊎ (((t : List ℕ) → IsTextOf set b t → ⊥) × (x ≡ hexadecimal 0 b))

-- a text, if there are one to eight bytes, else the bytes in hexadecimal
abbrev pub of_few : List ℕ → List ℕ → List ℕ
of_few b text = if nat_le 1 (length b) && nat_le (length b) 8 then text else hexadecimal 0 b

-- text as it is, if its bytes aren't compared
abbrev pub IsTextShown : CharacterSet → Bool → ℕ → List ℕ → List ℕ → Type 0
IsTextShown set true padded_len b x = x ≡ hexadecimal padded_len b
IsTextShown set false padded_len b x = IsTextLiteral set b x

-- bytes of a column: those of a BIT begin with the highest, those of an ENUM or a SET with the lowest; `exact`: they are compared as bytes
unfoldable pub IsBytesLiteral : Shown → ℕ → Bool → List ℕ → List ℕ → Type 0
IsBytesLiteral (shown.Text set) padded_len exact b x = IsTextShown set exact padded_len b x
IsBytesLiteral shown.Bit padded_len exact b x = x ≡ of_few b (bits_text (8 * length b) (big_number (length b) b))
IsBytesLiteral shown.Enum padded_len exact b x = x ≡ of_few b (decimal (little_number (length b) b))
IsBytesLiteral shown.Set padded_len exact b x = x ≡ of_few b (decimal (little_number (length b) b))
IsBytesLiteral _ padded_len exact b x = x ≡ hexadecimal padded_len b

-- an integer; that of a TIMESTAMP of 32 bits as a date and a time
abbrev pub IsSeconds : Bool → ℕ → List ℕ → Type 0
IsSeconds true n x = IsInstantText n 0 x
IsSeconds false n x = x ≡ signed_decimal (pos n)

unfoldable pub IsIntegerLiteral : Shown → ℤ → List ℕ → Type 0
IsIntegerLiteral shown.Timestamp (pos n) x = IsSeconds (nat_lt n 4294967296) n x
IsIntegerLiteral _ z x = x ≡ signed_decimal z

-- a date without its time
abbrev pub IsDateLiteral : CellValue → List ℕ → Type 0
IsDateLiteral (date year month day hour minute second micros) x = x ≡ date_text (record { year = year; month = month; day = day })
IsDateLiteral _ x = ⊥

-- a date and a time
abbrev pub IsDatetimeLiteral : CellValue → List ℕ → Type 0
IsDatetimeLiteral (date year month day hour minute second micros) x =
    x ≡ datetime_text (record { year = year; month = month; day = day }) (record { hour = hour; minute = minute; second = second; micros = micros })
IsDatetimeLiteral _ x = ⊥

-- a time of any number of hours
abbrev pub IsTimeLiteral : CellValue → List ℕ → Type 0
IsTimeLiteral (time negative days hours minutes seconds micros) x =
    x ≡ duration_text negative (record { hour = 24 * days + hours; minute = minutes; second = seconds; micros = micros })
IsTimeLiteral _ x = ⊥

-- whether a byte stands for a value that JSON text doesn't have
abbrev pub has_no_text : List ℕ → Bool
has_no_text text = list_any (λ b. b == 255) text

-- a JSON document that can be parsed, all of whose values JSON text has
pub record IsDocumentLiteral (b x : List ℕ) : Type 0 where
  pub tree : Tree
  pub is : document_tree b ≡ Ok tree
  pub json : List ℕ
  pub json_is : IsDocumentIn plain_form tree json
  pub whole : has_no_text json ≡ false
  pub text : x ≡ codes "CAST(" ++ (utf8_text json ++ codes " AS JSON)")

-- The literal of a cell: a relation, since several texts may be those of a float. Partial updates of a JSON document have none.
unfoldable pub IsLiteral : Shown → ℕ → Bool → CellRef → List ℕ → Type 0
IsLiteral s padded_len exact cell.Null x = x ≡ codes "NULL"
IsLiteral s padded_len exact (cell.Int z) x = IsIntegerLiteral s z x
IsLiteral s padded_len exact (cell.UInt n) x = x ≡ decimal n
IsLiteral s padded_len exact (cell.Float bits) x = IsFloatText bits x
IsLiteral s padded_len exact (cell.Double bits) x = IsDoubleText bits x
IsLiteral s padded_len exact (cell.Bytes b) x = IsBytesLiteral s padded_len exact b.now x
IsLiteral s padded_len exact (cell.Year years) x = x ≡ year_text years
IsLiteral s padded_len exact (cell.NewDate bits) x = IsDateLiteral (new_date bits) x
IsLiteral s padded_len exact (cell.OldTime digits) x = IsTimeLiteral (old_time digits) x
IsLiteral s padded_len exact (cell.OldDatetime digits) x = IsDatetimeLiteral (old_datetime digits) x
IsLiteral s padded_len exact (cell.Timestamp seconds micros) x = IsInstantText (cast_unsigned w32 seconds) (unsigned_abs micros) x
IsLiteral s padded_len exact (cell.Datetime packed) x = IsDatetimeLiteral (cell_date packed) x
IsLiteral s padded_len exact (cell.Time packed) x = IsTimeLiteral (cell_time packed) x
IsLiteral s padded_len exact (cell.Decimal precision scale b) x = packed_text precision scale b.now ≡ Some x
IsLiteral s padded_len exact (cell.Json b) x = IsDocumentLiteral b.now x
IsLiteral s padded_len exact (cell.JsonDiffs b) x = ⊥
