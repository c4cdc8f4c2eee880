-- How the values of a column are shown (MySQL Reference Manual, "Data Types", "Character Sets, Collations, Unicode").
use Rattle.std.specs.Prelude.{◌≡◌, MatchBool, ℕ, ◌+◌, ◌*◌, ◌/◌, ◌==◌, Bool, List, ◌∷◌, Option, Some, None, option_map, nat_le, if◌then◌else◌}
use Rattle.wire_constants.specs.declared.column_type.ColumnType.{ColumnType}
use Rattle.wire_constants.specs.declared.column_type.ColumnType.TheVariants.{MYSQL_TYPE_LONGLONG, MYSQL_TYPE_ENUM, MYSQL_TYPE_SET, MYSQL_TYPE_BIT, MYSQL_TYPE_TIMESTAMP, MYSQL_TYPE_GEOMETRY, MYSQL_TYPE_VECTOR, MYSQL_TYPE_VARCHAR, MYSQL_TYPE_VAR_STRING, MYSQL_TYPE_STRING, MYSQL_TYPE_TINY_BLOB, MYSQL_TYPE_MEDIUM_BLOB, MYSQL_TYPE_LONG_BLOB, MYSQL_TYPE_BLOB}
use Rattle.changes_character_sets.specs.declared.character_set.CharacterSet.{CharacterSet}
use Rattle.changes_character_sets.specs.Collations.{set_view, collation_set}
use Rattle.changes_tables.specs.declared.columns.Shown.{Shown}
use Rattle.changes_tables.specs.declared.columns.Shown.TheVariants.{Plain, Quoted, Text, Binary, Unknown, Timestamp, Bit, Enum, Set}

-- the bytes of a BIT, by its metadata: the bits beyond whole bytes, and the whole bytes
abbrev pub bit_len : List ℕ → ℕ
bit_len (bits ∷ bytes ∷ more) = (8 * bytes + bits + 7) / 8
bit_len _ = 0

-- the bytes of a SET, by its metadata: its real type, and the bytes
abbrev pub set_len : List ℕ → ℕ
set_len (real_type ∷ bytes ∷ more) = bytes
set_len _ = 0

-- at most 64 bits are shown as a number or as members
abbrev pub bits_shown : ℕ → Shown → Shown
bits_shown bytes shown = if nat_le bytes 8 then shown else Binary

-- how a column of this type is shown, and `text` if it has text
abbrev pub shown_of : ColumnType → List ℕ → Shown → Bool → Shown
shown_of MYSQL_TYPE_LONGLONG metadata text quotes = if quotes then Quoted else Plain
shown_of MYSQL_TYPE_ENUM metadata text quotes = Enum
shown_of MYSQL_TYPE_SET metadata text quotes = bits_shown (set_len metadata) Set
shown_of MYSQL_TYPE_BIT metadata text quotes = bits_shown (bit_len metadata) Bit
shown_of MYSQL_TYPE_TIMESTAMP metadata text quotes = Timestamp
shown_of MYSQL_TYPE_GEOMETRY metadata text quotes = Binary
shown_of MYSQL_TYPE_VECTOR metadata text quotes = Binary
shown_of MYSQL_TYPE_VARCHAR metadata text quotes = text
shown_of MYSQL_TYPE_VAR_STRING metadata text quotes = text
shown_of MYSQL_TYPE_STRING metadata text quotes = text
shown_of MYSQL_TYPE_TINY_BLOB metadata text quotes = text
shown_of MYSQL_TYPE_MEDIUM_BLOB metadata text quotes = text
shown_of MYSQL_TYPE_LONG_BLOB metadata text quotes = text
shown_of MYSQL_TYPE_BLOB metadata text quotes = text
shown_of _ metadata text quotes = Plain

-- text in a character set that is known, or not
abbrev pub set_shown : Option CharacterSet → Shown
set_shown (Some set) = Text set
set_shown None = Unknown

-- text of a collation other than that of binary strings
pub record IsSetShown (collation : ℕ) (shown : Shown) : Type 0 where
  pub set : Option CharacterSet
  pub set_is : option_map set_view set ≡ collation_set collation
  pub shown_is : shown ≡ set_shown set

-- how text of a collation is shown: that with number 63 is of binary strings
abbrev pub IsTextShown : ℕ → Shown → Type 0
IsTextShown collation shown = MatchBool (collation == 63) (shown ≡ Binary) (IsSetShown collation shown)

-- how the text of a column is shown, whose collation the table map may name
abbrev pub IsColumnText : Shown → Option ℕ → Shown → Type 0
IsColumnText unnamed None shown = shown ≡ unnamed
IsColumnText unnamed (Some collation) shown = IsTextShown collation shown
