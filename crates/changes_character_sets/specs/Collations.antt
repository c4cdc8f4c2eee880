-- The character sets of collations: the table COLLATIONS of MySQL 8.4 and of MariaDB 11, with the characters of single-byte character sets by their bytes, as a MariaDB server converts them.
use Rattle.std.specs.Prelude.{ℕ, Bool, List, [], ◌∷◌, Option, codes, find, option_map, nat_le, ◌&&◌}
use Rattle.std.specs.Str.{bytes_eq}
use Rattle.changes_character_sets.specs.declared.collations.TheConstants.{COLLATIONS}
use Rattle.changes_character_sets.specs.declared.tables.TheConstants.{ARMSCII8, CP1250, CP1251, CP1256, CP1257, CP850, CP852, CP866, DEC8, GEOSTD8, GREEK, HEBREW, HP8, KEYBCS2, KOI8R, KOI8U, LATIN1, LATIN2, LATIN5, LATIN7, MACCE, MACROMAN, SWE7, TIS620}
use Rattle.changes_character_sets.specs.declared.character_set.CharacterSet.{CharacterSet}
use Rattle.changes_character_sets.specs.declared.character_set.CharacterSet.TheVariants as set
use Rattle.changes_character_sets.specs.declared.collations.Collations.{Collations}
use Rattle.changes_character_sets.specs.declared.collations.SetName.{SetName}
use Rattle.changes_character_sets.specs.declared.collations.SetName.TheVariants as name

-- a character set; one with one byte a character by its characters, 0 for a byte without one
pub data SetView : Type 0 where
  utf8 : SetView
  ascii : SetView
  ucs2 : SetView
  utf16 : SetView
  utf16le : SetView
  utf32 : SetView
  single_byte : List ℕ → SetView

abbrev pub set_view : CharacterSet → SetView
set_view set.Utf8 = utf8
set_view set.Ascii = ascii
set_view set.Ucs2 = ucs2
set_view set.Utf16 = utf16
set_view set.Utf16Le = utf16le
set_view set.Utf32 = utf32
set_view (set.SingleByte characters) = single_byte characters.now

abbrev pub set_named : SetName → SetView
set_named name.Utf8 = utf8
set_named name.Ascii = ascii
set_named name.Ucs2 = ucs2
set_named name.Utf16 = utf16
set_named name.Utf16Le = utf16le
set_named name.Utf32 = utf32
set_named name.Armscii8 = single_byte ARMSCII8
set_named name.Cp1250 = single_byte CP1250
set_named name.Cp1251 = single_byte CP1251
set_named name.Cp1256 = single_byte CP1256
set_named name.Cp1257 = single_byte CP1257
set_named name.Cp850 = single_byte CP850
set_named name.Cp852 = single_byte CP852
set_named name.Cp866 = single_byte CP866
set_named name.Dec8 = single_byte DEC8
set_named name.Geostd8 = single_byte GEOSTD8
set_named name.Greek = single_byte GREEK
set_named name.Hebrew = single_byte HEBREW
set_named name.Hp8 = single_byte HP8
set_named name.Keybcs2 = single_byte KEYBCS2
set_named name.Koi8r = single_byte KOI8R
set_named name.Koi8u = single_byte KOI8U
set_named name.Latin1 = single_byte LATIN1
set_named name.Latin2 = single_byte LATIN2
set_named name.Latin5 = single_byte LATIN5
set_named name.Latin7 = single_byte LATIN7
set_named name.Macce = single_byte MACCE
set_named name.Macroman = single_byte MACROMAN
set_named name.Swe7 = single_byte SWE7
set_named name.Tis620 = single_byte TIS620

-- whether these collations have the number
abbrev pub has : Collations → ℕ → Bool
has c n = nat_le c.0 n && nat_le n c.1

-- the name of the character set of a collation, if it is one of these
abbrev pub name_in : List Collations → ℕ → Option SetName
name_in all n = option_map (λ c. c.2) (find (λ c. has c n) all)

-- the character set of the collation with this number, if it is known
unfoldable pub collation_set : ℕ → Option SetView
collation_set n = option_map set_named (name_in COLLATIONS n)

-- the character sets by their names, as SHOW CHARACTER SET lists them
abbrev pub names : List (List ℕ × SetName)
names =
    (codes "utf8", name.Utf8)
    ∷ (codes "utf8mb3", name.Utf8)
    ∷ (codes "utf8mb4", name.Utf8)
    ∷ (codes "ascii", name.Ascii)
    ∷ (codes "ucs2", name.Ucs2)
    ∷ (codes "utf16", name.Utf16)
    ∷ (codes "utf16le", name.Utf16Le)
    ∷ (codes "utf32", name.Utf32)
    ∷ (codes "armscii8", name.Armscii8)
    ∷ (codes "cp1250", name.Cp1250)
    ∷ (codes "cp1251", name.Cp1251)
    ∷ (codes "cp1256", name.Cp1256)
    ∷ (codes "cp1257", name.Cp1257)
    ∷ (codes "cp850", name.Cp850)
    ∷ (codes "cp852", name.Cp852)
    ∷ (codes "cp866", name.Cp866)
    ∷ (codes "dec8", name.Dec8)
    ∷ (codes "geostd8", name.Geostd8)
    ∷ (codes "greek", name.Greek)
    ∷ (codes "hebrew", name.Hebrew)
    ∷ (codes "hp8", name.Hp8)
    ∷ (codes "keybcs2", name.Keybcs2)
    ∷ (codes "koi8r", name.Koi8r)
    ∷ (codes "koi8u", name.Koi8u)
    ∷ (codes "latin1", name.Latin1)
    ∷ (codes "latin2", name.Latin2)
    ∷ (codes "latin5", name.Latin5)
    ∷ (codes "latin7", name.Latin7)
    ∷ (codes "macce", name.Macce)
    ∷ (codes "macroman", name.Macroman)
    ∷ (codes "swe7", name.Swe7)
    ∷ (codes "tis620", name.Tis620)
    ∷ []

-- the character set with this name
abbrev pub set_name_of : List ℕ → Option SetName
set_name_of n = option_map (λ (x : List ℕ × SetName). x.1) (find (λ x. bytes_eq n x.0) names)

-- the character set with this name, if it is known
unfoldable pub named_set : List ℕ → Option SetView
named_set n = option_map set_named (set_name_of n)
