use Rattle.changes_character_sets.proofs.character_set.CharacterSet.split_character.Goals as goal

pub returns-in-Utf8 : goal.returns-in-Utf8
returns-in-Utf8 c = rw c.in-Utf8.is c.split_utf8.ensures

pub returns-in-Ascii : goal.returns-in-Ascii
returns-in-Ascii c = rw c.in-Ascii.is c.split_ascii.ensures

pub returns-in-SingleByte : goal.returns-in-SingleByte
returns-in-SingleByte c = rw c.in-SingleByte.is c.split_byte.ensures

pub returns-in-Ucs2 : goal.returns-in-Ucs2
returns-in-Ucs2 c = rw c.in-Ucs2.is c.split_ucs2.ensures

pub returns-in-Utf16 : goal.returns-in-Utf16
returns-in-Utf16 c = rw c.in-Utf16.is c.split_utf16.ensures

pub returns-in-Utf16Le : goal.returns-in-Utf16Le
returns-in-Utf16Le c = rw c.in-Utf16Le.is c.split_utf16_le.ensures

pub returns-in-Utf32 : goal.returns-in-Utf32
returns-in-Utf32 c = rw c.in-Utf32.is c.split_utf32.ensures
