-- Fields that are added one after the other give the last of each kind.
use Rattle.std.proofs.Common.{◌≡◌, List, ◌∷◌, Option, Some, None, Ok, Err, refl, ap}
use Rattle.rows_errors.specs.Readings.{Reading, ◌>>=◌}
use Rattle.rows_table_map.specs.MetadataFields.{Field}
use Rattle.rows_table_map.specs.Extracted.{Extracted, all_read, or_else, last_of, signs_in, charset_in, charsets_in, names_in, simple_key_in, prefixed_key_in, enum_charset_in, enum_charsets_in, lasts, extracted, with_field, nothing}

or-none : {A : Type 0} (o : Option A) → or_else o None ≡ o
or-none (Some x) = refl
or-none None = refl

or-assoc : {A : Type 0} (a b c : Option A) → or_else (or_else a b) c ≡ or_else a (or_else b c)
or-assoc (Some x) b c = refl
or-assoc None b c = refl

-- the fields so far, and then these fields
abbrev pub later : Extracted → List Field → Extracted
later e fs = record {
  signs = or_else (last_of signs_in fs) e.signs;
  charset = or_else (last_of charset_in fs) e.charset;
  charsets = or_else (last_of charsets_in fs) e.charsets;
  names = or_else (last_of names_in fs) e.names;
  simple_key = or_else (last_of simple_key_in fs) e.simple_key;
  prefixed_key = or_else (last_of prefixed_key_in fs) e.prefixed_key;
  enum_charset = or_else (last_of enum_charset_in fs) e.enum_charset;
  enum_charsets = or_else (last_of enum_charsets_in fs) e.enum_charsets;
}

-- the fields so far, and then these items
abbrev pub onward : Extracted → List (Reading Field) → Reading Extracted
onward e items = all_read items >>= λ fs. Ok (later e fs)

later-nothing : (fs : List Field) → later nothing fs ≡ lasts fs
later-nothing fs =
    rw (or-none (last_of signs_in fs), or-none (last_of charset_in fs), or-none (last_of charsets_in fs), or-none (last_of names_in fs), or-none (last_of simple_key_in fs), or-none (last_of prefixed_key_in fs), or-none (last_of enum_charset_in fs), or-none (last_of enum_charsets_in fs)) refl

later-more : (e : Extracted) (f : Field) (fs : List Field) → later e (f ∷ fs) ≡ later (with_field e f) fs
later-more e f fs =
    rw (or-assoc (last_of signs_in fs) (signs_in f) e.signs, or-assoc (last_of charset_in fs) (charset_in f) e.charset, or-assoc (last_of charsets_in fs) (charsets_in f) e.charsets, or-assoc (last_of names_in fs) (names_in f) e.names, or-assoc (last_of simple_key_in fs) (simple_key_in f) e.simple_key, or-assoc (last_of prefixed_key_in fs) (prefixed_key_in f) e.prefixed_key, or-assoc (last_of enum_charset_in fs) (enum_charset_in f) e.enum_charset, or-assoc (last_of enum_charsets_in fs) (enum_charsets_in f) e.enum_charsets) refl

from_nothing : (o : Reading (List Field)) → (o >>= λ fs. Ok (later nothing fs)) ≡ (o >>= λ fs. Ok (lasts fs))
from_nothing (Ok fs) = ap (λ (e : Extracted). Ok e) (later-nothing fs)
from_nothing (Err x) = refl

pub onward-nothing : (items : List (Reading Field)) → onward nothing items ≡ extracted items
onward-nothing items = from_nothing (all_read items)

from_more : (e : Extracted) (f : Field) (o : Reading (List Field)) → ((o >>= λ fs. Ok (f ∷ fs)) >>= λ fs. Ok (later e fs)) ≡ (o >>= λ fs. Ok (later (with_field e f) fs))
from_more e f (Ok fs) = ap (λ (x : Extracted). Ok x) (later-more e f fs)
from_more e f (Err x) = refl

pub onward-ok : (e : Extracted) (f : Field) (items : List (Reading Field)) → onward e (Ok f ∷ items) ≡ onward (with_field e f) items
onward-ok e f items = from_more e f (all_read items)
