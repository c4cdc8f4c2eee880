-- What the columns of a table use from the optional metadata: the last field of each kind, or the error of the first field that can't be read (the crate, table_map_event.rs, OptionalMetaExtractor).
use Rattle.std.specs.Prelude.{ℕ, Bool, List, [], ◌∷◌, Option, Some, None}
use Rattle.std.specs.declared.result.Result.TheVariants.{Ok}
use Rattle.rows_errors.specs.Readings.{Reading, ◌>>=◌}
use Rattle.rows_table_map.specs.MetadataFields.{Field, signedness, default_charset, column_charset, column_name, simple_primary_key, primary_key_with_prefix, enum_and_set_default_charset, enum_and_set_column_charset}

-- all values, or the first error
abbrev pub all_read : {A : Type 0} → List (Reading A) → Reading (List A)
all_read [] = Ok []
all_read (r ∷ rs) = r >>= λ x. all_read rs >>= λ xs. Ok (x ∷ xs)

-- the first value that exists
abbrev pub or_else : {A : Type 0} → Option A → Option A → Option A
or_else (Some x) other = Some x
or_else None other = other

-- the last field for which `pick` has a value
abbrev pub last_of : {A : Type 0} → (Field → Option A) → List Field → Option A
last_of pick [] = None
last_of pick (f ∷ fs) = or_else (last_of pick fs) (pick f)

-- the field SIGNEDNESS: whether each numeric column is unsigned
abbrev pub signs_in : Field → Option (List Bool)
signs_in (signedness bits) = Some bits
signs_in _ = None

-- the field DEFAULT_CHARSET: the default, and the pairs of the other columns
abbrev pub charset_in : Field → Option (ℕ × List ℕ)
charset_in (default_charset c) = Some c
charset_in _ = None

-- the field COLUMN_CHARSET: a character set for each column
abbrev pub charsets_in : Field → Option (List ℕ)
charsets_in (column_charset value) = Some value
charsets_in _ = None

-- the field COLUMN_NAME
abbrev pub names_in : Field → Option (List ℕ)
names_in (column_name value) = Some value
names_in _ = None

-- the field SIMPLE_PRIMARY_KEY
abbrev pub simple_key_in : Field → Option (List ℕ)
simple_key_in (simple_primary_key value) = Some value
simple_key_in _ = None

-- the field PRIMARY_KEY_WITH_PREFIX
abbrev pub prefixed_key_in : Field → Option (List ℕ)
prefixed_key_in (primary_key_with_prefix value) = Some value
prefixed_key_in _ = None

-- the field ENUM_AND_SET_DEFAULT_CHARSET
abbrev pub enum_charset_in : Field → Option (ℕ × List ℕ)
enum_charset_in (enum_and_set_default_charset c) = Some c
enum_charset_in _ = None

-- the field ENUM_AND_SET_COLUMN_CHARSET
abbrev pub enum_charsets_in : Field → Option (List ℕ)
enum_charsets_in (enum_and_set_column_charset value) = Some value
enum_charsets_in _ = None

-- what the columns use of the optional metadata: the value of each field that is there
pub record Extracted : Type 0 where
  pub signs : Option (List Bool)
  pub charset : Option (ℕ × List ℕ)
  pub charsets : Option (List ℕ)
  pub names : Option (List ℕ)
  pub simple_key : Option (List ℕ)
  pub prefixed_key : Option (List ℕ)
  pub enum_charset : Option (ℕ × List ℕ)
  pub enum_charsets : Option (List ℕ)

-- the last field of each type
abbrev pub lasts : List Field → Extracted
lasts fs = record {
  signs = last_of signs_in fs;
  charset = last_of charset_in fs;
  charsets = last_of charsets_in fs;
  names = last_of names_in fs;
  simple_key = last_of simple_key_in fs;
  prefixed_key = last_of prefixed_key_in fs;
  enum_charset = last_of enum_charset_in fs;
  enum_charsets = last_of enum_charsets_in fs;
}

-- the last field of each kind, or the error of the first field that can't be read
abbrev pub extracted : List (Reading Field) → Reading Extracted
extracted items = all_read items >>= λ fs. Ok (lasts fs)

-- the fields so far and one more field; a step of `extracted`
abbrev pub with_field : Extracted → Field → Extracted
with_field e f = record {
  signs = or_else (signs_in f) e.signs;
  charset = or_else (charset_in f) e.charset;
  charsets = or_else (charsets_in f) e.charsets;
  names = or_else (names_in f) e.names;
  simple_key = or_else (simple_key_in f) e.simple_key;
  prefixed_key = or_else (prefixed_key_in f) e.prefixed_key;
  enum_charset = or_else (enum_charset_in f) e.enum_charset;
  enum_charsets = or_else (enum_charsets_in f) e.enum_charsets;
}

-- the result for no fields
abbrev pub nothing : Extracted
nothing = lasts []
