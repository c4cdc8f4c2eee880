-- The fields of the optional metadata that tables are shown by (MySQL's source: Table_map_event, Optional_metadata_field_type). Of several fields of one kind the last counts; fields that can't be read are ignored.
use Rattle.std.specs.Prelude.{ℕ, List, [], ◌∷◌, Option, Some, None}
use Rattle.std.specs.declared.result.Result.TheVariants.{Ok, Err}
use Rattle.rows_errors.specs.Readings.{Reading}
use Rattle.rows_table_map.specs.MetadataFields.{Field, fields, default_charset, column_charset, column_name, set_str_value, enum_str_value, simple_primary_key, primary_key_with_prefix, enum_and_set_default_charset, enum_and_set_column_charset}
use Rattle.rows_table_map.specs.TableMaps.{TableMap}

-- the values that can be read
abbrev pub readable : {A : Type 0} → List (Reading A) → List A
readable [] = []
readable (Ok x ∷ items) = x ∷ readable items
readable (Err e ∷ items) = readable items

-- the first value if there is one, otherwise the second
abbrev pub or_else : {A : Type 0} → Option A → Option A → Option A
or_else (Some x) other = Some x
or_else None other = other

-- the last value that `pick` has
abbrev pub last_some : {A B : Type 0} → (A → Option B) → List A → Option B
last_some pick [] = None
last_some pick (x ∷ xs) = or_else (last_some pick xs) (pick x)

-- the collations of the columns of one kind: a default with the pairs of the other columns, or one for each column
pub data CollationValue : Type 0 where
  with_default : ℕ × List ℕ → CollationValue
  one_by_one : List ℕ → CollationValue

-- the columns of the primary key, or those columns each with the length of its prefix
pub data KeyValue : Type 0 where
  simple : List ℕ → KeyValue
  with_prefixes : List ℕ → KeyValue

-- COLUMN_NAME
abbrev pub names_in : Field → Option (List ℕ)
names_in (column_name value) = Some value
names_in _ = None

-- SIMPLE_PRIMARY_KEY and PRIMARY_KEY_WITH_PREFIX
abbrev pub key_in : Field → Option KeyValue
key_in (simple_primary_key value) = Some (simple value)
key_in (primary_key_with_prefix value) = Some (with_prefixes value)
key_in _ = None

-- DEFAULT_CHARSET and COLUMN_CHARSET: the collations of strings and blobs, among which servers count GEOMETRY
abbrev pub texts_in : Field → Option CollationValue
texts_in (default_charset value) = Some (with_default value)
texts_in (column_charset value) = Some (one_by_one value)
texts_in _ = None

-- ENUM_AND_SET_DEFAULT_CHARSET and ENUM_AND_SET_COLUMN_CHARSET
abbrev pub members_in : Field → Option CollationValue
members_in (enum_and_set_default_charset value) = Some (with_default value)
members_in (enum_and_set_column_charset value) = Some (one_by_one value)
members_in _ = None

-- ENUM_STR_VALUE
abbrev pub enums_in : Field → Option (List ℕ)
enums_in (enum_str_value value) = Some value
enums_in _ = None

-- SET_STR_VALUE
abbrev pub sets_in : Field → Option (List ℕ)
sets_in (set_str_value value) = Some value
sets_in _ = None

-- the value of the last field of each kind
pub record UsedMetadata : Type 0 where
  pub names : Option (List ℕ)
  pub key : Option KeyValue
  pub texts : Option CollationValue
  pub members : Option CollationValue
  pub enums : Option (List ℕ)
  pub sets : Option (List ℕ)

abbrev pub used : List Field → UsedMetadata
used fs = record {
  names = last_some names_in fs;
  key = last_some key_in fs;
  texts = last_some texts_in fs;
  members = last_some members_in fs;
  enums = last_some enums_in fs;
  sets = last_some sets_in fs;
}

-- what a table map has
abbrev pub used_metadata : TableMap → UsedMetadata
used_metadata m = used (readable (fields m.column_types m.optional_metadata))
