-- Which kinds of fields the optional metadata of a table map has (MySQL's source: Table_map_event, Optional_metadata_field_type).
use Rattle.std.specs.Prelude.{Bool, true, false, List, [], ◌∷◌, Option, Some, None, option_map}
use Rattle.std.specs.declared.result.Result.TheVariants.{Ok, Err}
use Rattle.std.specs.List.{list_any}
use Rattle.rows_errors.specs.Readings.{Reading}
use Rattle.rows_table_map.specs.MetadataFields.{Field, fields, signedness, default_charset, column_charset, column_name, set_str_value, enum_str_value, simple_primary_key, primary_key_with_prefix}
use Rattle.rows_table_map.specs.TableMaps.{TableMap}
use Rattle.table_schemas.specs.declared.logged.Logged.{Logged}

-- SIGNEDNESS
abbrev pub has_signs : Field → Bool
has_signs (signedness bits) = true
has_signs _ = false

-- DEFAULT_CHARSET and COLUMN_CHARSET
abbrev pub has_collations : Field → Bool
has_collations (default_charset value) = true
has_collations (column_charset value) = true
has_collations _ = false

-- COLUMN_NAME
abbrev pub has_names : Field → Bool
has_names (column_name value) = true
has_names _ = false

-- SET_STR_VALUE and ENUM_STR_VALUE
abbrev pub has_members : Field → Bool
has_members (set_str_value value) = true
has_members (enum_str_value value) = true
has_members _ = false

-- SIMPLE_PRIMARY_KEY and PRIMARY_KEY_WITH_PREFIX
abbrev pub has_key : Field → Bool
has_key (simple_primary_key value) = true
has_key (primary_key_with_prefix value) = true
has_key _ = false

-- the kinds of these fields
abbrev pub kinds_of : List Field → Logged
kinds_of fs = record { signs = list_any has_signs fs; collations = list_any has_collations fs; names = list_any has_names fs; members = list_any has_members fs; key = list_any has_key fs }

-- the values, if all can be read
abbrev pub all_read : {A : Type 0} → List (Reading A) → Option (List A)
all_read [] = Some []
all_read (Ok x ∷ items) = option_map (λ xs. x ∷ xs) (all_read items)
all_read (Err e ∷ items) = None

-- the kinds of the fields of a table map, if all its fields can be read
abbrev pub logged_kinds : TableMap → Option Logged
logged_kinds m = option_map kinds_of (all_read (fields m.column_types m.optional_metadata))
