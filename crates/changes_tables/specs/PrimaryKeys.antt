-- The primary key of a table (MySQL's source: Table_map_event, SIMPLE_PRIMARY_KEY, PRIMARY_KEY_WITH_PREFIX).
use Rattle.std.specs.Prelude.{ℕ, Bool, false, List, [], ◌∷◌, ◌++◌, map, codes, Option, Some, None, unwrap_or, nat_lt, if◌then◌else◌}
use Rattle.std.specs.declared.result.Result.TheVariants.{Ok, Err}
use Rattle.std.specs.List.{list_all, slice_get, join_with_byte}
use Rattle.rows_errors.specs.Readings.{Reading, map_reading}
use Rattle.rows_table_map.specs.Lists.{numbers, pairs}
use Rattle.changes_writers.specs.JsonStrings.{json_string}
use Rattle.changes_tables.specs.UsedMetadata.{KeyValue, simple, with_prefixes, readable}

-- the indexes of the key's columns, in the key's order
abbrev pub key_entries : KeyValue → List (Reading ℕ)
key_entries (simple bytes) = numbers bytes
key_entries (with_prefixes bytes) = map (map_reading (λ (key : ℕ × ℕ). key.0)) (pairs bytes)

-- whether an entry is the index of one of so many columns
abbrev pub is_column : ℕ → Reading ℕ → Bool
is_column count (Ok index) = nat_lt index count
is_column count (Err e) = false

-- the index of one of so many columns, if the entry is one
abbrev pub column_in : ℕ → Reading ℕ → Option ℕ
column_in count (Ok index) = if nat_lt index count then Some index else None
column_in count (Err e) = None

-- the columns of these entries; none unless all are indexes of columns
abbrev pub columns_at : ℕ → List (Reading ℕ) → List ℕ
columns_at count entries = if list_all (is_column count) entries then readable entries else []

-- the columns of the key of a table with so many columns; none if it has no key that can be read
abbrev pub key_columns : ℕ → Option KeyValue → List ℕ
key_columns count None = []
key_columns count (Some key) = columns_at count (key_entries key)

-- the name of a column as a string
abbrev pub name_json : List (List ℕ) → ℕ → List ℕ
name_json names i = json_string (unwrap_or (slice_get names i) [])

-- `"primary_key":[..]`; empty without a key
abbrev pub key_member : List (List ℕ) → List ℕ → List ℕ
key_member names [] = []
key_member names (c ∷ columns) = codes "\"primary_key\":[" ++ (join_with_byte 44 (map (name_json names) (c ∷ columns)) ++ codes "]")
