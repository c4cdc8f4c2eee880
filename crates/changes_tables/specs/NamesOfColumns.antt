-- The names of a table's columns (MySQL's source: Table_map_event, COLUMN_NAME).
use Rattle.std.specs.Prelude.{ℕ, Bool, true, false, not, ◌&&◌, ◌==◌, List, [], ◌∷◌, length, map, Option, Some, None, if◌then◌else◌}
use Rattle.std.specs.declared.result.Result.TheVariants.{Ok, Err}
use Rattle.std.specs.List.{list_all, list_any, range_with_len}
use Rattle.std.specs.Str.{bytes_eq, is_utf8}
use Rattle.std.specs.Fmt.{decimal}
use Rattle.rows_errors.specs.Readings.{Reading}
use Rattle.rows_table_map.specs.Lists.{strings}
use Rattle.changes_tables.specs.UsedMetadata.{readable}

-- whether no two names are equal, nor one equal to one of the earlier names
abbrev pub are_new : List (List ℕ) → List (List ℕ) → Bool
are_new earlier [] = true
are_new earlier (name ∷ names) = not (list_any (λ e. bytes_eq e name) earlier) && are_new (name ∷ earlier) names

-- whether all names are different
abbrev pub are_distinct : List (List ℕ) → Bool
are_distinct names = are_new [] names

-- whether an entry is a name that is UTF-8
abbrev pub is_name : Reading (List ℕ) → Bool
is_name (Ok name) = is_utf8 name
is_name (Err e) = false

-- the name in an entry, if it is one
abbrev pub name_in : Reading (List ℕ) → Option (List ℕ)
name_in (Ok name) = if is_utf8 name then Some name else None
name_in (Err e) = None

-- the names in these entries, if all are names
abbrev pub names_in : List (Reading (List ℕ)) → Option (List (List ℕ))
names_in entries = if list_all is_name entries then Some (readable entries) else None

-- whether these entries are the names of so many columns
abbrev pub are_names : List (Reading (List ℕ)) → ℕ → Bool
are_names entries count = list_all is_name entries && (length (readable entries) == count) && are_distinct (readable entries)

-- the name of a column that has none: `@0` for the first
abbrev pub index_name : ℕ → List ℕ
index_name i = 64 ∷ decimal i

abbrev pub index_names : ℕ → List (List ℕ)
index_names count = map index_name (range_with_len 0 count)

abbrev pub names_or_indexes : List (Reading (List ℕ)) → ℕ → List (List ℕ)
names_or_indexes entries count = if are_names entries count then readable entries else index_names count

-- the names of so many columns: those of the field if it has one for each, all UTF-8 and different; otherwise the columns' indexes
abbrev pub names_of : Option (List ℕ) → ℕ → List (List ℕ)
names_of None count = index_names count
names_of (Some bytes) count = names_or_indexes (strings bytes) count
