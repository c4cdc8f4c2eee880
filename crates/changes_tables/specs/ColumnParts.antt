-- What the optional metadata has for each column of a table (MySQL's source: Table_map_event, DEFAULT_CHARSET, COLUMN_CHARSET, ENUM_AND_SET_DEFAULT_CHARSET, ENUM_AND_SET_COLUMN_CHARSET, ENUM_STR_VALUE, SET_STR_VALUE). The list of a kind of columns has an entry for each such column, in the table's order.
use Rattle.std.specs.Prelude.{ℕ, Bool, ◌||◌, ◌==◌, List, [], ◌∷◌, length, map, count_by, Option, Some, None, unwrap_or, if◌then◌else◌}
use Rattle.std.specs.declared.result.Result.{Result}
use Rattle.std.specs.declared.result.Result.TheVariants.{Ok, Err}
use Rattle.std.specs.List.{slice_get, range_with_len}
use Rattle.wire_constants.specs.ColumnTypes.{is_character, is_geometry, is_enum_or_set, is_enum, is_set}
use Rattle.wire_constants.specs.declared.column_type.ColumnType.{ColumnType}
use Rattle.wire_constants.specs.declared.column_type.ColumnType.TheVariants.{MYSQL_TYPE_UNKNOWN}
use Rattle.rows_errors.specs.Readings.{Reading, map_reading}
use Rattle.rows_table_map.specs.declared.bad_column_type.BadColumnType.{BadColumnType}
use Rattle.rows_table_map.specs.ColumnMetadata.{ColumnMeta, columns_with_metadata}
use Rattle.rows_table_map.specs.ColumnViews.{real_type_of}
use Rattle.rows_table_map.specs.Lists.{numbers, pairs}
use Rattle.rows_table_map.specs.Members.{members}
use Rattle.rows_table_map.specs.MetadataViews.{charset}
use Rattle.rows_table_map.specs.Served.{bytes_or_none}
use Rattle.rows_table_map.specs.TableMaps.{TableMap}
use Rattle.changes_tables.specs.UsedMetadata.{UsedMetadata, CollationValue, with_default, one_by_one, readable, last_some, used_metadata}
use Rattle.changes_tables.specs.NamesOfColumns.{names_of}

-- the collation in a pair for column j of its kind
abbrev pub own_collation : ℕ → ℕ × ℕ → Option ℕ
own_collation j p = if p.0 == j then Some (charset p.1) else None

-- the same of an entry that may not be readable
abbrev pub read_collation : ℕ → Reading (ℕ × ℕ) → Option ℕ
read_collation j (Ok p) = own_collation j p
read_collation j (Err e) = None

-- the collation of column j of its kind: that of the last pair for it, or the default
abbrev pub collation_or_default : ℕ × List ℕ → ℕ → ℕ
collation_or_default value j = unwrap_or (last_some (own_collation j) (readable (pairs value.1))) (charset value.0)

-- the collations of the columns of a kind, in a table with so many columns
abbrev pub collations : ℕ → Option CollationValue → List ℕ
collations count None = []
collations count (Some (with_default value)) = map (collation_or_default value) (range_with_len 0 count)
collations count (Some (one_by_one bytes)) = readable (map (map_reading charset) (numbers bytes))

-- the lists of a table: the collations of texts and of ENUM and SET, the members of ENUM and those of SET
pub record ColumnLists : Type 0 where
  pub texts : List ℕ
  pub members : List ℕ
  pub enums : List (Reading (List (List ℕ)))
  pub sets : List (Reading (List (List ℕ)))

abbrev pub lists_of : ℕ → UsedMetadata → ColumnLists
lists_of count u = record {
  texts = collations count u.texts;
  members = collations count u.members;
  enums = members (bytes_or_none u.enums);
  sets = members (bytes_or_none u.sets);
}

abbrev pub type_or_unknown : Result ColumnType BadColumnType → ColumnType
type_or_unknown (Ok t) = t
type_or_unknown (Err e) = MYSQL_TYPE_UNKNOWN

-- the type of a column, ENUM and SET told from other strings
abbrev pub type_of : ColumnMeta → ColumnType
type_of c = type_or_unknown (real_type_of c)

-- whether a type's collation is in the list of texts
abbrev pub has_text : ColumnType → Bool
has_text t = is_character t || is_geometry t

-- the entry for a column in the list of a kind, where it stands after the entries of the earlier columns of the kind
abbrev pub entry_of : {A : Type 0} → (ColumnType → Bool) → List A → List ColumnType → Option A
entry_of is_kind entries earlier = slice_get entries (count_by is_kind earlier)

-- the collation of a column of type t after columns of earlier types, if the table map names it
abbrev pub collation_of : ColumnLists → List ColumnType → ColumnType → Option ℕ
collation_of lists earlier t =
    if has_text t then entry_of has_text lists.texts earlier
    else if is_enum_or_set t then entry_of is_enum_or_set lists.members earlier
    else None

-- members that can be read; otherwise none
abbrev pub read_members : Option (Reading (List (List ℕ))) → List (List ℕ)
read_members (Some (Ok names)) = names
read_members _ = []

-- the members of a column of type t after columns of earlier types
abbrev pub members_of : ColumnLists → List ColumnType → ColumnType → List (List ℕ)
members_of lists earlier t =
    if is_enum t then read_members (entry_of is_enum lists.enums earlier)
    else if is_set t then read_members (entry_of is_set lists.sets earlier)
    else []

-- a column: its name, type and metadata, its collation if the table map names it, and the members of an ENUM or a SET
pub record ColumnPart : Type 0 where
  pub name : List ℕ
  pub column_type : ColumnType
  pub metadata : List ℕ
  pub collation : Option ℕ
  pub members : List (List ℕ)

abbrev pub part_of : ColumnLists → List ColumnType → List ℕ → ColumnMeta → ColumnPart
part_of lists earlier name c = record {
  name = name;
  column_type = type_of c;
  metadata = c.metadata;
  collation = collation_of lists earlier (type_of c);
  members = members_of lists earlier (type_of c);
}

-- columns after those of earlier types, the newest first
abbrev pub parts_after : ColumnLists → List ColumnType → List (List ℕ) → List ColumnMeta → List ColumnPart
parts_after lists earlier (name ∷ names) (c ∷ columns) = part_of lists earlier name c ∷ parts_after lists (type_of c ∷ earlier) names columns
parts_after lists earlier _ _ = []

-- the names of the columns of a table map
abbrev pub column_names : TableMap → List (List ℕ)
column_names m = names_of (used_metadata m).names (length m.column_types)

-- the columns of a table map
abbrev pub column_parts : TableMap → List ColumnPart
column_parts m = parts_after (lists_of (length m.column_types) (used_metadata m)) [] (column_names m) (columns_with_metadata m.column_types (Some m.metadata))
