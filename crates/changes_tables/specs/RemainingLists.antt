-- What the lists of the optional metadata have for the remaining columns.
use Rattle.std.specs.Prelude.{◌≡◌, ℕ, Bool, List, [], drop, Option, Some, None, unwrap_or, if◌then◌else◌}
use Rattle.std.specs.List.{slice_get}
use Rattle.std.specs.Vec.Iter.{into_iter_items}
use Rattle.wire_constants.specs.ColumnTypes.{is_enum_or_set, is_enum, is_set}
use Rattle.wire_constants.specs.declared.column_type.ColumnType.{ColumnType}
use Rattle.rows_errors.specs.Readings.{Reading}
use Rattle.rows_table_map.specs.declared.str_values.IterStrValues.{IterStrValues}
use Rattle.rows_table_map.specs.MetadataViews.{remaining_members}
use Rattle.changes_tables.specs.declared.members.MemberLists.{MemberLists}
use Rattle.rows_table_map.specs.ColumnMetadata.{ColumnMeta}
use Rattle.changes_tables.specs.declared.columns.Remaining.{Remaining}
use Rattle.changes_tables.specs.ColumnParts.{ColumnLists, ColumnPart, has_text, part_of, read_members}

-- the members of the remaining columns of one type
abbrev pub lists_in : Option IterStrValues → List (Reading (List (List ℕ)))
lists_in None = []
lists_in (Some it) = remaining_members it

abbrev pub lists_left : MemberLists → List (Reading (List (List ℕ)))
lists_left m = lists_in m.lists

-- the members of the next column, if there are some that can be read, and the lists that remain
pub record ReturnsList (old : List (Reading (List (List ℕ)))) (members : Option (List (List ℕ))) (new : List (Reading (List (List ℕ)))) : Type 0 where
  pub returned : unwrap_or members [] ≡ read_members (slice_get old 0)
  pub remaining : new ≡ drop 1 old

-- the first entry for a column of a kind, if it is of the kind
abbrev pub next_entry : {A : Type 0} → Bool → List A → Option A
next_entry is_kind entries = if is_kind then slice_get entries 0 else None

-- the entries after that of a column
abbrev pub after_entry : {A : Type 0} → Bool → List A → List A
after_entry is_kind entries = drop (if is_kind then 1 else 0) entries

-- the members of a column of this type that comes first in these lists
abbrev pub first_members : List (Reading (List (List ℕ))) → List (Reading (List (List ℕ))) → ColumnType → List (List ℕ)
first_members enums sets t =
    if is_enum t then read_members (slice_get enums 0)
    else if is_set t then read_members (slice_get sets 0)
    else []

-- what the code has of the lists
abbrev pub remaining_lists : Remaining → ColumnLists
remaining_lists r = record {
  texts = into_iter_items r.texts;
  members = into_iter_items r.members;
  enums = lists_left r.values.enums;
  sets = lists_left r.values.sets;
}

-- the lists after a column of this type
abbrev pub after_column : ColumnLists → ColumnType → ColumnLists
after_column lists t = record {
  texts = after_entry (has_text t) lists.texts;
  members = after_entry (is_enum_or_set t) lists.members;
  enums = after_entry (is_enum t) lists.enums;
  sets = after_entry (is_set t) lists.sets;
}

-- a column that comes first in the lists
abbrev pub first_part : ColumnLists → List ℕ → ColumnMeta → ColumnPart
first_part lists name c = part_of lists [] name c
