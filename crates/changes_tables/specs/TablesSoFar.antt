-- The tables so far, by the bytes of their table maps.
use Rattle.std.specs.Prelude.{◌≡◌, ◌||◌, ℕ, false, List, Option, Some, option_map, All, IsSomeAnd}
use Rattle.std.specs.List.{slice_get}
use Rattle.rows_table_map.specs.TableMaps.{TableMap}
use Rattle.changes_tables.specs.declared.tables.Lacks.{Lacks}
use Rattle.changes_tables.specs.declared.tables.ShownTable.{ShownTable}
use Rattle.changes_tables.specs.declared.shown_tables.KeptTable.{KeptTable}
use Rattle.changes_tables.specs.declared.shown_tables.ShownTables.{ShownTables}
use Rattle.changes_tables.specs.declared.columns.TableOptions.{TableOptions}
use Rattle.changes_tables.specs.ShownTables.{IsShownTable}

-- the table is that of the table map that `reads` finds in its bytes, if it finds one
abbrev pub IsKept : TableOptions → (List ℕ → Option TableMap) → KeptTable → Type 0
IsKept options reads kept = (m : TableMap) → reads kept.map.items ≡ Some m → IsShownTable options m kept.table

-- each table is that of the table map that `reads` finds in its bytes, if it finds one
abbrev pub Keeps : (List ℕ → Option TableMap) → ShownTables → Type 0
Keeps reads t = All (IsKept t.options reads) t.tables.items

-- there is a newest table, and its table map has these bytes
abbrev pub IsNewest : List ℕ → ShownTables → Type 0
IsNewest bytes t = IsSomeAnd (slice_get t.tables.items t.newest) (λ kept. kept.map.items ≡ bytes)

-- the newest table, if there is one
abbrev pub newest_table : ShownTables → Option ShownTable
newest_table t = option_map (λ kept. kept.table) (slice_get t.tables.items t.newest)

-- no table map so far lacks anything
abbrev pub lacks_nothing : Lacks
lacks_nothing = record { signs = false; character_sets = false }

-- what one or the other lacks
abbrev pub both_lack : Lacks → Lacks → Lacks
both_lack a b = record { signs = a.signs || b.signs; character_sets = a.character_sets || b.character_sets }
