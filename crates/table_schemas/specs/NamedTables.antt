-- The tables of a schema by their names, as table maps have them (MySQL Internals: Table_map_event).
use Rattle.std.specs.Prelude.{◌≡◌, ℕ, Bool, false, List, [], ◌∷◌, ◌++◌, length, Option, Some}
use Rattle.std.specs.Global.{Vec}
use Rattle.std.specs.Ordering.{nat_cmp}
use Rattle.std.specs.Cmp.Lexicographic.{slice_cmp}
use Rattle.std.specs.BTreeMap.{is_at}
use Rattle.std.specs.Map.{lookup}
use Rattle.table_schemas.specs.declared.schema.Schema.{Schema}
use Rattle.table_schemas.specs.declared.schema_table.SchemaTable.{SchemaTable}

-- tables by their names
abbrev pub NamedTables : Type 0
NamedTables = List (Vec ℕ × SchemaTable)

-- the tables of a schema
abbrev pub named_in : Schema → NamedTables
named_in s = s.tables.entries

-- the names of a table as a table map's body has them: each after its length, and with a byte without meaning after it, which servers write as 0
abbrev pub names_of : List ℕ → List ℕ → List ℕ
names_of database table = (length database ∷ database) ++ (0 ∷ length table ∷ table) ++ 0 ∷ []

-- whether these are the names of a table
abbrev pub is_named : List ℕ → Vec ℕ → Bool
is_named names k = is_at (λ (k : Vec ℕ). slice_cmp nat_cmp names k.items) k

-- a table by its names
abbrev pub table_named : List ℕ → NamedTables → Option SchemaTable
table_named names tables = lookup (is_named names) tables

-- a table was added under these names, or put in place of the one that had them; the others are unchanged
pub record AddsTable (names : List ℕ) (t : SchemaTable) (old new : NamedTables) : Type 0 where
  pub added : table_named names new ≡ Some t
  pub others : (k : Vec ℕ) → is_named names k ≡ false → table_named k.items new ≡ table_named k.items old
