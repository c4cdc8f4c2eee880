-- The rows of tables: sums of what each has in the transactions.
use Rattle.std.specs.Prelude.{◌≡◌, ◌+◌, ℕ, List, [], ◌∷◌, ◌++◌, Option, Some, None, length, filter, map}
use Rattle.std.specs.Option.{option_map}
use Rattle.std.specs.Ordering.{nat_cmp}
use Rattle.std.specs.Cmp.Lexicographic.{slice_cmp}
use Rattle.std.specs.Str.{bytes_eq}
use Rattle.std.specs.BTreeMap.{BTreeMap, get_by}
use Rattle.std.specs.Global.{Vec}
use Rattle.changes_stats.specs.RowSums.{capped, sum_of_counts}
use Rattle.changes_stats.specs.declared.counts.RowCounts.{RowCounts}
use Rattle.changes_stats.specs.declared.tables.TableList.{TableList}
use Rattle.changes_stats.specs.declared.tables.TableTotals.{TableTotals}

-- the rows of a table in a transaction
pub record NamedCounts : Type 0 where
  pub name : List ℕ
  pub counts : RowCounts

-- the same, as an entry of the program's map has it
abbrev pub named_counts : Vec ℕ × RowCounts → NamedCounts
named_counts e = record { name = e.0.items; counts = e.1 }

-- the tables by their names, each with its rows
abbrev pub tables_in : BTreeMap (Vec ℕ) RowCounts → List NamedCounts
tables_in m = map named_counts m.entries

-- those of the table with a name
abbrev pub of_table : List ℕ → List NamedCounts → List RowCounts
of_table name l = map (λ t. t.counts) (filter (λ t. bytes_eq name t.name) l)

-- the sum of rows, if there are any
abbrev pub summed : List RowCounts → List RowCounts
summed [] = []
summed (c ∷ l) = sum_of_counts (c ∷ l) ∷ []

-- each table is once among these, with the sum of its rows
abbrev pub AreSummed : List NamedCounts → List NamedCounts → Type 0
AreSummed tables l = (name : List ℕ) → of_table name tables ≡ summed (of_table name l)

-- the rows of a table were added
abbrev pub AddsRows : List NamedCounts → List NamedCounts → NamedCounts → Type 0
AddsRows old new t = (l : List NamedCounts) → AreSummed old l → AreSummed new (l ++ t ∷ [])

-- the sums of a table, and in how many transactions it is; none if it is in none
pub record Sums : Type 0 where
  pub counts : RowCounts
  pub transactions : ℕ

-- those of a table's rows in each transaction
abbrev pub sums_of : List RowCounts → Option Sums
sums_of [] = None
sums_of (c ∷ l) = Some (record { counts = sum_of_counts (c ∷ l); transactions = capped (length (c ∷ l)) })

-- the same, as a `TableTotals` has it
abbrev pub sums_in : TableTotals → Sums
sums_in t = record { counts = t.counts; transactions = t.transactions }

-- the total of the table with a name
abbrev pub total_at : BTreeMap (Vec ℕ) TableTotals → List ℕ → Option TableTotals
total_at totals name = get_by (λ (k : Vec ℕ). slice_cmp nat_cmp name k.items) totals

-- they are the sums of these rows
abbrev pub AreSums : BTreeMap (Vec ℕ) TableTotals → List NamedCounts → Type 0
AreSums totals l = (name : List ℕ) → option_map sums_in (total_at totals name) ≡ sums_of (of_table name l)

-- the tables have the sums of these rows
abbrev pub AreTables : TableList → List NamedCounts → Type 0
AreTables t l = AreSums t.totals l
