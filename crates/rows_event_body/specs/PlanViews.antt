-- The columns that a plan of the code represents, and the plan of a table map.
use Rattle.std.specs.Prelude.{◌≡◌, ◌==◌, count_by, ℕ, Bool, false, List, [], ◌∷◌, ◌+◌, length, take, Option, Some, None, nat_le, if◌then◌else◌}
use Rattle.std.specs.Borrow.{Bor}
use Rattle.std.specs.declared.result.Result.TheVariants.{Ok, Err}
use Rattle.wire_constants.specs.ColumnTypes.{column_type_number}
use Rattle.wire_constants.specs.declared.column_type.ColumnType.TheVariants.{MYSQL_TYPE_JSON}
use Rattle.rows_errors.specs.Readings.{Reading, ◌>>=◌}
use Rattle.rows_table_map.specs.ColumnViews.{table_map_columns}
use Rattle.rows_table_map.specs.MapViews.{map_of}
use Rattle.rows_table_map.specs.declared.table_map.TableMapEvent.{TableMapEvent}
use Rattle.rows_table_map.specs.Lists.{strings}
use Rattle.rows_table_map.specs.MetadataFields.{fields}
use Rattle.rows_table_map.specs.Extracted.{extracted}
use Rattle.rows_event_body.specs.declared.column.PlannedColumn.{PlannedColumn as CodeColumn}
use Rattle.rows_event_body.specs.declared.plan.ColumnPlan.{ColumnPlan}
use Rattle.rows_event_body.specs.declared.run.ColumnRun.{ColumnRun}
use Rattle.rows_event_body.specs.Plans.{PlannedColumn, table_columns_of, name_at, first_columns}

-- the name that was read; empty if there is none
abbrev pub name_or_empty : Reading (List ℕ) → List ℕ
name_or_empty (Ok name) = name
name_or_empty (Err e) = []

-- a column with this name
abbrev pub column_view : List ℕ → CodeColumn → PlannedColumn
column_view name c = record {
  real_type = c.real_type;
  image = c.image;
  is_unsigned = c.is_unsigned;
  character_set = c.character_set;
  name = name;
  is_key = c.is_key;
}

-- the name of column i among those of its table
abbrev pub own_name : List (Reading (List ℕ)) → ℕ → List ℕ
own_name names i = name_or_empty (name_at names i)

-- columns, the first of which is column i of its table
abbrev pub columns_from : List (Reading (List ℕ)) → ℕ → List CodeColumn → List PlannedColumn
columns_from names i [] = []
columns_from names i (c ∷ cs) = column_view (own_name names i) c ∷ columns_from names (i + 1) cs

abbrev pub columns_shown : List (Reading (List ℕ)) → Bor (List CodeColumn) → List PlannedColumn
columns_shown names columns = columns_from names 0 columns.now

-- The plan for the first n columns of a table. It exists only if the fields of the optional metadata can be read and none of these columns has an error.
abbrev pub plan_of : TableMapEvent → ℕ → Reading (List PlannedColumn)
plan_of t n = extracted (fields (map_of t).column_types (map_of t).optional_metadata) >>= λ e. first_columns (table_columns_of (table_map_columns t) e) n

-- the first n columns of a run, or the error of the first that has no plan
abbrev pub planned : ColumnRun → ℕ → Reading (List PlannedColumn)
planned p n =
    if p.is_served then (if nat_le n (length p.columns.items) then Ok (take n (columns_from (strings p.names.items) 0 p.columns.items)) else Err p.stop)
    else Err p.stop

-- whether n is at most the reach of a plan
abbrev pub is_within_reach : ℕ → Option ℕ → Bool
is_within_reach n None = false
is_within_reach n (Some reach) = nat_le n reach

-- the number of columns of type JSON
abbrev pub json_count : List ℕ → ℕ
json_count types = count_by (λ n. n == column_type_number MYSQL_TYPE_JSON) types

-- all that a plan has about a table
pub record IsPlanOf (p : ColumnPlan) (t : TableMapEvent) : Type 0 where
  pub columns : (n : ℕ) → planned p.run n ≡ plan_of t n
  pub database : p.database.items ≡ (map_of t).database
  pub table : p.table.items ≡ (map_of t).table
  pub json_columns : p.json_columns ≡ json_count (map_of t).column_types
