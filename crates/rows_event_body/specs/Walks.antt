-- A walk over the columns of a table and its lists of optional metadata.
use Rattle.std.specs.Prelude.{◌≡◌, ⊤, ℕ, suc, ◌+◌, List, [], ◌∷◌, length, drop}
use Rattle.rows_errors.specs.Readings.{Reading}
use Rattle.std.specs.declared.result.Result.{Result}
use Rattle.std.specs.declared.result.Result.TheVariants.{Ok, Err}
use Rattle.wire_constants.specs.ColumnTypes.{is_numeric, is_character, is_enum_or_set}
use Rattle.rows_errors.specs.declared.fault.RowsError.{RowsError}
use Rattle.rows_table_map.specs.ColumnViews.{remaining_columns}
use Rattle.rows_table_map.specs.MetadataViews.{signs_left, remaining_names, primary_key_left, IteratesCharsets}
use Rattle.rows_event_body.specs.declared.column.PlannedColumn.{PlannedColumn as CodeColumn}
use Rattle.rows_event_body.specs.declared.walk.ColumnWalk.{ColumnWalk}
use Rattle.rows_event_body.specs.Plans.{Table, count_before, is_json, keys_after, column_at, first_columns}
use Rattle.rows_event_body.specs.PlanViews.{column_view, own_name, columns_from}

-- the walk is before column i
pub record IsWalkAt (w : ColumnWalk) (t : Table) (i : ℕ) : Type 0 where
  pub columns : remaining_columns w.columns ≡ drop i t.columns
  pub signs : signs_left w.signs ≡ drop (count_before is_numeric t i) t.signs
  pub charsets : IteratesCharsets w.charsets (λ k. t.charset (count_before is_character t i + k))
  pub enum_charsets : IteratesCharsets w.enum_charsets (λ k. t.enum_charset (count_before is_enum_or_set t i + k))
  pub names : remaining_names w.names ≡ drop i t.names
  pub keys : primary_key_left w.keys ≡ keys_after t.keys i
  pub json : w.json_columns ≡ count_before is_json t i

-- column i was returned, and the walk is after it; or the column has this error
abbrev pub WalksColumn : Table → ℕ → Result CodeColumn RowsError → ColumnWalk → Type 0
WalksColumn t i (Ok c) new = (column_at t i ≡ Ok (column_view (own_name t.names i) c)) × IsWalkAt new t (suc i)
WalksColumn t i (Err e) new = column_at t i ≡ Err e

-- these are the columns of the table up to the first that has an error, and this is the error
pub record AreColumns (t : Table) (columns : List CodeColumn) (stop : RowsError) : Type 0 where
  pub columns_are : first_columns t (length columns) ≡ Ok (columns_from t.names 0 columns)
  pub stop_is : column_at t (length columns) ≡ Err stop

-- the columns so far, and what remains after them
pub record HasWalked (t : Table) (columns : List CodeColumn) (w : ColumnWalk) : Type 0 where
  pub columns_are : first_columns t (length columns) ≡ Ok (columns_from t.names 0 columns)
  pub at : IsWalkAt w t (length columns)

-- a name was skipped, if there was one; or it can't be read
abbrev pub SkipsName : List (Reading (List ℕ)) → Result ⊤ RowsError → List (Reading (List ℕ)) → Type 0
SkipsName [] (Ok x) after = after ≡ []
SkipsName (Ok name ∷ names) (Ok x) after = after ≡ names
SkipsName (Err e ∷ names) (Err f) after = e ≡ f
SkipsName names result after = ⊥
