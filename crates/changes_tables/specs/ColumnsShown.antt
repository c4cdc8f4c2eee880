-- The columns of a table as JSON lines show them (MySQL Reference Manual, "Data Types").
use Rattle.std.specs.Prelude.{◌≡◌, ◌++◌, ◌∷◌, []}
use Rattle.std.specs.List.{AllZip}
use Rattle.changes_writers.specs.JsonStrings.{json_string}
use Rattle.changes_tables.specs.declared.columns.Shown.{Shown}
use Rattle.changes_tables.specs.declared.columns.TableOptions.{TableOptions}
use Rattle.changes_tables.specs.ShownColumns.{ColumnView}
use Rattle.changes_tables.specs.ColumnParts.{ColumnPart}
use Rattle.changes_tables.specs.HowShown.{IsColumnText, shown_of}
use Rattle.changes_tables.specs.MemberTexts.{IsMemberJson}

-- a column that is shown by these options; `text` is how its text is shown
pub record IsColumn (options : TableOptions) (part : ColumnPart) (view : ColumnView) : Type 0 where
  pub text : Shown
  pub text_is : IsColumnText options.unnamed part.collation text
  pub key : view.key ≡ json_string part.name ++ 58 ∷ []
  pub shown : view.shown ≡ shown_of part.column_type part.metadata text options.quotes_numbers
  pub members : AllZip (IsMemberJson text) part.members view.members
