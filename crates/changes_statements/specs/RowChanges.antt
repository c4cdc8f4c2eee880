-- What changes of rows do to tables, as bags of rows, and what takes changes back (MySQL Reference Manual, "INSERT", "DELETE" and "UPDATE Statement").
use Rattle.std.specs.Prelude.{ℕ, suc, ◌-◌, ◌==◌, Bool, ◌&&◌, List, [], ◌∷◌, map, reverse, Option, Some, None, bytes_eq, option_and_then, if◌then◌else◌}
pub use Rattle.changes_statements.specs.declared.row_change.RowChange.{RowChange}
use Rattle.changes_statements.specs.declared.row_change.RowChange.TheVariants.{Inserted, Deleted, Updated}

-- the change that takes a change back
abbrev pub turned_round : {A : Type 0} → RowChange A → RowChange A
turned_round (Inserted row) = Deleted row
turned_round (Deleted row) = Inserted row
turned_round (Updated before now) = Updated now before

-- the changes that take changes back: the last one first, each turned round
abbrev pub undone : {A : Type 0} → List (RowChange A) → List (RowChange A)
undone l = map turned_round (reverse l)

-- a row of a table: the table's name, and the values of all columns
pub record StoredRow : Type 0 where
  pub table : List ℕ
  pub values : List ℕ

-- whether two rows are the same
abbrev pub is_same : StoredRow → StoredRow → Bool
is_same a b = bytes_eq a.table b.table && bytes_eq a.values b.values

-- the rows of all tables: how often each is there
abbrev pub Rows : Type 0
Rows = StoredRow → ℕ

-- the rows of a list
abbrev pub bag_of : List StoredRow → Rows
bag_of [] = λ q. 0
bag_of (row ∷ rows) = λ q. if is_same row q then suc (bag_of rows q) else bag_of rows q

-- the rows with one more
abbrev pub with_row : StoredRow → Rows → Rows
with_row row rows = λ q. if is_same row q then suc (rows q) else rows q

-- the rows without one of them
abbrev pub without_row : StoredRow → Rows → Rows
without_row row rows = λ q. if is_same row q then rows q - 1 else rows q

-- the rows without one of them; None if it isn't there
abbrev pub after_delete : StoredRow → Rows → Option Rows
after_delete row rows = if rows row == 0 then None else Some (without_row row rows)

-- the rows after a change; None if the row that it changes isn't there
abbrev pub after_change : RowChange StoredRow → Rows → Option Rows
after_change (Inserted row) rows = Some (with_row row rows)
after_change (Deleted row) rows = after_delete row rows
after_change (Updated before now) rows = option_and_then (λ rest. Some (with_row now rest)) (after_delete before rows)

-- the rows after changes, one after the other
abbrev pub after_changes : List (RowChange StoredRow) → Rows → Option Rows
after_changes [] rows = Some rows
after_changes (c ∷ l) rows = option_and_then (after_changes l) (after_change c rows)
