use Rattle.std.proofs.Common.{◌≡◌, ◌<◌, length, arith, rules}
use Rattle.rows_values.proofs.ReadingLemmas.{exit_same}
use Rattle.changes_statements.specs.NoStatements.{HasNoCondition, IsMemoryOr}
use Rattle.changes_statements.specs.RowsOfCells.{cells_in}
use Rattle.changes_statements.proofs.StatementLemmas.{by_all, by_key, no_key, none_of_all}
use Rattle.changes_statements.proofs.statements.put_condition.Goals as goal

pub returns-in_err-put_key-clause-err : goal.returns-in_err-put_key-clause-err
returns-in_err-put_key-clause-err c =
    let table = c.args.table.now in
    let cells = cells_in c.args.cells.now in
    let some : 0 < length table.key.items = search (arith, rules) in
    exit_same c.from_residual-in_err-put_key.result _ (IsMemoryOr (HasNoCondition table cells)) c.from_residual-in_err-put_key.ensures (no_key table cells _ some c.in_err-put_key.ensures.err)

pub returns-then-not-is_empty-clause-text : goal.returns-then-not-is_empty-clause-text
returns-then-not-is_empty-clause-text c =
    let some : 0 < length c.args.table.now.key.items = search (arith, rules) in
    by_key c.args.table.now (cells_in c.args.cells.now) _ _ _ some c.in_ok-put_text.ensures.ok c.in_ok-put_key.ensures.text

pub returns-in_err-put_all_columns-clause-err : goal.returns-in_err-put_all_columns-clause-err
returns-in_err-put_all_columns-clause-err c =
    let table = c.args.table.now in
    let cells = cells_in c.args.cells.now in
    let none : length table.key.items ≡ 0 = search (arith, rules) in
    exit_same c.from_residual-in_err-put_all_columns.result _ (IsMemoryOr (HasNoCondition table cells)) c.from_residual-in_err-put_all_columns.ensures (none_of_all table cells _ none c.in_err-put_all_columns.ensures.err)

pub returns-clause-text : goal.returns-clause-text
returns-clause-text c =
    let none : length c.args.table.now.key.items ≡ 0 = search (arith, rules) in
    by_all c.args.table.now (cells_in c.args.cells.now) _ _ _ _ none c.in_ok-put_text.ensures.ok c.in_ok-put_all_columns.ensures.text c.in_ok-put_text-2.ensures.ok
