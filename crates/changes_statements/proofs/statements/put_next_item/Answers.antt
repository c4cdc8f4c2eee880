use Rattle.std.proofs.Common.{◌≡◌, ◌≤◌, ◌<◌, length, Some, inl, inr, sym, ap, ◌∙◌, get_or, arith, rules}
use Rattle.std.proofs.lemmas.Option.{slice_get-get_or, slice_get_past}
use Rattle.changes_statements.specs.RowsOfCells.{cells_in}
use Rattle.rows_values.proofs.ReadingLemmas.{exit_same}
use Rattle.changes_statements.specs.NoStatements.{HasNoValue, IsMemoryOr}
use Rattle.changes_statements.proofs.StatementLemmas.{no_item, no_value, one_item}
use Rattle.changes_statements.proofs.statements.put_next_item.Goals as goal

pub returns-in_default-clause-text : goal.returns-in_default-clause-text
returns-in_default-clause-text c = λ start h.
    let columns = c.args.table.now.columns.items in
    let past : length columns ≤ c.args.index = search (arith, rules) in
    no_item _ _ _ _ _ start _ (inl (slice_get_past columns c.args.index past)) h

pub returns-in_default-get-clause-text : goal.returns-in_default-get-clause-text
returns-in_default-get-clause-text c = λ start h. no_item _ _ _ _ _ start _ (inr (sym c.in_default-get.ensures)) h

pub returns-clause-text : goal.returns-clause-text
returns-clause-text c = λ start h.
    let columns = c.args.table.now.columns.items in
    let column = c.in-Some.column.now in
    let few : c.args.index < length columns = search (arith, rules) in
    let is : column ≡ get_or columns c.args.index column = search (arith, rules) in
    one_item _ columns _ _ column c.in-Some-get.cell _ start _ _ _ (slice_get-get_or columns c.args.index column few ∙ ap Some (sym is)) (sym c.in-Some-get.ensures) c.in_ok-put_between.ensures c.in_ok-put_item.ensures.text h

pub returns-in_err-put_item-clause-err : goal.returns-in_err-put_item-clause-err
returns-in_err-put_item-clause-err c =
    let columns = c.args.table.now.columns.items in
    let cells = cells_in c.args.cells.now in
    let column = c.in-Some.column.now in
    let few : c.args.index < length columns = search (arith, rules) in
    let is : column ≡ get_or columns c.args.index column = search (arith, rules) in
    exit_same _ _ (IsMemoryOr (HasNoValue columns cells c.args.index)) c.from_residual-in_err-put_item.ensures
    (no_value columns cells c.args.index column c.in-Some-get.cell _ (slice_get-get_or columns c.args.index column few ∙ ap Some (sym is)) (sym c.in-Some-get.ensures) c.in_err-put_item.ensures.err)
