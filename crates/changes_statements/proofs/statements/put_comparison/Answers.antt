use Rattle.std.proofs.Common.{◌≡◌, ◌<◌, length, Some, sym, ap, ◌∙◌, get_or, arith, rules}
use Rattle.std.proofs.lemmas.Option.{slice_get-get_or}
use Rattle.rows_values.proofs.ReadingLemmas.{exit_same}
use Rattle.changes_statements.specs.NoStatements.{HasNoComparison, IsMemoryOr}
use Rattle.changes_statements.specs.RowsOfCells.{cells_in}
use Rattle.changes_statements.proofs.StatementLemmas.{no_comparison_of, no_value, one_compared}
use Rattle.changes_statements.proofs.statements.put_comparison.Goals as goal

pub returns-clause-text : goal.returns-clause-text
returns-clause-text c =
    let columns = c.args.table.now.columns.items in
    let column = c.in-Some.column.now in
    let few : c.args.index < length columns = search (arith, rules) in
    let is : column ≡ get_or columns c.args.index column = search (arith, rules) in
    one_compared _ columns _ _ column c.in-Some-get.cell _ _ _ (slice_get-get_or columns c.args.index column few ∙ ap Some (sym is)) (sym c.in-Some-get.ensures) c.in_ok-put_compared.ensures c.in_ok-put_literal.ensures.text

pub returns-in_err-put_literal-clause-err : goal.returns-in_err-put_literal-clause-err
returns-in_err-put_literal-clause-err c =
    let columns = c.args.table.now.columns.items in
    let cells = cells_in c.args.cells.now in
    let column = c.in-Some.column.now in
    let few : c.args.index < length columns = search (arith, rules) in
    let is : column ≡ get_or columns c.args.index column = search (arith, rules) in
    exit_same _ _ (IsMemoryOr (HasNoComparison columns cells c.args.index)) c.from_residual-in_err-put_literal.ensures
    (no_comparison_of columns cells c.args.index _ (no_value columns cells c.args.index column c.in-Some-get.cell _ (slice_get-get_or columns c.args.index column few ∙ ap Some (sym is)) (sym c.in-Some-get.ensures) c.in_err-put_literal.ensures.err))
