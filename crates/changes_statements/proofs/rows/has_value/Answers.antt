use Rattle.std.proofs.Common.{◌≡◌, ◌<◌, ℕ, List, length, inl, inr, Result, IsErr, IsErrAnd, IfErr, refl, sym, subst, arith, rules}
use Rattle.std.proofs.lemmas.Option.{slice_get_read}
use Rattle.std.proofs.lemmas.Result.{err_from_is_err_and}
use Rattle.changes_statements.specs.NoStatements.{HasNoItems, HasNoValue, IsMemoryOr}
use Rattle.changes_statements.specs.RowsOfCells.{Cells, cells_in}
use Rattle.changes_statements.specs.declared.no_statement.NoStatement.{NoStatement}
use Rattle.changes_statements.specs.declared.sql_table.SqlColumn.{SqlColumn}
use Rattle.changes_statements.proofs.StatementLemmas.{no_value}
use Rattle.changes_statements.proofs.rows.has_value.Goals as goal

same_error : {T E : Type 0} (r : Result T E) (e : E) (P : E → Type 0) → IsErr r × IsErrAnd r (λ y. y ≡ e) → P e → IfErr r P
same_error r e P h p = let f = err_from_is_err_and r h.1 in rw f.1 (subst P (sym f.2) p)

no_items : (columns : List SqlColumn) (cells : Cells) (index : ℕ) (e : NoStatement) → IsMemoryOr (HasNoValue columns cells index) e → IsMemoryOr (HasNoItems columns cells) e
no_items columns cells index e (inl memory) = inl memory
no_items columns cells index e (inr none) = inr (index, none)

pub returns-in_err-put_literal : goal.returns-in_err-put_literal
returns-in_err-put_literal c =
    let columns = c.args.table.now.columns.items in
    let cells = cells_in c.args.cells.now in
    let index = c.loop-index.index in
    let column = c.index-column.result.now in
    let few : index < length columns = search (arith, rules) in
    same_error _ _ (IsMemoryOr (HasNoItems columns cells)) c.from_residual.ensures
    (no_items columns cells index _ (no_value columns cells index column c.in-Some.cell _ (slice_get_read columns (length columns) index column refl few c.index-column.ensures) (sym c.in-Some.ensures) c.in_err-put_literal.ensures.err))
