-- Cells without a value in a line.
use Rattle.std.proofs.Common.{◌≡◌, ◌⊎◌, Result, IsErr, IsErrAnd, IfErr, inl, inr, refl, sym, subst}
use Rattle.std.proofs.lemmas.Result.{err_from_is_err_and}
use Rattle.rows_cells.specs.declared.cell.CellRef.{CellRef}
use Rattle.rows_cells.specs.declared.cell.CellRef.TheVariants as cell
use Rattle.changes_statements.specs.NoStatements.{IsMemoryOr}
use Rattle.changes_statements.specs.declared.no_statement.NoStatement.{NoStatement}
use Rattle.changes_formats.specs.RefusedCells.{HasNoMember, IsUnprinted}

-- the error that a `?` passes on
pub passed_on : {T E : Type 0} (r : Result T E) (e : E) (P : E → Type 0) → IsErr r × IsErrAnd r (λ y. y ≡ e) → P e → IfErr r P
passed_on r e P h p = let f = err_from_is_err_and r h.1 in rw f.1 (subst P (sym f.2) p)

unprinted : (c : CellRef) (e : NoStatement) → HasNoMember c e → IsUnprinted e
unfolding HasNoMember
unprinted (cell.Float bits) e h = inr (inr h.1)
unprinted (cell.Double bits) e h = inr (inr h.1)
unprinted (cell.Decimal precision scale b) e h = inl h.1
unprinted (cell.Json b) e h = inl h.row
unprinted (cell.JsonDiffs b) e h = inr (inl h)
unprinted _ e h = absurd h

pub member_error : (c : CellRef) (e : NoStatement) → IsMemoryOr (HasNoMember c) e → IsMemoryOr IsUnprinted e
member_error c e (inl memory) = inl memory
member_error c e (inr h) = inr (unprinted c e h)
