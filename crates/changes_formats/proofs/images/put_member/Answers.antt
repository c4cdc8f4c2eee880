use Rattle.rows_values.proofs.ReadingLemmas.{exit_same}
use Rattle.changes_statements.specs.NoStatements.{IsMemoryOr}
use Rattle.changes_formats.specs.RefusedCells.{IsUnprinted}
use Rattle.changes_formats.proofs.RefusedLemmas.{member_error}
use Rattle.changes_formats.proofs.images.put_member.Goals as goal

pub returns-in_err-put_value : goal.returns-in_err-put_value
returns-in_err-put_value c = exit_same _ _ (IsMemoryOr IsUnprinted) c.from_residual-in_err-put_value.ensures (member_error _ _ c.in_err-put_value.ensures.err)
