use Rattle.changes_statements.proofs.ReadRowLemmas.{RowSoFar}
use Rattle.changes_statements.proofs.rows.read_row.Given as goal

abbrev pub invariant-loop : goal.invariant-loop
invariant-loop l = RowSoFar l.initial.cursor l.cursor
