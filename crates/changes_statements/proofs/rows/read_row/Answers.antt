use Rattle.changes_statements.proofs.ReadRowLemmas.{kept, none_so_far, row_read}
use Rattle.changes_statements.proofs.rows.read_row.Goals as goal

pub loop-init : goal.loop-init
loop-init c = none_so_far c.args.cursor.now

pub returns-in-EndOfRow-clause-row : goal.returns-in-EndOfRow-clause-row
returns-in-EndOfRow-clause-row c = λ bytes between. row_read c.args.cursor.now c.loop.cursor c.next_part.new.self bytes c.in-Ok-Some.part c.in-EndOfRow.is (rw c.in-Ok-Some.field-0-is at c.in-Ok-Some.ensures) between c.loop.invariant

pub loop-preserved : goal.loop-preserved
loop-preserved c = kept c.args.cursor.now c.loop.cursor c.next_part.new.self c.in-Ok-Some.part (rw c.in-Ok-Some.field-0-is at c.in-Ok-Some.ensures) c.in_default.not-EndOfRow c.loop.invariant
