use Rattle.std.proofs.Common.{inr, sym, ◌∙◌}
use Rattle.feed_transactions.proofs.CheckedRowLemmas.{plain_passes, document_passes}
use Rattle.feed_transactions.proofs.checked_rows.check_next.Goals as goal

pub returns-then-not-is_document-clause-ok : goal.returns-then-not-is_document-clause-ok
returns-then-not-is_document-clause-ok c =
    plain_passes c.args.cells.now c.next_cell.new.self c.in-Ok-Some.column c.in-Ok-Some.cell (rw c.in-Ok-Some.field-0-is at c.in-Ok-Some.ensures) (sym c.is_document.ensures ∙ c.if-not-is_document.true)

pub returns-in-Ok-clause-ok : goal.returns-in-Ok-clause-ok
returns-in-Ok-clause-ok c =
    document_passes c.args.cells.now c.next_cell.new.self c.in-Ok-Some.column c.in-Ok-Some.cell (rw c.in-Ok-Some.field-0-is at c.in-Ok-Some.ensures) c.in-Ok.ensures.ok

pub returns-in-Err-check_document-clause-err : goal.returns-in-Err-check_document-clause-err
returns-in-Err-check_document-clause-err c = (
  c.in-Err-check_document.fault,
  c.row_verdict.ensures,
  inr (record {
    column = c.in-Ok-Some.column;
    cell = c.in-Ok-Some.cell;
    after = c.next_cell.new.self;
    read = rw c.in-Ok-Some.field-0-is at c.in-Ok-Some.ensures;
    why = c.in-Err-check_document.ensures.err;
  }),
)
