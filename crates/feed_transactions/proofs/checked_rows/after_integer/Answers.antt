use Rattle.std.proofs.Common.{sym}
use Rattle.feed_transactions.proofs.CheckedRowLemmas.{null_text, integer_text}
use Rattle.feed_transactions.proofs.checked_rows.after_integer.Goals as goal

pub returns-then-field : goal.returns-then-field
returns-then-field c = null_text _ _ c.args.field.bytes.now c.if-field.true

pub returns : goal.returns
returns c = integer_text _ _ c.args.field.bytes.now c.in-Ok.rest.now c.in-Signed.width c.in-Ok.field-0-0 c.if-field.false c.in-Signed.is (sym c.in-Ok.ensures)
