use Rattle.feed_transactions.proofs.CheckedRowLemmas.{field_passes}
use Rattle.feed_transactions.proofs.checked_rows.skip_integer.Goals as goal

pub returns-clause-skips : goal.returns-clause-skips
returns-clause-skips c = λ t. field_passes c.args.cells.now c.skip_field.new.self c.in-Some.field c.in-Some-after_integer.rest.now c.in-Some.ensures.some c.in-Some-after_integer.ensures c.skip_field.ensures.cell
