use Rattle.feed_transactions.proofs.KnownImageLemmas.{known_put, known_unput}
use Rattle.feed_transactions.proofs.planned_rows.PlannedRows.put.Goals as goal

pub returns-clause-ok : goal.returns-clause-ok
returns-clause-ok g c = known_put c.args.self _ _ _ _ c.put_lines.result c.row_plan.ensures c.as_slice-start.ensures.value c.put_lines.ensures.ok

pub returns-clause-err : goal.returns-clause-err
returns-clause-err g c = known_unput c.args.self _ c.put_lines.result c.row_plan.ensures c.put_lines.ensures.err
