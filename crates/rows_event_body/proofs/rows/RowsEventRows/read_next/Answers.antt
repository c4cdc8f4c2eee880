use Rattle.std.proofs.Common.{sym}
use Rattle.rows_event_body.proofs.PairLemmas.{prefix_known}
use Rattle.rows_event_body.proofs.rows.RowsEventRows.read_next.Goals as goal

pub returns-clause-prefix : goal.returns-clause-prefix
returns-clause-prefix c = λ t r bytes at. prefix_known c.args.self.now t r bytes c.unwrap.result.now c.read.result at (rw c.unwrap.ensures at (sym c.as_ref.ensures.value)) c.read.ensures.ok c.read.ensures.err
