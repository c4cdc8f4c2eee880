use Rattle.std.proofs.lemmas.Result.{on_ok_weaker}
use Rattle.changes_writers.proofs.StringLemmas.{quotes_written}
use Rattle.changes_cells.proofs.pieces.append_string.Goals as goal

pub returns-clause-ok : goal.returns-clause-ok
returns-clause-ok g c = on_ok_weaker c.put-2.result (λ e. quotes_written _ _ _ _ c.args.bytes.now c.in_ok-put.ensures.ok c.in_ok-append_content.ensures.ok e) c.put-2.ensures.ok
