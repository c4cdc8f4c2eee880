use Rattle.std.proofs.lemmas.Result.{on_ok_weaker}
use Rattle.changes_writers.proofs.Base64Lemmas.{object_written}
use Rattle.changes_cells.proofs.pieces.append_base64_object.Goals as goal

pub returns-clause-ok : goal.returns-clause-ok
returns-clause-ok g c = on_ok_weaker c.put.result (λ e. object_written _ _ _ _ c.args.bytes.now c.in_ok-put_text.ensures.ok c.in_ok-append_base64_string.ensures.ok e) c.put.ensures.ok
