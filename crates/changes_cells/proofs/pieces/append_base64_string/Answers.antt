use Rattle.std.proofs.lemmas.Result.{on_ok_weaker}
use Rattle.changes_writers.proofs.Base64Lemmas.{base64_quoted, bytes_fit}
use Rattle.changes_cells.proofs.pieces.append_base64_string.Goals as goal

pub returns-clause-ok : goal.returns-clause-ok
returns-clause-ok g c = on_ok_weaker c.put-2.result (λ e. base64_quoted _ _ _ _ c.args.bytes.now (bytes_fit c.args.bytes.now c.type_inv.bytes) c.in_ok-put.ensures.ok c.in_ok-append_base64.ensures.ok e) c.put-2.ensures.ok
