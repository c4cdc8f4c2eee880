use Rattle.changes_writers.proofs.Base64Lemmas.{base64_quoted, bytes_fit}
use Rattle.changes_writers.proofs.base64_text.put_base64_string.Goals as goal

pub returns-clause-text : goal.returns-clause-text
returns-clause-text c = base64_quoted _ _ _ _ c.args.bytes.now (bytes_fit c.args.bytes.now c.type_inv.bytes) c.put_byte-start.ensures.text c.put_base64-end.ensures.text c.put_byte.ensures.text
