use Rattle.changes_writers.proofs.Base64Lemmas.{object_written}
use Rattle.changes_writers.proofs.base64_text.put_base64_object.Goals as goal

pub returns-clause-text : goal.returns-clause-text
returns-clause-text c = object_written _ _ _ _ c.args.bytes.now c.put_bytes-start.ensures.text c.put_base64_string-end.ensures.text c.put_byte.ensures.text
