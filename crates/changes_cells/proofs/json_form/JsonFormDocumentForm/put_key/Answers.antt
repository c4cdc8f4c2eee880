use Rattle.changes_cells.proofs.JsonFormLemmas.{utf8_if_some, not_utf8_if_none}
use Rattle.changes_cells.proofs.json_form.JsonFormDocumentForm.put_key.Goals as goal

pub returns-clause-none : goal.returns-clause-none
returns-clause-none c = not_utf8_if_none c.put_utf8_string.result c.args.bytes.now c.put_utf8_string.ensures.utf8

pub returns-clause-utf8 : goal.returns-clause-utf8
returns-clause-utf8 c = utf8_if_some c.put_utf8_string.result c.args.bytes.now c.put_utf8_string.ensures.utf8
