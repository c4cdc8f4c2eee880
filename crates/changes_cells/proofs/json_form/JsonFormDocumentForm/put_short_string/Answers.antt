use Rattle.std.proofs.Common.{take}
use Rattle.changes_cells.proofs.JsonFormLemmas.{utf8_by_ascii}
use Rattle.changes_cells.proofs.json_form.JsonFormDocumentForm.put_short_string.Goals as goal

pub returns-clause-utf8 : goal.returns-clause-utf8
returns-clause-utf8 c = utf8_by_ascii c.put_plain_string.result (take c.args.len c.args.bytes.now) c.put_plain_string.ensures.ascii
