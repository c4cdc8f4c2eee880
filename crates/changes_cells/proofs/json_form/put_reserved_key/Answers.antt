use Rattle.std.proofs.lemmas.Str.{is_utf8-from_IsUtf8}
use Rattle.changes_cells.proofs.JsonFormLemmas.{refuted, reserved_written}
use Rattle.changes_cells.proofs.json_form.put_reserved_key.Goals as goal

pub returns-in_default-clause-none : goal.returns-in_default-clause-none
returns-in_default-clause-none c = refuted c.args.key.now c.in_default.ensures.cases.0

pub returns-clause-utf8 : goal.returns-clause-utf8
returns-clause-utf8 c = is_utf8-from_IsUtf8 _ c.in-Ok.ensures.cases.1

pub returns-clause-text : goal.returns-clause-text
returns-clause-text c = reserved_written _ _ _ _ c.args.key.now c.put_bytes-start.ensures.text c.put_string_content-end.ensures.text c.put_byte.ensures.text
