use Rattle.std.proofs.Common.{sym}
use Rattle.std.proofs.lemmas.Str.{is_utf8-from_IsUtf8}
use Rattle.changes_cells.proofs.JsonFormLemmas.{refuted}
use Rattle.changes_cells.proofs.parts.try_string.Goals as goal

pub returns-in-Some-put_utf8_string-clause-text : goal.returns-in-Some-put_utf8_string-clause-text
returns-in-Some-put_utf8_string-clause-text g c = sym (is_utf8-from_IsUtf8 c.args.bytes.now c.in-Some-put_utf8_string.ensures.utf8)

pub returns-in-None-clause-text : goal.returns-in-None-clause-text
returns-in-None-clause-text g c = sym (refuted c.args.bytes.now c.in-None.ensures.utf8)
