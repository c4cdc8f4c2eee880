use Rattle.std.proofs.Common.{sym}
use Rattle.rows_jsonb.proofs.DiffLemmas.{text_read, text_fails}
use Rattle.rows_jsonb.proofs.diff.split_text.Goals as goal

pub returns-in-Some : goal.returns-in-Some
returns-in-Some c = sym (text_read _ _ _ c.in-Some.ensures.some.begins)

pub returns-in-None : goal.returns-in-None
returns-in-None c = sym (text_fails _ c.in-None.ensures.none.0)
