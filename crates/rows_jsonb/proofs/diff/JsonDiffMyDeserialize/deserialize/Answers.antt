use Rattle.std.proofs.Common.{inr, sym}
use Rattle.rows_jsonb.proofs.DiffLemmas.{diff_read, diff_failed}
use Rattle.rows_jsonb.proofs.diff.JsonDiffMyDeserialize.deserialize.Goals as goal

pub returns-in-Ok-clause-ok : goal.returns-in-Ok-clause-ok
returns-in-Ok-clause-ok c = diff_read _ _ _ (sym c.in-Ok.ensures)

pub returns-in-Err-clause-err : goal.returns-in-Err-clause-err
returns-in-Err-clause-err c = inr (diff_failed _ _ (sym c.in-Err.ensures))
