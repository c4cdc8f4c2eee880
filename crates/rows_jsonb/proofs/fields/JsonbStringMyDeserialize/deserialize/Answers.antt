use Rattle.std.proofs.Common.{inr}
use Rattle.rows_jsonb.proofs.fields.JsonbStringMyDeserialize.deserialize.Goals as goal

pub returns-in-Err-clause-err : goal.returns-in-Err-clause-err
returns-in-Err-clause-err c = inr c.in-Err.ensures.why.0
