use Rattle.std.proofs.Common.{refl}
use Rattle.std.proofs.lemmas.Result.{on_ok_weaker}
use Rattle.rows_jsonb.specs.JsonTrees.{uint}
use Rattle.rows_jsonb.specs.JsonbValues.{u64}
use Rattle.feed_text.specs.DocumentForms.{IsScalarIn}
use Rattle.feed_text.proofs.DirectLemmas.{typed_scalar, u64_typed}
use Rattle.feed_text.proofs.direct_scalars.append_u64.Goals as goal

pub returns-clause-ok : goal.returns-clause-ok
unfolding IsScalarIn
returns-clause-ok g c = on_ok_weaker c.append_uint.result (λ e. typed_scalar _ _ c.args.bytes.now _ _ _ (u64 c.in-Some.number) (uint c.in-Some.number) (u64_typed _ _ _ c.in-Some.ensures.some) refl refl (e)) c.append_uint.ensures.ok
