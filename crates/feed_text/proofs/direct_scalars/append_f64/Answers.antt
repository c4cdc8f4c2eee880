use Rattle.std.proofs.Common.{refl}
use Rattle.std.proofs.lemmas.Result.{on_ok_weaker}
use Rattle.rows_jsonb.specs.JsonTrees.{double}
use Rattle.rows_jsonb.specs.JsonbValues.{double as double_value}
use Rattle.feed_text.specs.DocumentForms.{IsScalarIn}
use Rattle.feed_text.proofs.DirectLemmas.{typed_scalar, f64_typed}
use Rattle.feed_text.proofs.direct_scalars.append_f64.Goals as goal

pub returns-clause-ok : goal.returns-clause-ok
unfolding IsScalarIn
returns-clause-ok g c = on_ok_weaker c.append_double.result (λ e. typed_scalar _ _ c.args.bytes.now _ _ e.text (double_value c.in-Some.bits) (double c.in-Some.bits) (f64_typed _ _ _ c.in-Some.ensures.some) refl e.such e.appended) c.append_double.ensures.ok
