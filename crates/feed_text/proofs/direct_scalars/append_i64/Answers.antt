use Rattle.std.proofs.Common.{rules, ◌++◌, ℤ, refl, ap, ◌∙◌}
use Rattle.std.proofs.lemmas.Result.{on_ok_weaker}
use Rattle.std.specs.Fmt.{signed_decimal}
use Rattle.rows_jsonb.specs.JsonTrees.{int}
use Rattle.rows_jsonb.specs.JsonbValues.{i64}
use Rattle.feed_text.specs.Buffers.{text_in}
use Rattle.feed_text.specs.DocumentForms.{IsScalarIn}
use Rattle.feed_text.proofs.DirectLemmas.{typed_scalar, i64_typed}
use Rattle.feed_text.proofs.direct_scalars.append_i64.Goals as goal

pub returns-clause-ok : goal.returns-clause-ok
unfolding IsScalarIn
returns-clause-ok g c = on_ok_weaker c.append_int.result (λ e. typed_scalar _ _ c.args.bytes.now _ _ _ (i64 c.in-Some.number) (int c.in-Some.number) (i64_typed _ _ _ c.in-Some.ensures.some) refl refl (e ∙ ap (λ (z : ℤ). text_in c.args.out.now ++ signed_decimal z) (search rules))) c.append_int.ensures.ok
