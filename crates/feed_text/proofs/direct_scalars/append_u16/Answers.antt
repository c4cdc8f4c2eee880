use Rattle.std.proofs.Common.{◌++◌, ℕ, refl, ap, ◌∙◌}
use Rattle.std.proofs.lemmas.Result.{on_ok_weaker}
use Rattle.rows_jsonb.specs.JsonTrees.{uint}
use Rattle.rows_jsonb.specs.JsonbValues.{u16}
use Rattle.feed_text.specs.Buffers.{text_in}
use Rattle.feed_text.specs.DocumentForms.{IsScalarIn}
use Rattle.feed_text.proofs.DirectLemmas.{typed_scalar, u16_typed}
use Rattle.feed_text.proofs.direct_scalars.append_u16.Goals as goal

pub returns-clause-ok : goal.returns-clause-ok
unfolding IsScalarIn
returns-clause-ok g c = on_ok_weaker c.append_uint.result (λ e. typed_scalar _ _ c.args.bytes.now _ _ _ (u16 c.in-Some.number) (uint c.in-Some.number) (u16_typed _ _ _ c.in-Some.ensures.some) refl refl (e ∙ ap (λ (n : ℕ). text_in c.args.out.now ++ g.F.DocumentForm.form.uint n) c.from.ensures)) c.append_uint.ensures.ok
