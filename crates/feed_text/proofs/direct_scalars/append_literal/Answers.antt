use Rattle.std.proofs.Common.{rules, true, false, refl}
use Rattle.std.proofs.lemmas.Result.{on_ok_weaker}
use Rattle.rows_jsonb.specs.JsonTrees as tree
use Rattle.rows_jsonb.specs.JsonbValues as seen
use Rattle.feed_text.specs.DocumentForms.{IsScalarIn}
use Rattle.feed_text.proofs.DirectLemmas.{typed_scalar, literal_typed}
use Rattle.feed_text.proofs.direct_scalars.append_literal.Goals as goal

pub returns-in-0-clause-ok : goal.returns-in-0-clause-ok
unfolding IsScalarIn
returns-in-0-clause-ok g c = on_ok_weaker c.append.result (λ e. typed_scalar _ 4 c.args.bytes.now _ _ _ seen.null tree.null (literal_typed c.args.bytes.now 0 seen.null (search rules) c.in-0.is refl) refl refl e) c.append.ensures.ok

pub returns-in-1-clause-ok : goal.returns-in-1-clause-ok
unfolding IsScalarIn
returns-in-1-clause-ok g c = on_ok_weaker c.append-in-1.result (λ e. typed_scalar _ 4 c.args.bytes.now _ _ _ (seen.boolean true) (tree.boolean true) (literal_typed c.args.bytes.now 1 (seen.boolean true) (search rules) c.in-1.is refl) refl refl e) c.append-in-1.ensures.ok

pub returns-in-2-clause-ok : goal.returns-in-2-clause-ok
unfolding IsScalarIn
returns-in-2-clause-ok g c = on_ok_weaker c.append-in-2.result (λ e. typed_scalar _ 4 c.args.bytes.now _ _ _ (seen.boolean false) (tree.boolean false) (literal_typed c.args.bytes.now 2 (seen.boolean false) (search rules) c.in-2.is refl) refl refl e) c.append-in-2.ensures.ok
