use Rattle.std.proofs.Common.{◌++◌, Some, refl, ap, ◌∙◌, append_assoc}
use Rattle.std.proofs.lemmas.Result.{on_ok_weaker}
use Rattle.changes_cells.specs.JsonDocuments.{update_start, update_json}
use Rattle.changes_cells.proofs.updates.JsonFormUpdateForm.append_update.Goals as goal

pub returns-in-Some-clause-ok : goal.returns-in-Some-clause-ok
returns-in-Some-clause-ok g c =
    let old = c.args.out.now.items in
    let start = update_start c.args.operation c.args.path.now in
    on_ok_weaker c.append_value.result
    (λ e. let v = e.such in record {
      text = update_json c.args.operation c.args.path.now (Some v.0);
      such = (Some v.0, rw c.in-Some.is (v.0, v.1, refl), refl);
      appended = e.appended ∙ ap (λ t. t ++ e.text) c.in_ok-append_start.ensures.ok ∙ append_assoc old start e.text ∙ ap (λ x. old ++ (start ++ x)) v.2;
    })
    c.append_value.ensures.ok
