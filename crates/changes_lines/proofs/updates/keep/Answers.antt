use Rattle.std.proofs.Common.{◌++◌, refl, ap, ◌∙◌}
use Rattle.feed_text.specs.Buffers.{text_in}
use Rattle.changes_tables.specs.ShownColumns.{column_view}
use Rattle.changes_lines.specs.TableColumns.{columns_in}
use Rattle.changes_lines.proofs.UpdateLemmas.{member_kept}
use Rattle.changes_lines.proofs.updates.keep.Goals as goal

pub returns-in-Ok-push-clause-ok : goal.returns-in-Ok-push-clause-ok
returns-in-Ok-push-clause-ok c =
    member_kept (columns_in c.args.columns) (column_view c.get-column.result.now) c.args.field c.in-Ok-put_field.rest.now (text_in c.args.text.now) (text_in c.put_text.new.self) (text_in c.put_field.new.text) c.args.members.now.items c.push.new.self.items _
    c.get-column.ensures (c.in-Ok.ensures.ok ∙ ap (λ k. text_in c.args.text.now ++ k) c.deref.ensures.value) c.in-Ok-put_field.ensures.ok c.in-Ok-push.ensures.items refl c.len-start.ensures c.len-value.ensures c.len.ensures
