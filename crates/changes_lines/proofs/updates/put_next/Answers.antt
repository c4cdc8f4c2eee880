use Rattle.std.proofs.Common.{◌≡◌, ◌++◌, [], length, refl, sym, ap, subst, ◌∙◌, arith}
use Rattle.std.proofs.lemmas.List.{append-nil, length-append}
use Rattle.feed_text.specs.Buffers.{text_in}
use Rattle.changes_cells.specs.CellJson.{IsCellJson}
use Rattle.changes_tables.specs.ShownColumns.{ColumnView, column_view}
use Rattle.changes_lines.specs.TableColumns.{columns_in}
use Rattle.changes_lines.specs.Updates.{cell_of}
use Rattle.changes_lines.proofs.UpdateLemmas.{part_there, steps_over}
use Rattle.changes_lines.proofs.updates.put_next.Goals as goal

pub returns-in-Ok-compare-clause-ok : goal.returns-in-Ok-compare-clause-ok
returns-in-Ok-compare-clause-ok c =
    let t = columns_in c.args.columns in
    let f = c.args.field in
    let cell = c.in-Ok-put_field.ensures.ok in
    let json = cell.text.text in
    let two = text_in c.put_key.new.text in
    let new = text_in c.put_field.new.text in
    let whole : new ≡ two ++ (json ++ []) = cell.text.appended ∙ ap (λ l. two ++ l) (sym (append-nil json)) in
    let long = length-append two json in
    let all = ap length cell.text.appended in
    let after = part_there new two json [] c.len-value.result (length new) c.get.result _ c.unwrap_or-after.result whole c.len-value.ensures (omega (arith, long, all)) (rw c.as_slice.ensures at c.get.ensures.lookup) c.unwrap_or-after.ensures in (
      json,
      record { value = cell.value; read = cell.read; is = subst (λ (v : ColumnView). IsCellJson v f.format cell.value json) c.get-column.ensures cell.text.such },
      λ cells changed are is.
          let p = c.in-Ok.ensures t cells are in
          let k = c.in-Ok-compare.ensures t p.others changed (cell_of f json) p.members p.from refl (sym after) is in
          steps_over t c.args.before.0.now f json c.args.before.2 c.in-Ok.separator c.in-Ok.left.now c.in-Ok-compare.left.now cells changed (column_view c.get-column.result.now) _ (text_in c.put_unset.new.out) two new _ p c.get-column.ensures c.in-Ok-put_key.ensures.ok cell.text.appended k,
    )
