use Rattle.std.proofs.Common.{◌≡◌, ◌≤◌, ◌∷◌, ◌++◌, [], take, length, refl, ap, subst, ◌∙◌, append_assoc, arith, rules}
use Rattle.changes_tables.specs.ShownColumns.{ColumnView, column_view}
use Rattle.changes_cells.specs.FieldJson.{WritesCell}
use Rattle.changes_lines.specs.TableColumns.{columns_in}
use Rattle.changes_lines.proofs.ShortRowLemmas.{none_so_far, member_so_far, all_so_far, before_members, before_label}
use Rattle.changes_lines.proofs.short_rows.put_members.Goals as goal

pub loop-field-init : goal.loop-field-init
loop-field-init c = none_so_far (columns_in c.args.columns) c.args.cells c.args.at c.args.text.now c.requires

pub returns-in_default-put_short_field : goal.returns-in_default-put_short_field
returns-in_default-put_short_field c =
    let within : c.args.at ≤ length c.args.text.now = (let r = c.requires in omega (arith, r)) in
    let label : take c.in-Some-put_label.start c.put_label.new.text ≡ take c.put_byte-begun.result c.put_byte-begun.new.text ++ (column_view c.get-column.result.now).key = c.in-Some-put_label.ensures.text in
    let begun = c.put_byte-begun.ensures.end in
    let from = c.in-Some-put_label.ensures.from in
    before_label (columns_in c.args.columns) c.args.cells c.loop-field.left c.loop-field.separator c.args.at c.args.text.now c.loop-field.text c.put_label.new.text c.put_short_field.new.text _ c.loop-field.end c.in-Some-put_label.start within c.loop-field.invariant (omega (arith, begun, from))
    (label ∙ ap (λ l. l ++ (column_view c.get-column.result.now).key) c.put_byte-begun.ensures.text ∙ append_assoc (take c.loop-field.end c.loop-field.text) (c.loop-field.separator ∷ []) (column_view c.get-column.result.now).key) c.in_default-put_short_field.ensures

pub returns-in_default-put_label : goal.returns-in_default-put_label
returns-in_default-put_label c =
    let within : c.args.at ≤ length c.args.text.now = (let r = c.requires in omega (arith, r)) in
    let begun = c.put_byte-begun.ensures.end in
    before_label (columns_in c.args.columns) c.args.cells c.loop-field.left c.loop-field.separator c.args.at c.args.text.now c.loop-field.text c.put_byte-begun.new.text c.put_label.new.text (c.loop-field.separator ∷ []) c.loop-field.end c.put_byte-begun.result within c.loop-field.invariant (omega (arith, begun))
    c.put_byte-begun.ensures.text (ap (take c.put_byte-begun.result) c.in_default-put_label.ensures.none)

pub loop-field-preserved : goal.loop-field-preserved
loop-field-preserved c =
    let alike : length c.put_label.new.text ≡ length c.loop-field.text = search rules in
    let same : length c.put_short_field.new.text ≡ length c.loop-field.text = search rules in
    let begun = c.put_byte-begun.ensures.end in
    let from = c.in-Some-put_label.ensures.from in
    let most = c.in-Some-put_label.ensures.most in
    let label : take c.in-Some-put_label.start c.put_label.new.text ≡ take c.put_byte-begun.result c.put_byte-begun.new.text ++ (column_view c.get-column.result.now).key = c.in-Some-put_label.ensures.text in
    let both = label ∙ ap (λ l. l ++ (column_view c.get-column.result.now).key) c.put_byte-begun.ensures.text ∙ append_assoc (take c.loop-field.end c.loop-field.text) (c.loop-field.separator ∷ []) (column_view c.get-column.result.now).key in
    let cell : WritesCell (column_view c.get-column.result.now) c.in-Some.field.is_null c.in-Some.field.format c.in-Some.field.bytes.now c.in-Some-put_label.start c.put_label.new.text c.put_short_field.new.text c.in-Some-put_short_field.after c.in-Some-put_short_field.rest.now = c.in-Some-put_short_field.ensures in
    member_so_far (columns_in c.args.columns) c.args.cells c.loop-field.left c.skip_field.new.self c.loop-field.separator c.args.at c.args.text.now c.loop-field.text c.put_label.new.text c.put_short_field.new.text c.loop-field.end c.in-Some-put_label.start c.in-Some-put_short_field.after c.in-Some.field c.in-Some-put_short_field.rest.now
    c.loop-field.invariant c.in-Some.ensures.some c.in-Some.ensures.format (omega (arith, begun, most)) (both ∙ ap (λ k. take c.loop-field.end c.loop-field.text ++ (c.loop-field.separator ∷ k)) (ap (λ (v : ColumnView). v.key) c.get-column.ensures)) (subst (λ (v : ColumnView). WritesCell v c.in-Some.field.is_null c.in-Some.field.format c.in-Some.field.bytes.now c.in-Some-put_label.start c.put_label.new.text c.put_short_field.new.text c.in-Some-put_short_field.after c.in-Some-put_short_field.rest.now) c.get-column.ensures cell) c.skip_field.ensures.cell c.skip_field.ensures.columns (omega (arith, begun, from)) alike same

pub returns-then-len-gt0 : goal.returns-then-len-gt0
returns-then-len-gt0 c = before_members (columns_in c.args.columns) c.args.cells c.loop-field.left c.loop-field.separator c.args.at c.args.text.now c.loop-field.text c.loop-field.end (let r = c.requires in omega (arith, r)) c.loop-field.invariant

pub returns : goal.returns
returns c =
    let none = c.len.ensures in
    all_so_far (columns_in c.args.columns) c.args.cells c.loop-field.left c.loop-field.separator c.args.at c.args.text.now c.loop-field.text c.rest.result.now c.loop-field.end c.loop-field.invariant (omega (arith, none, c.if-len-gt0.false)) (rw c.rest.ensures refl)
