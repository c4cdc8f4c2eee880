use Rattle.std.proofs.Common.{codes, refl, subst, arith, rules, w64}
use Rattle.std.proofs.lemmas.Int.{to_z-of_z}
use Rattle.rows_cells.specs.CellValues.{null}
use Rattle.changes_tables.specs.ShownColumns.{column_view}
use Rattle.changes_cells.specs.CellJson.{IsCellJson, IsIntegerJson}
use Rattle.changes_cells.specs.FieldJson.{WritesSuch}
use Rattle.changes_cells.proofs.FieldLemmas.{integer_written}
use Rattle.changes_cells.proofs.fields.put_short_field.Goals as goal

pub returns-then-field : goal.returns-then-field
unfolding IsCellJson
returns-then-field c = record {
  value = null;
  read = rw c.if-field.true refl;
  text = record {
    text = codes "null";
    such = refl;
    most = omega (arith, c.put_bytes.ensures.end);
    written = c.put_bytes.ensures.text;
  };
}

pub returns-in-Plain : goal.returns-in-Plain
returns-in-Plain c =
    let column = column_view c.args.column.now in
    let same = to_z-of_z w64 c.in-Some.number (search rules) in
    integer_written column c.args.field.is_null c.args.field.format c.args.field.bytes.now c.args.text.now c.put_plain_integer.new.text c.in-Some.rest.now c.in-Some.number c.args.at c.put_plain_integer.result c.if-field.false c.in-Some.ensures.some
    (subst (λ z. WritesSuch (IsIntegerJson column z) c.args.at c.args.text.now c.put_plain_integer.new.text c.put_plain_integer.result) same c.put_plain_integer.ensures)

pub returns-in-Some-put_integer : goal.returns-in-Some-put_integer
returns-in-Some-put_integer c =
    let column = column_view c.args.column.now in
    let same = to_z-of_z w64 c.in-Some.number (search rules) in
    integer_written column c.args.field.is_null c.args.field.format c.args.field.bytes.now c.args.text.now c.put_integer.new.text c.in-Some.rest.now c.in-Some.number c.args.at c.in-Some-put_integer.end c.if-field.false c.in-Some.ensures.some
    (subst (λ z. WritesSuch (IsIntegerJson column z) c.args.at c.args.text.now c.put_integer.new.text c.in-Some-put_integer.end) same c.in-Some-put_integer.ensures)
