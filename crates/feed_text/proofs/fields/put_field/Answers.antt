use Rattle.std.proofs.Common.{codes, refl, arith}
use Rattle.rows_cells.specs.CellValues.{null}
use Rattle.feed_text.specs.CellText.{cell_value_text}
use Rattle.feed_text.proofs.fields.put_field.Goals as goal

pub returns-then-field : goal.returns-then-field
unfolding cell_value_text
returns-then-field c = record {
  value = null;
  text = codes "NULL";
  read = rw c.if-field.true refl;
  is = refl;
  most = omega (arith, c.put_bytes.ensures.end);
  written = c.put_bytes.ensures.text;
}
