use Rattle.std.proofs.Common.{refl}
use Rattle.rows_cells.specs.declared.format.CellFormat.TheVariants.{Decimal}
use Rattle.feed_text.proofs.FieldTextLemmas.{advanced}
use Rattle.feed_text.proofs.fields.put_next_decimal.Goals as goal

pub returns : goal.returns
returns c = advanced (Decimal c.args.precision c.args.scale) (Decimal c.args.precision c.args.scale) c.args.rest.now.now c.advance.new.rest.now c.args.at c.args.text.now c.put_decimal-written.new.text c.put_decimal-written.result c.advance.result refl c.put_decimal-written.ensures c.advance.ensures
