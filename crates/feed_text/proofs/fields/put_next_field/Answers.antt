use Rattle.rows_cells.specs.declared.format.CellFormat.TheVariants.{Unsigned, Counted, Time2}
use Rattle.feed_text.proofs.FieldTextLemmas.{advanced, kept_next}
use Rattle.feed_text.proofs.fields.put_next_field.Goals as goal

pub returns-in-Unsigned : goal.returns-in-Unsigned
returns-in-Unsigned c = advanced c.args.format (Unsigned c.in-Unsigned.width) c.args.rest.now.now c.advance.new.rest.now c.args.at c.args.text.now c.put_unsigned_field-written.new.text c.put_unsigned_field-written.result c.advance.result c.in-Unsigned.is c.put_unsigned_field-written.ensures c.advance.ensures

pub returns-in-Counted : goal.returns-in-Counted
returns-in-Counted c = advanced c.args.format (Counted c.in-Counted.width) c.args.rest.now.now c.advance-in-Counted.new.rest.now c.args.at c.args.text.now c.put_bytes_field-written.new.text c.put_bytes_field-written.result c.advance-in-Counted.result c.in-Counted.is c.put_bytes_field-written.ensures c.advance-in-Counted.ensures

pub returns-in-Time2 : goal.returns-in-Time2
returns-in-Time2 c = advanced c.args.format (Time2 c.in-Time2.decimals) c.args.rest.now.now c.advance-in-Time2.new.rest.now c.args.at c.args.text.now c.put_time_field-written.new.text c.put_time_field-written.result c.advance-in-Time2.result c.in-Time2.is c.put_time_field-written.ensures c.advance-in-Time2.ensures

pub returns-in_default : goal.returns-in_default
returns-in_default c = kept_next c.args.format c.args.rest.now.now c.args.rest.now.now c.args.at c.args.text.now
