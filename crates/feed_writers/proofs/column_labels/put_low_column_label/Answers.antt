use Rattle.std.proofs.Common.{arith, refl}
use Rattle.feed_writers.proofs.ColumnLabelLemmas.{four_pushed, column_written, column_len}
use Rattle.feed_writers.proofs.column_labels.put_low_column_label.Goals as goal

pub returns-clause-end : goal.returns-clause-end
returns-clause-end c = omega (arith, column_len c.at_least.result c.args.number c.requires.low c.requires.high c.at_least.ensures.from c.at_least.ensures.below)

pub returns-clause-text : goal.returns-clause-text
returns-clause-text c =
    column_written c.args.at c.put_byte.result c.at_least.result c.args.number c.args.text.now c.put_byte.new.text _ c.requires.low c.requires.high c.requires.room c.at_least.ensures.from c.at_least.ensures.below (omega (arith, c.put_byte-end.ensures.end, c.put_byte-end-2.ensures.end, c.put_byte-end-3.ensures.end, c.put_byte.ensures.end)) refl
    (four_pushed _ _ _ _ _ _ _ _ _ c.put_byte-end.ensures.text c.put_byte-end-2.ensures.text c.put_byte-end-3.ensures.text c.put_byte.ensures.text)
