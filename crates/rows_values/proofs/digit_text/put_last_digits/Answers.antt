use Rattle.std.proofs.Common.{arith}
use Rattle.rows_values.proofs.DigitTextLemmas.{joined_is, text_four, text_eight}
use Rattle.rows_values.proofs.digit_text.put_last_digits.Goals as goal

pub returns-then-count-lt8-clause-text : goal.returns-then-count-lt8-clause-text
returns-then-count-lt8-clause-text c = joined_is _ _ _ _ _ _ c.put_three_at_most-end.ensures.text c.put_four.ensures.text (text_four c.args.count c.args.number (omega arith))

pub returns-clause-text : goal.returns-clause-text
returns-clause-text c = joined_is _ _ _ _ _ _ c.put_one_at_most-end.ensures.text c.put_eight.ensures.text (text_eight c.args.count c.args.number (omega arith))
