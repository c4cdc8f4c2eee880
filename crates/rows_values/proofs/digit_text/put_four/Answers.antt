use Rattle.std.proofs.Common.{arith}
use Rattle.rows_values.proofs.DigitTextLemmas.{joined_is, text_two}
use Rattle.rows_values.proofs.digit_text.put_four.Goals as goal

pub returns-clause-text : goal.returns-clause-text
returns-clause-text c = joined_is _ _ _ _ _ _ c.put_two-end.ensures.text c.put_two.ensures.text (text_two 4 c.args.number (omega arith))
