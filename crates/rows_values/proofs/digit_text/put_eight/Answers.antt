use Rattle.std.proofs.Common.{arith}
use Rattle.rows_values.proofs.DigitTextLemmas.{joined_is, text_four}
use Rattle.rows_values.proofs.digit_text.put_eight.Goals as goal

pub returns-clause-text : goal.returns-clause-text
returns-clause-text c = joined_is _ _ _ _ _ _ c.put_four-end.ensures.text c.put_four.ensures.text (text_four 8 c.args.number (omega arith))
