use Rattle.std.proofs.Common.{refl}
use Rattle.rows_values.proofs.DigitTextLemmas.{none_more, one_more}
use Rattle.rows_values.proofs.digit_text.put_one_at_most.Goals as goal

pub returns-then-count-eq0-clause-text : goal.returns-then-count-eq0-clause-text
returns-then-count-eq0-clause-text c = none_more _ c.args.count c.args.number c.if-count-eq0.true

pub returns-clause-text : goal.returns-clause-text
returns-clause-text c = one_more _ _ c.args.count c.args.number _ c.requires.few c.if-count-eq0.false refl c.put_byte.ensures.text
