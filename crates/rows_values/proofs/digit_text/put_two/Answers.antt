use Rattle.std.proofs.Common.{refl}
use Rattle.rows_values.proofs.DigitTextLemmas.{put_pair_is}
use Rattle.rows_values.proofs.digit_text.put_two.Goals as goal

pub returns-clause-text : goal.returns-clause-text
returns-clause-text c = put_pair_is _ _ _ c.args.number _ _ c.requires.small refl refl c.put_byte-end.ensures.text c.put_byte.ensures.text
