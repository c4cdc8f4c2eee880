use Rattle.changes_writers.proofs.EscapeLemmas.{code_is}
use Rattle.changes_writers.proofs.escapes.put_code.Goals as goal

pub returns-clause-text : goal.returns-clause-text
returns-clause-text c =
    code_is _ _ _ _ _ c.args.byte _ _ c.ranges.byte.fits c.from.ensures c.from-2.ensures c.put_byte-end.ensures.text c.put_byte-end-2.ensures.text c.put_byte-end-3.ensures.text c.put_byte.ensures.text
