use Rattle.feed_writers.proofs.EscapeLemmas.{hex_is}
use Rattle.feed_writers.proofs.escapes.put_hex.Goals as goal

pub returns-clause-text : goal.returns-clause-text
returns-clause-text c = hex_is _ _ _ c.args.byte _ _ c.ranges.byte.fits c.from.ensures c.from-2.ensures c.put_byte-end.ensures.text c.put_byte.ensures.text
