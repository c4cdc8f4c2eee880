use Rattle.feed_writers.proofs.EscapeLemmas.{escaped_is}
use Rattle.feed_writers.proofs.escapes.put_escape.Goals as goal

pub returns-clause-text : goal.returns-clause-text
returns-clause-text c = escaped_is _ _ _ c.args.byte c.put_byte-end.ensures.text c.put_hex.ensures.text
