use Rattle.feed_writers.proofs.QuotedLemmas.{quotes_written}
use Rattle.feed_writers.proofs.quoted.put_quoted.Goals as goal

pub returns-clause-text : goal.returns-clause-text
returns-clause-text c = quotes_written _ _ _ _ c.args.bytes.now c.put_byte-start.ensures.text c.put_quoted_content-end.ensures.text c.put_byte.ensures.text
