use Rattle.changes_writers.proofs.StringLemmas.{quotes_written}
use Rattle.changes_writers.proofs.strings.put_string.Goals as goal

pub returns-clause-text : goal.returns-clause-text
returns-clause-text c = quotes_written _ _ _ _ c.args.bytes.now c.put_byte-start.ensures.text c.put_string_content-end.ensures.text c.put_byte.ensures.text
