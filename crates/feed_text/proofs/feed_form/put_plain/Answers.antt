use Rattle.feed_text.proofs.StringLemmas.{quoted_if_plain}
use Rattle.feed_text.proofs.feed_form.put_plain.Goals as goal

pub returns-clause-text : goal.returns-clause-text
returns-clause-text c = quoted_if_plain c.args.bytes.now _ _ _ _ c.requires.plain c.put_byte-start.ensures.text c.put_bytes-end.ensures.text c.put_byte.ensures.text
