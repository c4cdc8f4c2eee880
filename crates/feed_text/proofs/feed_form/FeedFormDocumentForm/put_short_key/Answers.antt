use Rattle.std.proofs.Common.{arith, rules}
use Rattle.feed_text.proofs.StringLemmas.{utf8_by_result}
use Rattle.feed_text.proofs.feed_form.FeedFormDocumentForm.put_short_key.Goals as goal

pub returns-clause-utf8 : goal.returns-clause-utf8
returns-clause-utf8 c =
    utf8_by_result c.put_plain_quoted.result c.args.at c.args.len c.args.text.now c.put_plain_quoted.new.text c.args.bytes.now c.requires.room (search rules) c.requires.few (omega (arith, c.requires.few, c.requires.sixteen))
    c.put_plain_quoted.ensures.end c.put_plain_quoted.ensures.text
