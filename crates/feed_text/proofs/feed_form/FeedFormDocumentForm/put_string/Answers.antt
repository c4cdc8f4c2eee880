use Rattle.std.proofs.Common.{rules}
use Rattle.std.proofs.lemmas.Str.{is_utf8-from_IsUtf8}
use Rattle.feed_text.proofs.StringLemmas.{utf8_if_plain, utf8_refuted}
use Rattle.feed_text.proofs.feed_form.FeedFormDocumentForm.put_string.Goals as goal

pub returns-then-plain_len-bytes-clause-utf8 : goal.returns-then-plain_len-bytes-clause-utf8
returns-then-plain_len-bytes-clause-utf8 c = utf8_if_plain c.args.bytes.now (search rules)

pub returns-in_default-clause-none : goal.returns-in_default-clause-none
returns-in_default-clause-none c = utf8_refuted c.args.bytes.now c.in_default.ensures.cases.0

pub returns-clause-utf8 : goal.returns-clause-utf8
returns-clause-utf8 c = is_utf8-from_IsUtf8 _ c.in-Ok.ensures.cases.1
