use Rattle.std.proofs.Common.{arith, rules}
use Rattle.feed_writers.specs.PlainBytes.{IsPlainPrefix}
use Rattle.feed_writers.proofs.PlainLemmas.{plain_counted}
use Rattle.feed_writers.proofs.QuotedLemmas.{plain_quoted}
use Rattle.feed_writers.proofs.quoted.put_plain_quoted.Goals as goal

pub returns-clause-text : goal.returns-clause-text
returns-clause-text c =
    let counted = c.sixteen_plain_len.ensures in
    let plain : IsPlainPrefix c.args.bytes.now c.args.len = plain_counted c.args.bytes.now 16 c.args.len c.requires.sixteen (omega (arith, counted, c.if-sixteen_plain_len-len.false)) in
    plain_quoted c.put_byte-start.result c.put_bytes.result c.args.len _ c.put_byte-start.new.text c.put_bytes.new.text _ c.args.bytes.now c.requires.few plain c.requires.sixteen c.put_byte-start.ensures.text c.put_bytes.ensures.end c.put_bytes.ensures.text (search rules) c.put_byte.ensures.text
