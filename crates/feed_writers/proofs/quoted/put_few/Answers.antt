use Rattle.feed_writers.proofs.QuotedLemmas.{plain_prefix, prefix_then}
use Rattle.feed_writers.proofs.quoted.put_few.Goals as goal

pub returns-then-are_four_plain-clause-text : goal.returns-then-are_four_plain-clause-text
returns-then-are_four_plain-clause-text c =
    prefix_then _ _ _ c.args.bytes.now _ _ 4 c.split_at.ensures.front c.split_at.ensures.back (plain_prefix 4 c.args.bytes.now c.if-bytes-ge4.true c.if-are_four_plain.ensures) c.put_bytes-end.ensures.text c.put_each.ensures.text
