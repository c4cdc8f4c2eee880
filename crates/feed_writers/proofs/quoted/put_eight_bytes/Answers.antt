use Rattle.std.proofs.Common.{subst, sym}
use Rattle.feed_writers.specs.PlainBytes.{IsPlainPrefix}
use Rattle.feed_writers.proofs.QuotedLemmas.{plain_written}
use Rattle.feed_writers.proofs.quoted.put_eight_bytes.Goals as goal

pub returns-then-are_eight_plain-clause-text : goal.returns-then-are_eight_plain-clause-text
returns-then-are_eight_plain-clause-text c = plain_written _ _ c.args.bytes.now (subst (IsPlainPrefix c.args.bytes.now) (sym c.requires.eight) c.if-are_eight_plain.ensures) c.put_bytes.ensures.text
