use Rattle.std.specs.Int.{w32}
use Rattle.std.proofs.lemmas.Int.{to_z-of_z}
use Rattle.feed_text.proofs.PlainTextLemmas.{timestamp_left, quoted_so}
use Rattle.feed_text.proofs.short.put_timestamp.Goals as goal

pub returns-clause-text : goal.returns-clause-text
returns-clause-text c =
    let written = rw (to_z-of_z w32 c.args.seconds c.ranges.seconds, to_z-of_z w32 c.args.micros c.ranges.micros) at c.put_seconds-end.ensures.text in
    quoted_so _ _ _ _ _ c.put_byte-end.ensures.text written c.put_byte.ensures.text (timestamp_left c.args.seconds c.args.micros c.ranges.seconds c.ranges.micros)
