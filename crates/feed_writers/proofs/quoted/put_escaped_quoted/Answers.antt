use Rattle.std.proofs.Common.{refl}
use Rattle.feed_writers.proofs.QuotedLemmas.{quotes_written, run_then_rest}
use Rattle.feed_writers.proofs.quoted.put_escaped_quoted.Goals as goal

pub returns-clause-text : goal.returns-clause-text
returns-clause-text c =
    let r = c.put_run_within-next in
    quotes_written
    _ _ _ _ _ c.put_byte-start.ensures.text
    (run_then_rest r.result.1 c.args.len _ _ _ c.args.bytes.now _ r.ensures.few r.ensures.text refl c.put_short-end.ensures.text)
    c.put_byte.ensures.text
