use Rattle.std.proofs.Common.{ℕ, take, rules, arith, sym, ap, ◌∙◌}
use Rattle.feed_writers.proofs.QuotedLemmas.{plain_counts, escape_counts}
use Rattle.feed_writers.proofs.quoted.put_either.Goals as goal

pub returns-then-is_plain-clause-text : goal.returns-then-is_plain-clause-text
returns-then-is_plain-clause-text c =
    plain_counts c.put_byte-plain.result 2 c.args.byte c.first_of.result _ c.put_byte-plain.new.text _ _ (sym c.is_plain.ensures ∙ c.if-is_plain.true) c.first_of.ensures (search (rules, arith)) c.put_byte-plain.ensures.text
    (ap (λ (m : ℕ). take m c.put_hex-escaped.new.text) (sym c.put_hex-escaped.ensures.end) ∙ c.put_hex-escaped.ensures.text)

pub returns-else-is_plain-clause-text : goal.returns-else-is_plain-clause-text
returns-else-is_plain-clause-text c =
    escape_counts c.put_byte-plain.result c.put_hex-escaped.result c.args.byte c.first_of.result _ _ _ (sym c.is_plain.ensures ∙ c.if-is_plain.false) c.first_of.ensures c.put_byte-plain.ensures.text c.put_hex-escaped.ensures.text
