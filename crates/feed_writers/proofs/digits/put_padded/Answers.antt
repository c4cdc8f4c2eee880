use Rattle.std.proofs.Common.{ℕ, ◌++◌, take, ap, ◌∙◌, arith}
use Rattle.rows_values.specs.TimeTexts.{padded_decimal}
use Rattle.feed_writers.proofs.DigitLemmas.{padded_long, zeros_more, zeros_done}
use Rattle.feed_writers.proofs.digits.put_padded.Goals as goal

pub returns-then-count-width-clause-text : goal.returns-then-count-width-clause-text
returns-then-count-width-clause-text c =
    padded_long _ _ c.args.width c.from-number.result c.short_digit_count-count.result c.short_digit_count-count.ensures.value c.if-count-width.true c.put_counted.ensures.text
    ∙ ap (λ (n : ℕ). take c.args.at c.args.text.now ++ padded_decimal c.args.width n) c.from-number.ensures

pub loop-digit-preserved : goal.loop-digit-preserved
loop-digit-preserved c =
    let h = c.loop-digit.invariant in
    record {
      low = omega (arith, h.low);
      end = omega (arith, h.end, c.put_byte-end.ensures.end);
      text = zeros_more _ _ _ c.short_digit_count-count.result c.loop-digit.digit h.low h.text c.put_byte-end.ensures.text;
    }

pub returns-clause-text : goal.returns-clause-text
returns-clause-text c =
    let h = c.loop-digit.invariant in
    zeros_done _ _ _ c.args.width c.from-number.result c.short_digit_count-count.result c.loop-digit.digit c.short_digit_count-count.ensures.value (grind arith) h.text c.put_counted-2.ensures.text
    ∙ ap (λ (n : ℕ). take c.args.at c.args.text.now ++ padded_decimal c.args.width n) c.from-number.ensures
