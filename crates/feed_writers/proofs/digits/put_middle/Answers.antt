use Rattle.std.proofs.Common.{◌≡◌, ◌-◌, length, arith, rules}
use Rattle.std.specs.Fmt.{decimal}
use Rattle.feed_writers.proofs.DigitLemmas.{prefix_counts, own_digits, middle_counted}
use Rattle.feed_writers.proofs.LeadingZeroLemmas.{all_digits}
use Rattle.feed_writers.proofs.digits.put_middle.Goals as goal

pub leading_zeros-count-requires : goal.leading_zeros-count-requires
leading_zeros-count-requires c = all_digits c.args.number c.eight_digits-digits.result c.requires.small c.eight_digits-digits.ensures

pub returns-clause-end : goal.returns-clause-end
returns-clause-end c =
    let digits : length c.eight_digits-digits.result ≡ 8 = search rules in
    omega (arith, middle_counted c.args.number c.leading_zeros-count.result c.eight_digits-digits.result c.requires.small digits c.eight_digits-digits.ensures c.leading_zeros-count.ensures)

pub returns-clause-text : goal.returns-clause-text
returns-clause-text c =
    let digits : length c.eight_digits-digits.result ≡ 8 = search rules in
    let piece : length c.last_bytes_first.result ≡ 8 = search rules in
    let count : 8 - c.leading_zeros-count.result ≡ length (decimal c.args.number) = middle_counted c.args.number c.leading_zeros-count.result c.eight_digits-digits.result c.requires.small digits c.eight_digits-digits.ensures c.leading_zeros-count.ensures in
    prefix_counts c.args.at (8 - c.leading_zeros-count.result) c.put_bytes.result c.args.text.now c.put_bytes.new.text c.eight_digits-digits.result _ c.last_bytes_first.result _ (omega (arith, c.requires.room)) (omega arith)
    c.eight_digits-digits.ensures (own_digits c.args.number (8 - c.leading_zeros-count.result) (omega (arith, c.requires.small)) count (omega arith)) c.last_bytes_first.ensures c.put_bytes.ensures.end piece c.put_bytes.ensures.text
