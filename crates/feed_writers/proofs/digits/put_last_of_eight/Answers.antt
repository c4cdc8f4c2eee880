use Rattle.std.proofs.Common.{◌≡◌, length, arith, rules}
use Rattle.feed_writers.proofs.DigitLemmas.{prefix_counts, small_digits, below_eight}
use Rattle.feed_writers.proofs.digits.put_last_of_eight.Goals as goal

pub eight_digits-requires : goal.eight_digits-requires
eight_digits-requires c = below_eight c.args.number c.args.count c.requires.few c.requires.small

pub returns-clause-text : goal.returns-clause-text
returns-clause-text c =
    let piece : length c.last_bytes_first.result ≡ 8 = search rules in
    prefix_counts c.args.at c.args.count c.put_bytes.result c.args.text.now c.put_bytes.new.text c.eight_digits.result _ c.last_bytes_first.result _ (omega (arith, c.requires.room)) c.requires.few
    c.eight_digits.ensures (small_digits c.args.number c.args.count c.requires.some c.requires.few c.requires.small) c.last_bytes_first.ensures c.put_bytes.ensures.end piece c.put_bytes.ensures.text
