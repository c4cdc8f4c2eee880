use Rattle.std.proofs.Common.{arith}
use Rattle.std.proofs.lemmas.Fmt.{length-decimal-le}
use Rattle.feed_writers.proofs.digits.short_digit_count.Goals as goal

pub returns-clause-most : goal.returns-clause-most
returns-clause-most c = omega (arith, c.digit_count.ensures.value, length-decimal-le 10 c.args.number (omega arith) (omega (arith, c.requires)) (omega (arith, c.requires)))
