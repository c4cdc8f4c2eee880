use Rattle.std.proofs.Common.{arith, ℕ, ◌<◌, ◌≤◌, ◌^◌, ◌/◌}
use Rattle.feed_writers.proofs.DigitLemmas.{count_8, joined_is, eight_more}
use Rattle.feed_writers.proofs.digits.put_longer.Goals as goal

pub returns-then-prefix-lt100000000-clause-end : goal.returns-then-prefix-lt100000000-clause-end
returns-then-prefix-lt100000000-clause-end c = omega (arith, count_8 c.args.number c.requires.long c.ranges.number.fits, c.put_middle-end.ensures.end, c.put_eight_bytes.ensures.end)

pub returns-then-prefix-lt100000000-clause-text : goal.returns-then-prefix-lt100000000-clause-text
returns-then-prefix-lt100000000-clause-text c = joined_is _ _ _ _ _ _ c.put_middle-end.ensures.text c.put_eight_bytes.ensures.text (eight_more c.args.number c.requires.long c.ranges.number.fits)

pub returns-clause-end : goal.returns-clause-end
returns-clause-end c =
    let prefix : ℕ = c.args.number / 100000000 in
    let long : 100000000 ≤ prefix = c.if-prefix-lt100000000.false in
    let few : prefix < 2 ^ 64 = omega (arith, c.ranges.number.fits) in
    omega (arith, count_8 c.args.number c.requires.long c.ranges.number.fits, count_8 prefix long few, c.put_short-end.ensures.end, c.put_eight_bytes-end.ensures.end, c.put_eight_bytes-2.ensures.end)

pub returns-clause-text : goal.returns-clause-text
returns-clause-text c =
    let prefix : ℕ = c.args.number / 100000000 in
    let long : 100000000 ≤ prefix = c.if-prefix-lt100000000.false in
    let few : prefix < 2 ^ 64 = omega (arith, c.ranges.number.fits) in
    joined_is _ _ _ _ _ _ (joined_is _ _ _ _ _ _ c.put_short-end.ensures.text c.put_eight_bytes-end.ensures.text (eight_more prefix long few)) c.put_eight_bytes-2.ensures.text (eight_more c.args.number c.requires.long c.ranges.number.fits)
