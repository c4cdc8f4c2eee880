use Rattle.std.proofs.Common.{◌%◌, ◌+◌, ◌*◌, arith, ap, refl, ◌∙◌}
use Rattle.byteorder.specs.Endian.{big_from}
use Rattle.rows_values.specs.Digits.{group_size}
use Rattle.feed_text.proofs.WordLemmas.{one_whole, two_whole, nine_size}
use Rattle.feed_text.proofs.word_decimals.whole_number.Goals as goal

pub returns-then-count-lt9 : goal.returns-then-count-lt9
returns-then-count-lt9 c = λ xs are is within.
    let power = c.power_of_ten.ensures.value in
    one_whole c.args.count c.args.packed xs c.if-count-lt9.true is within (omega (arith, power, c.if-packed-power_of_ten.false))

pub returns : goal.returns
returns c = λ xs are is within.
    let many = c.if-count-lt9.false in
    let size = nine_size c.args.count many c.requires in
    let parts = c.split_last-high.ensures (group_size (c.args.count % 9)) xs are (is ∙ ap (λ k. big_from 0 k xs) size) in
    let power = c.power_of_ten-2.ensures.value in
    two_whole c.args.count c.split_last-high.result.0 c.split_last-high.result.1 (c.split_last-high.result.0 * 1000000000 + c.split_last-high.result.1) xs many c.requires within parts.0 parts.1 (omega (arith, power, c.if-high-power_of_ten.false)) c.if-low-ge1000000000.false refl
