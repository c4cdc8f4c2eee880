use Rattle.std.proofs.Common.{◌≡◌, ◌%◌, ◌*◌, ◌+◌, true, eqb, length, arith, ap, ◌∙◌}
use Rattle.rows_values.specs.Digits.{group_size}
use Rattle.rows_values.proofs.FlipBackLemmas.{number_prefix, rest_turned, number_of_turned, length-flipped_back}
use Rattle.rows_values.proofs.WriteLemmas.{group_past, none_left}
use Rattle.rows_values.proofs.NumberLemmas.{one_group, two_groups, nine_missing}
use Rattle.rows_values.proofs.numbers.before_number.Goals as goal

pub returns-then-high-power_of_ten : goal.returns-then-high-power_of_ten
returns-then-high-power_of_ten c =
    let number = number_prefix c.args.negative true c.group_size.result (group_size (c.args.count % 9)) c.args.bytes.now _ c.group_number-high.result c.group_size.ensures.size c.split_at.ensures.front c.group_number-high.ensures in
    let power = c.power_of_ten.ensures in
    none_left _ _ (group_past (c.args.count % 9) c.group_number-high.result _ number (omega (arith, power, c.if-high-power_of_ten.true)))

pub returns-then-count-lt-DIG_PER_DEC : goal.returns-then-count-lt-DIG_PER_DEC
returns-then-count-lt-DIG_PER_DEC c =
    let number = number_prefix c.args.negative true c.group_size.result (group_size (c.args.count % 9)) c.args.bytes.now _ c.group_number-high.result c.group_size.ensures.size c.split_at.ensures.front c.group_number-high.ensures in
    let power = c.power_of_ten.ensures in
    one_group c.args.count (c.args.count % 9) c.group_number-high.result _ _ (omega arith) (omega arith) number (omega (arith, power, c.if-high-power_of_ten.false)) c.from.result (omega arith)

pub returns-then-low-ge1000000000 : goal.returns-then-low-ge1000000000
returns-then-low-ge1000000000 c =
    let g = group_size (c.args.count % 9) in
    let top : c.is_empty.result ≡ eqb g 0 = c.is_empty.ensures ∙ ap (λ k. eqb k 0) (c.split_at.ensures.front_len ∙ c.group_size.ensures.size) in
    let rest = rest_turned c.args.negative c.is_empty.result c.group_size.result g c.args.bytes.now _ c.group_size.ensures.size c.split_at.ensures.back top in
    let number = number_of_turned c.args.negative c.is_empty.result _ _ c.group_number-low.result c.group_number-low.ensures rest in
    let size = c.group_size.ensures.size in
    let back = c.split_at.ensures.back_len in
    let four : length c.split_at.result.1.now ≡ 4 = omega (arith, size, back, c.requires.size, c.requires.few) in
    nine_missing c.args.count c.group_number-low.result _ _ (omega arith) number (ap length rest ∙ length-flipped_back c.args.negative c.is_empty.result c.split_at.result.1.now ∙ four) c.if-low-ge1000000000.true

pub returns : goal.returns
returns c =
    let g = group_size (c.args.count % 9) in
    let high = number_prefix c.args.negative true c.group_size.result g c.args.bytes.now _ c.group_number-high.result c.group_size.ensures.size c.split_at.ensures.front c.group_number-high.ensures in
    let power = c.power_of_ten.ensures in
    let top : c.is_empty.result ≡ eqb g 0 = c.is_empty.ensures ∙ ap (λ k. eqb k 0) (c.split_at.ensures.front_len ∙ c.group_size.ensures.size) in
    let rest = rest_turned c.args.negative c.is_empty.result c.group_size.result g c.args.bytes.now _ c.group_size.ensures.size c.split_at.ensures.back top in
    let low = number_of_turned c.args.negative c.is_empty.result _ _ c.group_number-low.result c.group_number-low.ensures rest in
    let size = c.group_size.ensures.size in
    let back = c.split_at.ensures.back_len in
    let four : length c.split_at.result.1.now ≡ 4 = omega (arith, size, back, c.requires.size, c.requires.few) in
    two_groups c.args.count c.group_number-high.result c.group_number-low.result (c.from-2.result * 1000000000 + c.from-3.result) _ _ (omega arith) c.requires.few high (omega (arith, power, c.if-high-power_of_ten.false)) low
    (ap length rest ∙ length-flipped_back c.args.negative c.is_empty.result c.split_at.result.1.now ∙ four) (omega arith) (omega arith)
