use Rattle.std.proofs.Common.{◌≡◌, ◌/◌, ◌%◌, true, eqb, length, arith, sym, ap, ◌∙◌}
use Rattle.std.specs.Option.{is_some}
use Rattle.rows_values.specs.Digits.{group_size}
use Rattle.rows_values.specs.Unpacked.{nines_digits}
use Rattle.rows_values.specs.PackedTexts.{flipped_back}
use Rattle.rows_values.proofs.FlipBackLemmas.{number_prefix, rest_turned}
use Rattle.rows_values.proofs.WriteLemmas.{group_fits, group_past}
use Rattle.rows_values.proofs.CheckLemmas.{left_missing, right_decides}
use Rattle.rows_values.proofs.packed_check.are_before.Goals as goal

pub returns-then-group_number-power_of_ten : goal.returns-then-group_number-power_of_ten
returns-then-group_number-power_of_ten c =
    let number = number_prefix c.args.negative true c.group_size.result (group_size (c.args.count % 9)) c.args.bytes.now _ c.group_number.result c.group_size.ensures.size c.split_at.ensures.front c.group_number.ensures in
    let power = c.power_of_ten.ensures in
    left_missing _ _ (group_past (c.args.count % 9) c.group_number.result _ number (omega (arith, power, c.if-group_number-power_of_ten.true)))

pub returns : goal.returns
returns c =
    let g = group_size (c.args.count % 9) in
    let number = number_prefix c.args.negative true c.group_size.result g c.args.bytes.now _ c.group_number.result c.group_size.ensures.size c.split_at.ensures.front c.group_number.ensures in
    let power = c.power_of_ten.ensures in
    let top : c.is_empty.result ≡ eqb g 0 = c.is_empty.ensures ∙ ap (λ k. eqb k 0) (c.split_at.ensures.front_len ∙ c.group_size.ensures.size) in
    let rest = rest_turned c.args.negative c.is_empty.result c.group_size.result g c.args.bytes.now _ c.group_size.ensures.size c.split_at.ensures.back top in
    let size = c.group_size.ensures.size in
    let back = c.split_at.ensures.back_len in
    let nines : length c.split_at.result.1.now / 4 ≡ c.args.count / 9 = omega (arith, size, back, c.requires) in
    c.are_nines.ensures
    ∙ ap (λ k. is_some (nines_digits k (flipped_back c.args.negative c.is_empty.result c.split_at.result.1.now))) nines
    ∙ ap (λ y. is_some (nines_digits (c.args.count / 9) y)) (sym rest)
    ∙ right_decides _ _ _ (group_fits (c.args.count % 9) c.group_number.result _ number (omega (arith, power, c.if-group_number-power_of_ten.false)))
