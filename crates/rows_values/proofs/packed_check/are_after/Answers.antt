use Rattle.std.proofs.Common.{◌≡◌, ◌*◌, ◌/◌, ◌%◌, length, take, arith, sym, ap, ◌∙◌}
use Rattle.std.specs.Option.{is_some}
use Rattle.rows_values.specs.Unpacked.{nines_digits}
use Rattle.rows_values.specs.PackedTexts.{flipped_back}
use Rattle.rows_values.proofs.FlipBackLemmas.{number_rest, prefix_turned}
use Rattle.rows_values.proofs.CheckLemmas.{right_decides, there, group_decides}
use Rattle.rows_values.proofs.packed_check.are_after.Goals as goal

pub returns : goal.returns
returns c =
    let w = c.args.count / 9 in
    let size = c.split_at.ensures.front_len in
    let whole : length c.split_at.result.0.now / 4 ≡ w = omega (arith, size) in
    let prefix = prefix_turned c.args.negative c.args.top (4 * w) c.args.bytes.now _ c.split_at.ensures.front in
    let nines = there (nines_digits w (take (4 * w) (flipped_back c.args.negative c.args.top c.args.bytes.now)))
    (sym c.if-not-are_nines.false ∙ c.are_nines.ensures ∙ ap (λ k. is_some (nines_digits k (flipped_back c.args.negative c.args.top c.split_at.result.0.now))) whole ∙ ap (λ y. is_some (nines_digits w y)) prefix) in
    let number = number_rest c.args.negative c.args.top c.is_first.result w c.args.bytes.now _ c.group_number.result c.split_at.ensures.back c.is_first.ensures c.group_number.ensures in
    group_decides (c.args.count % 9) c.group_number.result c.power_of_ten.result _ number c.power_of_ten.ensures ∙ right_decides _ _ _ nines.1
