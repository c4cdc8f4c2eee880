use Rattle.std.proofs.Common.{◌≤◌, ◌-◌, arith, sym, refl, ◌∙◌}
use Rattle.rows_values.proofs.FlipBackLemmas.{number_of_turned}
use Rattle.rows_values.proofs.UnpackedLemmas.{unpacked_past, unpacked_other}
use Rattle.rows_values.proofs.WriteLemmas.{unpacked_parts, group_fits, group_past}
use Rattle.rows_values.proofs.NumberLemmas.{numbers_are, before_missing, after_missing, few_after}
use Rattle.rows_values.proofs.numbers.decimal_numbers.Goals as goal

pub returns-then-scale-precision : goal.returns-then-scale-precision
returns-then-scale-precision c = λ _ _. unpacked_past c.args.precision c.args.scale c.args.bytes.now c.if-scale-precision.true

pub returns-then-bytes-decimal_bin_size : goal.returns-then-bytes-decimal_bin_size
returns-then-bytes-decimal_bin_size c = λ _ _. unpacked_other c.args.precision c.args.scale c.args.bytes.now (λ e. c.if-bytes-decimal_bin_size.true (e ∙ sym c.decimal_bin_size.ensures))

pub returns-then-after-power_of_ten : goal.returns-then-after-power_of_ten
returns-then-after-power_of_ten c = λ _ few.
    let le : c.args.scale ≤ c.args.precision = omega arith in
    let is = unpacked_parts c.has_minus_bit-negative.result c.is_empty.result c.args.precision c.args.scale c.side_size.result c.args.bytes.now _ _ le (c.if-bytes-decimal_bin_size.false ∙ c.decimal_bin_size.ensures)
    c.has_minus_bit-negative.ensures.sign c.side_size.ensures.size c.split_at.ensures.front c.split_at.ensures.back c.is_empty.ensures in
    let number = number_of_turned c.has_minus_bit-negative.result c.is_empty.result _ _ c.group_number-after.result c.group_number-after.ensures refl in
    let power = c.power_of_ten.ensures in
    after_missing _ _ _ _ is (few_after c.args.scale _ few ∙ group_past c.args.scale c.group_number-after.result _ number (omega (arith, power, c.if-after-power_of_ten.true)))

pub returns-in-None : goal.returns-in-None
returns-in-None c = λ _ _.
    let le : c.args.scale ≤ c.args.precision = omega arith in
    let is = unpacked_parts c.has_minus_bit-negative.result c.is_empty.result c.args.precision c.args.scale c.side_size.result c.args.bytes.now _ _ le (c.if-bytes-decimal_bin_size.false ∙ c.decimal_bin_size.ensures)
    c.has_minus_bit-negative.ensures.sign c.side_size.ensures.size c.split_at.ensures.front c.split_at.ensures.back c.is_empty.ensures in
    before_missing _ _ _ _ is c.in-None.ensures

pub returns-in-Some : goal.returns-in-Some
returns-in-Some c =
    let le : c.args.scale ≤ c.args.precision = omega arith in
    let few : c.args.scale ≤ 8 = omega arith in
    let is = unpacked_parts c.has_minus_bit-negative.result c.is_empty.result c.args.precision c.args.scale c.side_size.result c.args.bytes.now _ _ le (c.if-bytes-decimal_bin_size.false ∙ c.decimal_bin_size.ensures)
    c.has_minus_bit-negative.ensures.sign c.side_size.ensures.size c.split_at.ensures.front c.split_at.ensures.back c.is_empty.ensures in
    let number = number_of_turned c.has_minus_bit-negative.result c.is_empty.result _ _ c.group_number-after.result c.group_number-after.ensures refl in
    let power = c.power_of_ten.ensures in
    record {
      ordered = le;
      few_before = omega arith;
      few_after = few;
      is = numbers_are _ _ _ _ (c.args.precision - c.args.scale) c.args.scale c.in-Some.before c.group_number-after.result is c.in-Some.ensures.are
          (few_after c.args.scale _ few ∙ group_fits c.args.scale c.group_number-after.result _ number (omega (arith, power, c.if-after-power_of_ten.false)));
      before_fits = c.in-Some.ensures.fits;
      after_fits = omega (arith, power, c.if-after-power_of_ten.false);
    }
