use Rattle.std.proofs.Common.{◌≤◌, ◌-◌, arith, refl, sym, ap, ◌∙◌}
use Rattle.rows_values.specs.Unpacked.{optional_text}
use Rattle.rows_values.proofs.UnpackedLemmas.{unpacked_past, unpacked_other}
use Rattle.rows_values.proofs.WriteLemmas.{unpacked_parts, text_none_before, puts_is}
use Rattle.rows_values.proofs.packed_text.put_decimal_text.Goals as goal

pub returns-then-scale-precision : goal.returns-then-scale-precision
returns-then-scale-precision c = (ap optional_text (unpacked_past c.args.precision c.args.scale c.args.bytes.now c.if-scale-precision.true), refl)

pub returns-then-bytes-decimal_bin_size : goal.returns-then-bytes-decimal_bin_size
returns-then-bytes-decimal_bin_size c = (ap optional_text (unpacked_other c.args.precision c.args.scale c.args.bytes.now (λ e. c.if-bytes-decimal_bin_size.true (e ∙ sym c.decimal_bin_size.ensures))), refl)

pub returns-in-None : goal.returns-in-None
returns-in-None c =
    let le : c.args.scale ≤ c.args.precision = omega arith in
    let is = unpacked_parts c.has_minus_bit-negative.result _ c.args.precision c.args.scale c.side_size.result c.args.bytes.now _ _ le (c.if-bytes-decimal_bin_size.false ∙ c.decimal_bin_size.ensures) c.has_minus_bit-negative.ensures.sign
    c.side_size.ensures.size c.split_at.ensures.front c.split_at.ensures.back refl in
    (text_none_before _ _ _ _ is c.in-None.ensures.0, c.in-None.ensures.1)

pub returns-in-Some : goal.returns-in-Some
returns-in-Some c =
    let le : c.args.scale ≤ c.args.precision = omega arith in
    let is = unpacked_parts c.has_minus_bit-negative.result c.is_empty.result c.args.precision c.args.scale c.side_size.result c.args.bytes.now _ _ le (c.if-bytes-decimal_bin_size.false ∙ c.decimal_bin_size.ensures)
    c.has_minus_bit-negative.ensures.sign c.side_size.ensures.size c.split_at.ensures.front c.split_at.ensures.back c.is_empty.ensures in
    let z = c.put_zero-end.ensures in
    puts_is _ c.has_minus_bit-negative.result c.in-Some.shown c.is_minus_kept.result _ _ (c.args.precision - c.args.scale) c.args.scale c.args.precision c.args.at c.in-Some.end c.put_zero-end.result _ _ _ _ c.put_fraction.result
    (omega (arith, le)) (omega arith) is c.in-Some.ensures c.is_minus_kept.ensures z.shown z.from z.most z.text c.put_fraction.ensures
