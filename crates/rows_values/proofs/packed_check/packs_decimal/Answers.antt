use Rattle.std.proofs.Common.{◌≤◌, arith, refl, sym, ap, ◌∙◌}
use Rattle.std.specs.Option.{is_some}
use Rattle.rows_values.specs.Unpacked.{optional_text}
use Rattle.rows_values.proofs.UnpackedLemmas.{unpacked_past, unpacked_other}
use Rattle.rows_values.proofs.WriteLemmas.{unpacked_parts}
use Rattle.rows_values.proofs.CheckLemmas.{there, missing, whole_missing, fraction_decides}
use Rattle.rows_values.proofs.packed_check.packs_decimal.Goals as goal

pub returns-then-scale-precision : goal.returns-then-scale-precision
returns-then-scale-precision c = ap is_some (sym (ap optional_text (unpacked_past c.args.precision c.args.scale c.args.bytes.now c.if-scale-precision.true)))

pub returns-then-bytes-decimal_bin_size : goal.returns-then-bytes-decimal_bin_size
returns-then-bytes-decimal_bin_size c =
    ap is_some (sym (ap optional_text (unpacked_other c.args.precision c.args.scale c.args.bytes.now (λ e. c.if-bytes-decimal_bin_size.true (e ∙ sym c.decimal_bin_size.ensures)))))

pub returns-then-not-are_before : goal.returns-then-not-are_before
returns-then-not-are_before c =
    let le : c.args.scale ≤ c.args.precision = omega arith in
    let is = unpacked_parts c.has_minus_bit-negative.result _ c.args.precision c.args.scale c.side_size.result c.args.bytes.now _ _ le (c.if-bytes-decimal_bin_size.false ∙ c.decimal_bin_size.ensures) c.has_minus_bit-negative.ensures.sign
    c.side_size.ensures.size c.split_at.ensures.front c.split_at.ensures.back refl in
    whole_missing _ _ _ _ is (missing _ (sym c.if-not-are_before.true ∙ c.are_before.ensures))

pub returns : goal.returns
returns c =
    let le : c.args.scale ≤ c.args.precision = omega arith in
    let is = unpacked_parts c.has_minus_bit-negative.result c.is_empty.result c.args.precision c.args.scale c.side_size.result c.args.bytes.now _ _ le (c.if-bytes-decimal_bin_size.false ∙ c.decimal_bin_size.ensures)
    c.has_minus_bit-negative.ensures.sign c.side_size.ensures.size c.split_at.ensures.front c.split_at.ensures.back c.is_empty.ensures in
    let before = there _ (sym c.if-not-are_before.false ∙ c.are_before.ensures) in
    c.are_after.ensures ∙ fraction_decides _ _ _ _ _ is before.1
