use Rattle.std.proofs.Common.{inr, arith, refl, sym, ◌∙◌}
use Rattle.wire_buf.specs.Encoding.{AreBytes}
use Rattle.rows_values.proofs.UnpackedLemmas.{unpacked_past, unpacked_other, slice_ok, slice_err}
use Rattle.rows_values.proofs.fields.Decimal.from_bin.Goals as goal

pub returns-then-precision-scale-clause-err : goal.returns-then-precision-scale-clause-err
returns-then-precision-scale-clause-err c = inr (refl, unpacked_past c.args.precision c.args.scale c.args.bytes.now c.if-precision-scale.true)

pub returns-then-bytes-decimal_bin_size-clause-err : goal.returns-then-bytes-decimal_bin_size-clause-err
returns-then-bytes-decimal_bin_size-clause-err c =
    inr (refl, unpacked_other c.args.precision c.args.scale c.args.bytes.now (λ e. c.if-bytes-decimal_bin_size.true (e ∙ sym c.decimal_bin_size.ensures)))

pub returns-clause-ok : goal.returns-clause-ok
returns-clause-ok c = slice_ok c.args.keep_precision c.args.precision c.args.scale c.args.bytes.now _ _ (omega arith) refl c.unpack.ensures.ok

pub returns-clause-err : goal.returns-clause-err
returns-clause-err c =
    let are : AreBytes c.args.bytes.now = λ k. omega (arith, c.type_inv.bytes k) in
    slice_err c.args.precision c.args.scale c.args.bytes.now _ _ are refl c.unpack.ensures.err
