use Rattle.std.proofs.Common.{inr, arith}
use Rattle.std.proofs.lemmas.Grind.{common_steps}
use Rattle.rows_values.proofs.PackedPrefixLemmas.{prefix_short, prefix_past, prefix_cut, prefix_ok, prefix_err}
use Rattle.rows_values.proofs.fields.Decimal.from_packed.Goals as goal

pub returns-then-bytes-lt2-clause-err : goal.returns-then-bytes-lt2-clause-err
returns-then-bytes-lt2-clause-err c = inr (prefix_short c.args.bytes.now (omega arith))

pub returns-then-precision-scale-clause-err : goal.returns-then-precision-scale-clause-err
returns-then-precision-scale-clause-err c =
    inr (prefix_past c.args.bytes.now c.from-precision.result c.from-scale.result (omega arith) c.from-precision.ensures c.from-scale.ensures c.if-precision-scale.true)

pub returns-then-rest-size-clause-err : goal.returns-then-rest-size-clause-err
returns-then-rest-size-clause-err c =
    inr (prefix_cut c.args.bytes.now c.from-precision.result c.from-scale.result c.decimal_bin_size-size.result (omega arith) c.from-precision.ensures c.from-scale.ensures (omega arith) c.decimal_bin_size-size.ensures (grind (arith, common_steps)))

pub returns-clause-ok : goal.returns-clause-ok
returns-clause-ok c =
    prefix_ok c.args.keep_precision c.args.bytes.now _ c.from-precision.result c.from-scale.result c.decimal_bin_size-size.result _ (omega arith) c.from-precision.ensures c.from-scale.ensures c.decimal_bin_size-size.ensures
    (grind (arith, common_steps)) c.from_bin.ensures.ok

pub returns-clause-err : goal.returns-clause-err
returns-clause-err c =
    prefix_err c.args.bytes.now _ c.from-precision.result c.from-scale.result c.decimal_bin_size-size.result _ (omega arith) c.from-precision.ensures c.from-scale.ensures (omega arith) c.decimal_bin_size-size.ensures
    (grind (arith, common_steps)) (grind (arith, common_steps)) c.from_bin.ensures.err
