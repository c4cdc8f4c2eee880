use Rattle.std.proofs.Common.{◌≡◌}
use Rattle.wire_buf.specs.declared.fault.WireFault.TheVariants.{Write}
use Rattle.wire_buf.specs.Transfers.{WritesPrefix}
use Rattle.wire_fields_extra.proofs.StreamLemmas.{some_first, some_second}
use Rattle.wire_fields_extra.proofs.StreamLemmas.{IfErr-same}
use Rattle.wire_fields_extra.proofs.write_ext.WriteMysqlExt.write_lenenc_str.Goals as goal

pub returns-in_err-write_lenenc_int-clause-err : goal.returns-in_err-write_lenenc_int-clause-err
returns-in_err-write_lenenc_int-clause-err g c =
    IfErr-same _ _ (λ e. (e ≡ Write) × WritesPrefix _ _ _) c.from_residual.ensures
    (c.in_err-write_lenenc_int.ensures.err.0, some_first _ c.args.bytes.now _ _ c.in_err-write_lenenc_int.ensures.err.1)

pub returns-in_err-write_all-clause-err : goal.returns-in_err-write_all-clause-err
returns-in_err-write_all-clause-err g c =
    IfErr-same _ _ (λ e. (e ≡ Write) × WritesPrefix _ _ _) c.from_residual-in_err-write_all.ensures
    (c.in_err-write_all.ensures.err.0, some_second _ c.args.bytes.now _ _ _ c.in_ok-write_lenenc_int.ensures.written c.in_err-write_all.ensures.err.1)
