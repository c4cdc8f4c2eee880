use Rattle.std.proofs.Common.{◌≡◌, subst}
use Rattle.std.specs.Io.KnownBytes.{Appends}
use Rattle.wire_buf.specs.declared.fault.WireFault.TheVariants.{Write}
use Rattle.wire_buf.specs.Transfers.{WritesPrefix}
use Rattle.wire_fields_extra.proofs.StreamLemmas.{IfErr-same}
use Rattle.wire_fields_extra.proofs.write_ext.WriteMysqlExt.write_lenenc_int.Goals as goal

pub returns-in_err-write_all-clause-err : goal.returns-in_err-write_all-clause-err
returns-in_err-write_all-clause-err g c =
    IfErr-same _ _ (λ e. (e ≡ Write) × WritesPrefix _ _ _) c.from_residual.ensures (
      c.in_err-write_all.ensures.err.0,
      subst (λ l. WritesPrefix l (g.Self.Write.contents c.args.self.now) (g.Self.Write.contents c.write_all.new.writer)) c.lenenc_bytes-len.ensures.bytes c.in_err-write_all.ensures.err.1,
    )

pub returns-clause-written : goal.returns-clause-written
returns-clause-written g c =
    subst (Appends (g.Self.Write.contents c.args.self.now) (g.Self.Write.contents c.write_all.new.writer)) c.lenenc_bytes-len.ensures.bytes c.in_ok-write_all.ensures.ok
