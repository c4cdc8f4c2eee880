use Rattle.std.proofs.Common.{◌≡◌, sym}
use Rattle.wire_buf.specs.declared.fault.WireFault.TheVariants.{Memory}
use Rattle.wire_buf.proofs.EncodingLemmas.{Reads-is, IfErr-of_lack}
use Rattle.wire_fields.proofs.int_repr.RawIntMyDeserialize.deserialize.Goals as goal

pub returns-in_err-value-clause-err : goal.returns-in_err-value-clause-err
returns-in_err-value-clause-err g c = IfErr-of_lack (λ e. e ≡ Memory) _ _ _ c.from_residual.ensures c.in_err-value.ensures.err.0

pub returns-clause-ok : goal.returns-clause-ok
returns-clause-ok g c = Reads-is (sym c.new.ensures) c.in_ok-value.ensures.ok
