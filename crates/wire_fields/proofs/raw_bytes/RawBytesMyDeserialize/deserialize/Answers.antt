use Rattle.std.proofs.Common.{◌≡◌, sym, ap}
use Rattle.std.specs.Cow.{cow_slice_items}
use Rattle.wire_buf.specs.declared.fault.WireFault.TheVariants.{Memory}
use Rattle.wire_buf.proofs.EncodingLemmas.{Reads-is, IfErr-of_lack}
use Rattle.wire_fields.proofs.raw_bytes.RawBytesMyDeserialize.deserialize.Goals as goal

pub returns-in_err-text-clause-err : goal.returns-in_err-text-clause-err
returns-in_err-text-clause-err g c = IfErr-of_lack (λ e. e ≡ Memory) _ _ _ c.from_residual.ensures c.in_err-text.ensures.err.0

pub returns-clause-ok : goal.returns-clause-ok
returns-clause-ok g c = Reads-is (ap (λ t. cow_slice_items t) (sym c.new.ensures)) c.in_ok-text.ensures.ok
