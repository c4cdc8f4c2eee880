use Rattle.std.proofs.Common.{◌≡◌, inr, ap, ◌∙◌}
use Rattle.wire_buf.specs.Encoding.{Alone}
use Rattle.wire_buf.specs.declared.fault.WireFault.TheVariants.{Memory}
use Rattle.wire_buf.proofs.EncodingLemmas.{IfErr-of_lack}
use Rattle.wire_fields_extra.proofs.NumberedLemmas.{number_reads, number_lacks, unknown_lacks}
use Rattle.wire_fields_extra.proofs.consts.ConstMyDeserialize.deserialize.Goals as goal

pub returns-in_err-number-clause-err : goal.returns-in_err-number-clause-err
returns-in_err-number-clause-err g c =
    IfErr-of_lack (λ e. e ≡ Memory) _ _ _ c.from_residual.ensures
    (number_lacks g.T.Constant.number (Alone g.U.IntRepr.encodes) _ c.in_err-number.ensures.err.0)

pub returns-in_default-clause-err : goal.returns-in_default-clause-err
returns-in_default-clause-err g c =
    inr (unknown_lacks g.T.Constant.number (Alone g.U.IntRepr.encodes) _ _ _ c.in_ok-number.ensures.ok c.in_default.ensures)

pub returns-clause-ok : goal.returns-clause-ok
returns-clause-ok g c =
    number_reads g.T.Constant.number (Alone g.U.IntRepr.encodes) c.new.result.0 _ _ _
    (ap (λ v. g.T.Constant.number v) c.new.ensures ∙ c.in-Some.ensures) c.in_ok-number.ensures.ok
