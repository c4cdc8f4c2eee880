use Rattle.std.proofs.Common.{◌≡◌, ◌⊎◌}
use Rattle.wire_buf.specs.Encoding.{Alone, IsSequence, Lacks}
use Rattle.wire_buf.specs.declared.fault.WireFault.TheVariants.{Memory}
use Rattle.wire_buf.proofs.EncodingLemmas.{IfErr-of_same}
use Rattle.wire_fields_extra.proofs.raw_seq.take_numbers.Goals as goal

pub returns-in_err-numbers-clause-err : goal.returns-in_err-numbers-clause-err
returns-in_err-numbers-clause-err g c =
    IfErr-of_same (λ e. e ≡ Memory ⊎ Lacks (IsSequence c.args.count (Alone g.T.IntRepr.encodes)) c.args.buf.now.0.now) _ _ c.from_residual.ensures
    (rw c.in_default.ensures.none at c.in_err-numbers.ensures.err)

pub returns-clause-ok : goal.returns-clause-ok
returns-clause-ok g c = rw c.in_default.ensures.none at c.in_ok-numbers.ensures.ok
