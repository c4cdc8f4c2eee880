use Rattle.std.proofs.Common.{◌≡◌, ◌+◌, ◌-◌, suc, add-one, arith, refl}
use Rattle.wire_buf.specs.Encoding.{Alone}
use Rattle.wire_buf.specs.declared.fault.WireFault.TheVariants.{Memory}
use Rattle.wire_buf.proofs.EncodingLemmas.{Sequence-more, Sequence-lacks, Sequence-lacks_more, IfErr-of_lack, IfErr-of_same}
use Rattle.wire_fields_extra.proofs.SequenceLemmas.{next_failed, next_unstored}
use Rattle.wire_fields_extra.proofs.raw_seq.read_numbers.Goals as goal

pub returns-in_err-number-clause-err : goal.returns-in_err-number-clause-err
returns-in_err-number-clause-err g c =
    let t = Alone g.T.IntRepr.encodes in
    let more : c.args.count ≡ (c.args.count - suc c.loop.counter) + suc c.loop.counter = omega arith in
    IfErr-of_lack (λ e. e ≡ Memory) _ _ _ c.from_residual.ensures
    (Sequence-lacks_more t _ _ _ _ more (Sequence-lacks t _ _ _ _ c.loop.invariant c.in_err-number.ensures.err))

pub loop-preserved : goal.loop-preserved
loop-preserved g c =
    rw (c.in-Ok.ensures.items, add-one) (Sequence-more (Alone g.T.IntRepr.encodes) _ _ _ _ _ _ c.loop.invariant c.in_ok-number.ensures.ok)

pub returns-clause-ok : goal.returns-clause-ok
returns-clause-ok g c = let e : c.args.count ≡ c.loop.counter = omega arith in rw e c.loop.invariant

pub returns-in_err-number-clause-why : goal.returns-in_err-number-clause-why
returns-in_err-number-clause-why g c =
    IfErr-of_same _ _ _ c.from_residual.ensures
    (next_failed (Alone g.T.IntRepr.encodes) _ _ _ _ c.loop-test.true _ _ _ c.loop.invariant _ c.in_err-number.ensures.why)

pub returns-in_default-clause-why : goal.returns-in_default-clause-why
returns-in_default-clause-why g c =
    next_unstored (Alone g.T.IntRepr.encodes) _ _ _ _ c.loop-test.true _ _ _ c.loop.invariant _ _ _ c.in_ok-number.ensures.ok refl
