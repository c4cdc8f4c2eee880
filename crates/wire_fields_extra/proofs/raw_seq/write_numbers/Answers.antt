use Rattle.std.proofs.Common.{map, rules}
use Rattle.std.specs.Bool.{⊤}
use Rattle.wire_buf.specs.Encoding.{Alone}
use Rattle.wire_buf.specs.Writing.{WriteFails}
use Rattle.wire_buf.proofs.WritingLemmas.{writes_field}
use Rattle.wire_fields_extra.specs.Sequences.{joined_encoded}
use Rattle.wire_fields_extra.proofs.SequenceLemmas.{row_none, row_step, row_failed, IfErr-known, OnErr-known}
use Rattle.wire_fields_extra.proofs.SequenceBytewiseLemmas.{sequence_bytewise}
use Rattle.wire_fields_extra.proofs.raw_seq.write_numbers.Goals as goal

pub returns-in-Some-clause-ok : goal.returns-in-Some-clause-ok
returns-in-Some-clause-ok g c =
    let t = g.T.IntRepr in
    sequence_bytewise t.encoded t.encodes t.kept c.args.numbers.now _ _ _ c.in_ok-extend_from_slice.ensures.items c.in-Some.ensures

pub loop-number-init : goal.loop-number-init
loop-number-init g c = row_none g.T.IntRepr.encoded (Alone g.T.IntRepr.encodes) _

pub loop-number-preserved : goal.loop-number-preserved
loop-number-preserved g c =
    let t = g.T.IntRepr in
    row_step t.encoded (Alone t.encodes) t.kept c.args.numbers.now c.loop-number.number-index c.number-item.result c.loop-number-test.true c.number-item.is
    (λ rest. ⊤) _ _ _ (λ rest. tt) c.loop-number.invariant (writes_field c.in_default-serialize.ensures.ok)

pub returns-in-Err-clause-err : goal.returns-in-Err-clause-err
returns-in-Err-clause-err g c =
    let t = g.T.IntRepr in
    IfErr-known _ c.in-Err.fault (λ e. WriteFails (joined_encoded t.encoded) (map t.kept c.args.numbers.now) e _ _) c.truncate_on_error.ensures.answer
    (row_failed t.encoded (Alone t.encodes) t.kept c.args.numbers.now c.loop-number.number-index c.number-item.result
    c.loop-number-test.true c.number-item.is _ _ _ _ _ _ c.loop-number.invariant
    c.in-Err.ensures.err (search rules) (OnErr-known _ c.in-Err.fault _ c.truncate_on_error.ensures.answer c.truncate_on_error.ensures.err))
