use Rattle.std.proofs.Common.{map, ◌∙◌}
use Rattle.wire_buf.specs.Writing.{WriteFails}
use Rattle.wire_fields_extra.specs.Sequences.{joined_encoded}
use Rattle.wire_fields_extra.proofs.SequenceLemmas.{row_none, row_step, row_whole, row_failed, IfErr-known, OnOk-known, OnErr-known}
use Rattle.wire_fields_extra.proofs.items.write_items.Goals as goal

pub loop-item-init : goal.loop-item-init
loop-item-init g c = row_none g.T.MySerialize.encoded g.T.MySerialize.encoding _

pub returns-in-Err-clause-err : goal.returns-in-Err-clause-err
returns-in-Err-clause-err g c =
    let t = g.T.MySerialize in
    IfErr-known _ c.in-Err.fault (λ e. WriteFails (joined_encoded t.encoded) (map t.view c.args.items.now) e _ _) c.truncate_on_error.ensures.answer
    (row_failed t.encoded t.encoding t.view c.args.items.now c.loop-item.item-index c.item-item.result c.loop-item-test.true c.item-item.is
    _ _ _ _ _ _ c.loop-item.invariant c.in-Err.ensures.err (c.len-start.ensures ∙ c.args.buf.now.ok.0) (OnErr-known _ c.in-Err.fault _ c.truncate_on_error.ensures.answer c.truncate_on_error.ensures.err))

pub loop-item-preserved : goal.loop-item-preserved
loop-item-preserved g c =
    let t = g.T.MySerialize in
    row_step t.encoded t.encoding t.view c.args.items.now c.loop-item.item-index c.item-item.result c.loop-item-test.true c.item-item.is
    t.allows_rest _ _ _ g.met.T.Inner.before_any c.loop-item.invariant c.in_default.ensures.ok

pub returns-in-Err-clause-ok : goal.returns-in-Err-clause-ok
returns-in-Err-clause-ok g c = OnOk-known _ c.in-Err.fault _ c.truncate_on_error.ensures.answer

pub returns-clause-ok : goal.returns-clause-ok
returns-clause-ok g c =
    let t = g.T.MySerialize in
    row_whole t.encoded t.encoding t.view c.args.items.now c.loop-item.item-index _ _ c.loop-item-test.false c.loop-item.invariant
