use Rattle.std.proofs.Common.{rules, arith, ◌≡◌, ◌<◌, length}
use Rattle.wire_buf.proofs.EncodingLemmas.{IfErr-of_same}
use Rattle.rows_cells.specs.RowViews.{row_shape}
use Rattle.feed_text.specs.Buffers.{text_in}
use Rattle.feed_transactions.proofs.RowLineLemmas.{more_put, all_put, lines_failed}
use Rattle.feed_transactions.proofs.lines.put_other_lines.Goals as goal

pub loop-rest-preserved : goal.loop-rest-preserved
loop-rest-preserved g c = λ bytes before u.
    let some : 0 < length c.loop-rest.rest.now = search (arith, rules) in
    c.put_short_lines-rest.ensures.lines bytes before
    (more_put (row_shape c.args.plan) c.args.start.now bytes before c.loop-rest.rest.now c.in_ok-next.next.now (text_in c.loop-rest.text) _ _ _ some (c.loop-rest.invariant bytes before u)
    c.in_ok-put_text.ensures.ok c.in_ok-next.ensures.ok c.in_ok-put.ensures.ok)

pub returns-in_err-next-clause-err : goal.returns-in_err-next-clause-err
returns-in_err-next-clause-err g c = λ bytes before u.
    let some : 0 < length c.loop-rest.rest.now = search (arith, rules) in
    IfErr-of_same _ _ _ c.from_residual-in_err-next.ensures
    (lines_failed (row_shape c.args.plan) c.args.start.now bytes before c.loop-rest.rest.now (text_in c.loop-rest.text) _ some (c.loop-rest.invariant bytes before u) c.in_err-next.ensures.err)

pub returns-clause-ok : goal.returns-clause-ok
returns-clause-ok g c = λ bytes before u.
    let none : length c.loop-rest.rest.now ≡ 0 = search (arith, rules) in
    all_put (row_shape c.args.plan) c.args.start.now bytes before c.loop-rest.rest.now (text_in c.loop-rest.text) none (c.loop-rest.invariant bytes before u)
