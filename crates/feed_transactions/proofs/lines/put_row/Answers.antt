use Rattle.std.proofs.Common.{rules, arith, refl, inl, ◌≤◌, ◌<◌, length}
use Rattle.wire_buf.proofs.EncodingLemmas.{IfErr-of_same}
use Rattle.rows_cells.specs.RowViews.{row_shape}
use Rattle.feed_transactions.proofs.RowLineLemmas.{row_put, row_failed, row_empty, not_shorter}
use Rattle.feed_transactions.proofs.lines.put_row.Goals as goal

pub returns-in_err-rest-clause-err : goal.returns-in_err-rest-clause-err
returns-in_err-rest-clause-err g c = IfErr-of_same _ _ _ c.from_residual.ensures (row_failed (row_shape c.args.plan) c.args.bytes.now _ c.in_err-rest.ensures.err)

pub returns-then-rest-bytes-clause-err : goal.returns-then-rest-bytes-clause-err
returns-then-rest-bytes-clause-err g c =
    let long : length c.args.bytes.now ≤ length c.in_ok-rest.rest.now = search rules in
    inl (refl, row_empty (row_shape c.args.plan) c.args.bytes.now _ _ _ c.in_ok-rest.ensures.ok (not_shorter _ _ long))

pub returns-clause-ok : goal.returns-clause-ok
returns-clause-ok g c =
    let less : length c.in_ok-rest.rest.now < length c.args.bytes.now = search (arith, rules) in
    row_put (row_shape c.args.plan) c.args.bytes.now _ _ _ c.in_ok-rest.ensures.ok less
