use Rattle.std.proofs.Common.{rules, arith, refl, ◌≡◌, ◌<◌, ◌≤◌, length}
use Rattle.wire_buf.proofs.EncodingLemmas.{IfErr-of_same}
use Rattle.rows_cells.specs.RowViews.{row_shape}
use Rattle.feed_transactions.proofs.CheckedRowLemmas.{no_rows_yet, row_passes, rows_pass, row_fails, empty_row_fails}
use Rattle.feed_transactions.proofs.CountedRowLemmas.{none_counted, one_counted, all_counted}
use Rattle.feed_transactions.proofs.checked_rows.check_rows.Goals as goal

pub loop-rest-init : goal.loop-rest-init
loop-rest-init c = record {
  texts = no_rows_yet (row_shape c.args.plan) c.args.rows_data.now;
  count = none_counted (row_shape c.args.plan) c.args.rows_data.now;
  within = omega arith;
}

pub loop-rest-preserved : goal.loop-rest-preserved
loop-rest-preserved c =
    let some : 0 < length c.loop-rest.rest.now = search (arith, rules) in
    let less : length c.in_ok-next.next.now < length c.loop-rest.rest.now = search (arith, rules) in
    let within = c.loop-rest.invariant.within in
    record {
      texts = row_passes (row_shape c.args.plan) c.args.rows_data.now c.loop-rest.rest.now c.in_ok-next.next.now some c.loop-rest.invariant.texts c.in_ok-next.ensures.ok less;
      count = one_counted (row_shape c.args.plan) c.args.rows_data.now c.loop-rest.rest.now c.in_ok-next.next.now c.loop-rest.rows _ some c.in_ok-next.ensures.ok less (search (rules, arith)) c.loop-rest.invariant.count;
      within = search (rules, arith);
    }

pub returns-in_err-next-clause-err : goal.returns-in_err-next-clause-err
returns-in_err-next-clause-err c =
    let some : 0 < length c.loop-rest.rest.now = search (arith, rules) in
    IfErr-of_same _ _ _ c.from_residual.ensures (row_fails (row_shape c.args.plan) c.args.rows_data.now c.loop-rest.rest.now _ some c.loop-rest.invariant.texts c.in_err-next.ensures.err)

pub returns-clause-ok : goal.returns-clause-ok
returns-clause-ok c =
    let none : length c.loop-rest.rest.now ≡ 0 = search (arith, rules) in
    rows_pass (row_shape c.args.plan) c.args.rows_data.now c.loop-rest.rest.now none c.loop-rest.invariant.texts

pub returns-clause-count : goal.returns-clause-count
returns-clause-count c =
    let none : length c.loop-rest.rest.now ≡ 0 = search (arith, rules) in
    all_counted (row_shape c.args.plan) c.args.rows_data.now c.loop-rest.rest.now c.loop-rest.rows none c.loop-rest.invariant.count

pub returns-then-next-rest-clause-err : goal.returns-then-next-rest-clause-err
returns-then-next-rest-clause-err c =
    let some : 0 < length c.loop-rest.rest.now = search (arith, rules) in
    let long : length c.loop-rest.rest.now ≤ length c.in_ok-next.next.now = search rules in
    empty_row_fails (row_shape c.args.plan) c.args.rows_data.now c.loop-rest.rest.now c.in_ok-next.next.now _ some c.loop-rest.invariant.texts c.in_ok-next.ensures.ok long refl
