use Rattle.std.proofs.Common.{rules, arith, ◌≡◌, ◌<◌, length}
use Rattle.rows_cells.specs.RowViews.{row_shape}
use Rattle.library_log.proofs.RowLemmas.{none_counted, one_counted, all_counted, appends_nothing, appends_then}
use Rattle.library_log.proofs.rows.RowWriter.put_rows.Goals as goal

pub loop-rest-init : goal.loop-rest-init
loop-rest-init c = record {
  counting = none_counted (row_shape c.args.plan) c.args.rows_data.now;
  appends = appends_nothing c.args.out.now.items;
  more = omega arith;
}

pub loop-rest-preserved : goal.loop-rest-preserved
loop-rest-preserved c =
    let less : length c.in_ok-next.next.now < length c.loop-rest.rest.now = search (arith, rules) in
    record {
      counting = one_counted (row_shape c.args.plan) c.args.rows_data.now c.loop-rest.rest.now c.in_ok-next.next.now c.loop-rest.rows c.loop-rest.invariant.counting c.in_ok-next.ensures.read less;
      appends = appends_then _ _ _ c.loop-rest.invariant.appends c.in_ok-next.ensures.appended;
      more = search (arith, rules);
    }

pub returns-clause-count : goal.returns-clause-count
returns-clause-count c =
    let none : length c.loop-rest.rest.now ≡ 0 = search (arith, rules) in
    all_counted (row_shape c.args.plan) c.args.rows_data.now c.loop-rest.rest.now c.loop-rest.rows none c.loop-rest.invariant.counting
