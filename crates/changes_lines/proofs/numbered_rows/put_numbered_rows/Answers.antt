use Rattle.std.proofs.Common.{rules, arith, refl, ◌≡◌, ◌<◌, ◌≤◌, length}
use Rattle.rows_cells.specs.RowViews.{row_shape}
use Rattle.feed_transactions.proofs.CheckedRowLemmas.{no_rows_yet, row_passes, rows_pass, row_fails, empty_row_fails}
use Rattle.changes_lines.specs.TableColumns.{columns_in}
use Rattle.changes_lines.proofs.NumberedRowLemmas.{numbered_none, numbered_row, numbered_all}
use Rattle.changes_lines.proofs.ReadRowLemmas.{row_has_texts}
use Rattle.changes_lines.proofs.numbered_rows.put_numbered_rows.Goals as goal

pub loop-rest-init : goal.loop-rest-init
loop-rest-init c = record {
  texts = no_rows_yet (row_shape c.args.plan) c.args.rows_data.now;
  json = numbered_none (columns_in c.args.columns) (row_shape c.args.plan) c.args.texts.now c.args.rows_data.now c.args.rows;
}

pub returns-in-Err-clause-err : goal.returns-in-Err-clause-err
returns-in-Err-clause-err c =
    let some : 0 < length c.loop-rest.rest.now = search (arith, rules) in
    row_fails (row_shape c.args.plan) c.args.rows_data.now c.loop-rest.rest.now _ some c.loop-rest.invariant.texts (rw (← c.row_verdict.ensures) at c.in-Err.ensures.err)

pub returns-then-next-rest-clause-err : goal.returns-then-next-rest-clause-err
returns-then-next-rest-clause-err c =
    let some : 0 < length c.loop-rest.rest.now = search (arith, rules) in
    let long : length c.loop-rest.rest.now ≤ length c.in-Ok.next.now = search rules in
    let row = c.in-Ok.ensures.ok in
    empty_row_fails (row_shape c.args.plan) c.args.rows_data.now c.loop-rest.rest.now c.in-Ok.next.now _ some c.loop-rest.invariant.texts
    (row_has_texts (columns_in c.args.columns) (row_shape c.args.plan) c.loop-rest.rest.now c.in-Ok.next.now row.json row.reads) long refl

pub loop-rest-preserved : goal.loop-rest-preserved
loop-rest-preserved c =
    let some : 0 < length c.loop-rest.rest.now = search (arith, rules) in
    let less : length c.in-Ok.next.now < length c.loop-rest.rest.now = search (arith, rules) in
    let row = c.in-Ok.ensures.ok in
    let texts = row_has_texts (columns_in c.args.columns) (row_shape c.args.plan) c.loop-rest.rest.now c.in-Ok.next.now row.json row.reads in
    record {
      texts = row_passes (row_shape c.args.plan) c.args.rows_data.now c.loop-rest.rest.now c.in-Ok.next.now some c.loop-rest.invariant.texts texts less;
      json = numbered_row (columns_in c.args.columns) (row_shape c.args.plan) _ _ _ _ c.args.rows_data.now c.loop-rest.rest.now c.in-Ok.next.now c.args.rows _ _ some c.loop-rest.invariant.json row less refl (search (rules, arith)) c.in-Ok-end_numbered_row.ensures;
    }

pub returns-clause-ok : goal.returns-clause-ok
returns-clause-ok c =
    let none : length c.loop-rest.rest.now ≡ 0 = search (arith, rules) in
    rows_pass (row_shape c.args.plan) c.args.rows_data.now c.loop-rest.rest.now none c.loop-rest.invariant.texts

pub returns-clause-json : goal.returns-clause-json
returns-clause-json c =
    let none : length c.loop-rest.rest.now ≡ 0 = search (arith, rules) in
    numbered_all (columns_in c.args.columns) (row_shape c.args.plan) _ _ c.args.rows_data.now c.loop-rest.rest.now c.args.rows _ none c.loop-rest.invariant.json
