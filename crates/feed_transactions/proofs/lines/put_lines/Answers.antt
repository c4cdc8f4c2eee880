use Rattle.std.proofs.Common.{rules, arith, refl, ◌≡◌, length}
use Rattle.rows_cells.specs.RowViews.{row_shape}
use Rattle.feed_text.specs.Buffers.{text_in}
use Rattle.feed_transactions.proofs.RowLineLemmas.{none_put, all_put}
use Rattle.feed_transactions.proofs.lines.put_lines.Goals as goal

pub returns-then-is_empty-clause-ok : goal.returns-then-is_empty-clause-ok
returns-then-is_empty-clause-ok g c =
    let none : length c.put_short_lines-rest.result.now ≡ 0 = search (arith, rules) in
    all_put (row_shape c.args.plan) c.args.start.now c.args.rows_data.now (text_in c.args.text.now) c.put_short_lines-rest.result.now (text_in c.put_short_lines-rest.new.text) none
    (c.put_short_lines-rest.ensures.lines c.args.rows_data.now (text_in c.args.text.now) (none_put (row_shape c.args.plan) c.args.start.now c.args.rows_data.now (text_in c.args.text.now) c.args.rows_data.now refl))

pub returns-clause-ok : goal.returns-clause-ok
returns-clause-ok g c = c.put_other_lines.ensures.ok c.args.rows_data.now (text_in c.args.text.now)
    (c.put_short_lines-rest.ensures.lines c.args.rows_data.now (text_in c.args.text.now) (none_put (row_shape c.args.plan) c.args.start.now c.args.rows_data.now (text_in c.args.text.now) c.args.rows_data.now refl))

pub returns-clause-err : goal.returns-clause-err
returns-clause-err g c = c.put_other_lines.ensures.err c.args.rows_data.now (text_in c.args.text.now)
    (c.put_short_lines-rest.ensures.lines c.args.rows_data.now (text_in c.args.text.now) (none_put (row_shape c.args.plan) c.args.start.now c.args.rows_data.now (text_in c.args.text.now) c.args.rows_data.now refl))
