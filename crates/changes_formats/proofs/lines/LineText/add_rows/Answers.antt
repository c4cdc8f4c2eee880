use Rattle.std.proofs.Common.{◌+◌, refl, arith}
use Rattle.rows_cells.specs.RowViews.{row_shape}
use Rattle.changes_formats.proofs.LineLemmas.{all_rows, line_more, row_more}
use Rattle.changes_formats.proofs.lines.LineText.add_rows.Goals as goal

pub returns-then-not-branch-clause-rows : goal.returns-then-not-branch-clause-rows
returns-then-not-branch-clause-rows c = λ m r h.
    let all = all_rows m r c.cursor-cursor.result c.loop-number.cursor c.read_row.new.cursor c.in_ok-read_row.field-0 c.loop-number.number (c.cursor-cursor.ensures.plan m r h) (c.loop-number.invariant.rows r.rows_data (c.cursor-cursor.ensures.rows m r h)) c.if-not-branch.true c.in_ok-read_row.ensures.row in
    let rows = c.loop-number.invariant.lines.rows in
    omega (arith, all, rows)

pub loop-number-preserved : goal.loop-number-preserved
loop-number-preserved c = record {
  lines = line_more c.loop-number.number (c.loop-number.number + 1) c.args.self.now c.loop-number.self c.add.new.self refl c.loop-number.invariant.lines c.in_ok-add.ensures.ok;
  rows = λ bytes between. row_more (row_shape c.cursor-cursor.result.plan) bytes c.loop-number.cursor c.read_row.new.cursor c.in_ok-read_row.field-0 c.loop-number.number (c.loop-number.invariant.rows bytes between) c.if-not-branch.false c.in_ok-read_row.ensures.row;
}
