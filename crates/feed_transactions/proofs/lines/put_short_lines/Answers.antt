use Rattle.std.proofs.Common.{ap, ◌∷◌}
use Rattle.rows_cells.specs.ImageViews.{image_shape}
use Rattle.rows_cells.specs.RowViews.{row_shape, second_shape}
use Rattle.feed_text.specs.Buffers.{text_in}
use Rattle.feed_transactions.proofs.RowLineLemmas.{short_put, rows_shorter}
use Rattle.feed_transactions.proofs.lines.put_short_lines.Goals as goal

pub returns-in-None-clause-lines : goal.returns-in-None-clause-lines
returns-in-None-clause-lines g c = λ bytes before u.
    let rows = c.put_short_rows.ensures in
    short_put (row_shape c.args.plan) c.args.start.now bytes before (image_shape c.args.plan.first) (ap (λ s. image_shape c.args.plan.first ∷ second_shape s) c.in-None.is) rows.texts c.args.rows_data.now c.put_short_rows.result.now (text_in c.args.text.now) (text_in c.put_short_rows.new.self) u rows.are rows.appended

pub returns-in-None-clause-most : goal.returns-in-None-clause-most
returns-in-None-clause-most g c =
    let rows = c.put_short_rows.ensures in
    rows_shorter (image_shape c.args.plan.first) rows.texts c.args.rows_data.now c.put_short_rows.result.now rows.are
