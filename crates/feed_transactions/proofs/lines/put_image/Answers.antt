use Rattle.rows_cells.specs.ImageViews.{image_shape}
use Rattle.feed_transactions.proofs.RowLineLemmas.{image_untold}
use Rattle.feed_transactions.proofs.lines.put_image.Goals as goal

pub returns-in-Err-put_cells-clause-err : goal.returns-in-Err-put_cells-clause-err
returns-in-Err-put_cells-clause-err g c =
    image_untold (image_shape c.args.plan) c.args.bytes.now _ _ _ _ c.in-Err-put_cells.fault _ c.row_verdict-in-Err-put_cells.ensures c.in-Ok.ensures.ok c.in-Err-put_cells.ensures.err
