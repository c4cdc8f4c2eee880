use Rattle.std.proofs.Common.{refl, arith}
use Rattle.rows_cells.specs.ImageViews.{image_shape, remaining_cells}
use Rattle.rows_cells.proofs.CursorLemmas.{image_given, no_next_image}
use Rattle.rows_cells.proofs.rows.RowsCursor.begin_second.Goals as goal

pub returns-in-Ok : goal.returns-in-Ok
returns-in-Ok c =
    let s = c.args.self.now in (
      (
        rw (c.requires.stage, c.requires.second) (image_given (image_shape c.args.plan) s.row_len s.cells.rest.now (remaining_cells s.cells) (remaining_cells c.in-Ok.cells) c.requires.none (rw (← c.rest.ensures) c.in-Ok.ensures.ok)),
        (λ e. absurd cc),
      ),
      rw (c.requires.stage, c.requires.second, c.in-Ok.ensures.count) (omega arith),
      refl,
    )

pub returns-in-Err : goal.returns-in-Err
returns-in-Err c =
    let s = c.args.self.now in
    (rw (c.requires.stage, c.requires.second) (no_next_image (image_shape c.args.plan) s.row_len s.cells.rest.now (remaining_cells s.cells) c.in-Err.fault c.requires.none (rw (← c.rest.ensures) c.in-Err.ensures.err)), refl)
