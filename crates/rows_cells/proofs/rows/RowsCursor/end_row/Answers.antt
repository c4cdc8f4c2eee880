use Rattle.std.proofs.Common.{refl, ◌<◌, length, ◌∙◌}
use Rattle.rows_cells.specs.ImageViews.{remaining_cells}
use Rattle.rows_cells.specs.RowViews.{row_parts}
use Rattle.rows_cells.proofs.CursorLemmas.{row_ended, row_empty, rows_before}
use Rattle.rows_cells.proofs.rows.RowsCursor.end_row.Goals as goal

pub returns-then-rest-self : goal.returns-then-rest-self
returns-then-rest-self c =
    let s = c.args.self.now in
    (c.requires.left ∙ row_empty s.row_len s.cells.rest.now (remaining_cells s.cells) c.requires.none (rw (← c.rest.ensures) c.if-rest-self.true), refl)

pub returns : goal.returns
returns c =
    let s = c.args.self.now in
    let less : length s.cells.rest.now < s.row_len = rw (← c.rest.ensures) c.if-rest-self.false in (
      (c.requires.left ∙ row_ended s.row_len s.cells.rest.now (remaining_cells s.cells) c.requires.none less, (refl, refl)),
      rows_before _ s.row_len (row_parts s.plan) _ less c.requires.parts,
      refl,
    )
