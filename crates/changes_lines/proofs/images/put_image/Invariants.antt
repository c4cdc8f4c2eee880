use Rattle.rows_cells.specs.ImageViews.{cells_count}
use Rattle.feed_text.specs.Buffers.{text_in}
use Rattle.changes_lines.specs.TableColumns.{columns_in}
use Rattle.changes_lines.proofs.ReadCellLemmas.{IsWriting}
use Rattle.changes_lines.proofs.images.put_image.Given as goal

-- the members of the cells so far were appended
abbrev pub invariant-loop-field : goal.invariant-loop-field
invariant-loop-field l = IsWriting (columns_in l.columns) l.initial.cells l.cells l.separator (text_in l.fn.text) (text_in l.text)

abbrev pub decreases-loop-field : goal.decreases-loop-field
decreases-loop-field l = cells_count l.cells
