use Rattle.std.proofs.Common.{ap, ◌∙◌}
use Rattle.rows_cells.specs.Images.{image_at}
use Rattle.rows_cells.proofs.RowLemmas.{image-is, image-here}
use Rattle.mysql_binlog_rows.proofs.cell_laws.images_are_read.Goals as goal

pub returns : goal.returns
returns c = λ shape row bytes rest. (λ h. image-is shape bytes (row, rest) h, λ h. ap (image_at shape) h.1 ∙ image-here shape row h.0 rest h.2)
