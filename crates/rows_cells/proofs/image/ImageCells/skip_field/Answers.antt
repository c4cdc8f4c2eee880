use Rattle.std.proofs.Common.{refl, arith}
use Rattle.rows_cells.specs.Images.{bit, format_in}
use Rattle.rows_cells.specs.ImageViews.{next_column}
use Rattle.rows_cells.proofs.ImageLemmas.{one_given}
use Rattle.rows_cells.proofs.image.ImageCells.skip_field.Goals as goal

pub returns-clause-cell : goal.returns-clause-cell
returns-clause-cell c =
    let s = c.args.self.now in (
      λ v h. one_given s.bits.now s.nulls.now s.columns.now s.rest.now s.index (bit s.nulls.now s.index) (format_in s.bits.now (next_column s)) c.requires refl refl v c.args.rest.now h,
      omega (arith, c.requires),
      refl,
    )
