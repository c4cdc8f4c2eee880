use Rattle.std.proofs.Common.{sym, refl, arith}
use Rattle.rows_cells.specs.CellViews.{cell_value}
use Rattle.rows_cells.proofs.ImageLemmas.{all_given, one_failed, one_given}
use Rattle.rows_cells.proofs.image.ImageCells.next_cell.Goals as goal

pub returns-then-self : goal.returns-then-self
returns-then-self c =
    let s = c.args.self.now in
    (all_given s.bits.now s.nulls.now s.columns.now s.rest.now s.index c.if-self.true, omega (arith, c.if-self.true), refl)

pub returns-in-Err : goal.returns-in-Err
returns-in-Err c =
    let s = c.args.self.now in
    (one_failed s.bits.now s.nulls.now s.columns.now s.rest.now s.index c.bit_at-is_null.result c.format_of.result c.if-self.false c.bit_at-is_null.ensures c.format_of.ensures c.in-Err.fault (sym c.in-Err.ensures.value), refl)

pub returns-in-Ok : goal.returns-in-Ok
returns-in-Ok c =
    let s = c.args.self.now in (
      one_given s.bits.now s.nulls.now s.columns.now s.rest.now s.index c.bit_at-is_null.result c.format_of.result c.if-self.false c.bit_at-is_null.ensures c.format_of.ensures (cell_value c.in-Ok.cell) c.in-Ok.rest.now (sym c.in-Ok.ensures.value),
      omega (arith, c.if-self.false),
      c.in-Ok.ensures.readable,
    )
