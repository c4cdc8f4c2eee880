-- The values that make up the text of a borrowed cell.
use Rattle.std.specs.Prelude.{◌≡◌}
use Rattle.std.specs.declared.result.Result.TheVariants.{Ok}
use Rattle.rows_cells.specs.CellValues.{bytes, json, json_diffs}
use Rattle.rows_cells.specs.CellViews.{cell_value}
use Rattle.rows_cells.specs.declared.cell.CellRef.{CellRef}
use Rattle.rows_cells.specs.declared.cell.CellRef.TheVariants as ref
use Rattle.feed_text.specs.CellText.{cell_value_text}
use Rattle.feed_text.specs.ShortTexts.{short_text}
use Rattle.feed_text.specs.declared.parts.CellContent.{CellContent}
use Rattle.feed_text.specs.declared.parts.CellContent.TheVariants as parts

abbrev pub ArePartsOf : CellRef → CellContent → Type 0
ArePartsOf cell (parts.Short s) = cell_value_text (cell_value cell) ≡ Ok (short_text s)
ArePartsOf cell (parts.Bytes b) = cell_value cell ≡ bytes b.now
ArePartsOf cell (parts.Decimal precision scale b) = cell ≡ ref.Decimal precision scale b
ArePartsOf cell (parts.Json b) = cell_value cell ≡ json b.now
ArePartsOf cell (parts.JsonDiffs b) = cell_value cell ≡ json_diffs b.now
