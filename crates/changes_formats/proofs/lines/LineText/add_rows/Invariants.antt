use Rattle.std.proofs.Common.{ℕ, List}
use Rattle.rows_cells.specs.RowViews.{IsBetweenRows, row_shape}
use Rattle.changes_formats.specs.FormatLineTexts.{AddsLines}
use Rattle.changes_formats.proofs.LineLemmas.{ReadSoFar}
use Rattle.changes_formats.proofs.lines.LineText.add_rows.Given as goal

-- a line for each row so far
abbrev pub invariant-loop-number : goal.invariant-loop-number
invariant-loop-number l = record {
  lines : AddsLines l.number l.initial.self l.self;
  rows : (bytes : List ℕ) → IsBetweenRows l.initial.cursor bytes → ReadSoFar (row_shape l.initial.cursor.plan) bytes l.cursor l.number;
}
