use Rattle.std.specs.Prelude.{true, take}
use Rattle.feed_text.specs.Buffers.{text_in}
use Rattle.changes_writers.specs.FloatTexts.{AppendsSuch}
use Rattle.changes_statements.specs.RowsOfCells.{cells_in}
use Rattle.changes_statements.specs.SqlStatements.{HasComparisons}
use Rattle.changes_statements.proofs.statements.put_key.Given as goal

-- the columns of the key so far
abbrev pub invariant-loop-place : goal.invariant-loop-place
invariant-loop-place l = AppendsSuch (HasComparisons true l.table.columns.items (cells_in l.cells) (take l.place l.table.key.items)) (text_in l.fn.out) (text_in l.out)
