use Rattle.std.specs.Prelude.{false}
use Rattle.std.specs.List.{range_with_len}
use Rattle.feed_text.specs.Buffers.{text_in}
use Rattle.changes_writers.specs.FloatTexts.{AppendsSuch}
use Rattle.changes_statements.specs.RowsOfCells.{cells_in}
use Rattle.changes_statements.specs.SqlStatements.{HasComparisons}
use Rattle.changes_statements.proofs.statements.put_all_columns.Given as goal

-- the columns so far
abbrev pub invariant-loop-index : goal.invariant-loop-index
invariant-loop-index l = AppendsSuch (HasComparisons false l.table.columns.items (cells_in l.cells) (range_with_len 0 l.index)) (text_in l.fn.out) (text_in l.out)
