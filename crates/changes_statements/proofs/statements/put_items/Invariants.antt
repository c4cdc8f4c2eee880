use Rattle.feed_text.specs.Buffers.{text_in}
use Rattle.changes_statements.specs.RowsOfCells.{cells_in}
use Rattle.changes_statements.specs.SqlStatements.{HasItems}
use Rattle.changes_statements.proofs.statements.put_items.Given as goal

-- the columns so far
abbrev pub invariant-loop-index : goal.invariant-loop-index
invariant-loop-index l = HasItems l.item l.table.columns.items (cells_in l.cells) l.index l.is_first (text_in l.fn.out) (text_in l.out)
