use Rattle.std.proofs.Common.{List, length}
use Rattle.feed_text.specs.Buffers.{text_in}
use Rattle.changes_tables.specs.ShownColumns.{ColumnView}
use Rattle.changes_lines.specs.RowJson.{CellJson}
use Rattle.changes_lines.specs.Updates.{AreMembers}
use Rattle.changes_lines.proofs.UpdateLemmas.{PutsFirstSoFar}
use Rattle.changes_lines.proofs.updates.put_unset.Given as goal

-- the members so far come before the column, and were appended
abbrev pub invariant-loop-member : goal.invariant-loop-member
invariant-loop-member l = (table : List ColumnView) (cells : List CellJson) → AreMembers table l.text l.members cells → PutsFirstSoFar table l.text l.column l.fn.separator l.separator l.left cells (text_in l.fn.out) (text_in l.out)

abbrev pub decreases-loop-member : goal.decreases-loop-member
decreases-loop-member l = length l.left
