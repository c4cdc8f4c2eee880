use Rattle.std.proofs.Common.{◌≤◌, take, length}
use Rattle.feed_text.specs.DocumentForms.{AppendsOne}
use Rattle.changes_lines.specs.WrittenLines.{MayWriteRows}
use Rattle.changes_lines.proofs.lines.RowsInRoomWritingInRoom.put.Given as goal

-- the first rows were written
abbrev pub invariant-loop-rows : goal.invariant-loop-rows
invariant-loop-rows l = record {
  within : l.end ≤ length l.text;
  text : AppendsOne (λ x. MayWriteRows l.self x (l.rows, l.texts)) (take l.at l.fn.text) (take l.end l.text);
}

abbrev pub decreases-loop-rows : goal.decreases-loop-rows
decreases-loop-rows l = l.rows
