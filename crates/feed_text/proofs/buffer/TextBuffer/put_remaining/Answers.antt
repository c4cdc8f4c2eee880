use Rattle.feed_text.specs.Buffers.{text_in}
use Rattle.feed_text.proofs.ImageTextLemmas.{none_appended, more_appended, cell_appended, all_put, stops_unread, stops_unwritten}
use Rattle.feed_text.proofs.buffer.TextBuffer.put_remaining.Goals as goal

pub loop-column-init : goal.loop-column-init
loop-column-init g c = none_appended c.args.cells (text_in c.args.self.now)

pub loop-column-preserved : goal.loop-column-preserved
loop-column-preserved g c =
    let old = c.args.cells in
    let mid = c.put_short_cells-left.result in
    let before = text_in c.args.self.now in
    let one = text_in c.put_short_cells-left.new.self in
    let two = text_in c.put_cell.new.self in
    let so_far = more_appended old c.loop-column.left mid before (text_in c.loop-column.self) one c.loop-column.invariant c.put_short_cells-left.ensures in
    more_appended old mid c.next_cell.new.self before one two so_far (cell_appended mid c.next_cell.new.self c.in-Ok-Some.column c.in-Ok-Some.cell one two (rw c.in-Ok-Some.field-0-is at c.in-Ok-Some.ensures) c.in-Ok.ensures.ok)

pub returns-in-Err-put_cell-clause-err : goal.returns-in-Err-put_cell-clause-err
returns-in-Err-put_cell-clause-err g c =
    let old = c.args.cells in
    let mid = c.put_short_cells-left.result in
    let before = text_in c.args.self.now in
    let one = text_in c.put_short_cells-left.new.self in
    let so_far = more_appended old c.loop-column.left mid before (text_in c.loop-column.self) one c.loop-column.invariant c.put_short_cells-left.ensures in
    stops_unwritten c.in-Err-put_cell.fault old mid c.next_cell.new.self c.in-Ok-Some.column c.in-Ok-Some.cell before one (text_in c.put_cell.new.self) so_far (rw c.in-Ok-Some.field-0-is at c.in-Ok-Some.ensures) c.in-Err-put_cell.ensures.err

pub returns-in-Ok-None-clause-ok : goal.returns-in-Ok-None-clause-ok
returns-in-Ok-None-clause-ok g c =
    let old = c.args.cells in
    let mid = c.put_short_cells-left.result in
    let before = text_in c.args.self.now in
    let one = text_in c.put_short_cells-left.new.self in
    let so_far = more_appended old c.loop-column.left mid before (text_in c.loop-column.self) one c.loop-column.invariant c.put_short_cells-left.ensures in
    all_put old mid c.next_cell.new.self before one so_far (rw c.in-Ok-None.field-0-is at c.in-Ok-None.ensures)

pub returns-in-Err-clause-err : goal.returns-in-Err-clause-err
returns-in-Err-clause-err g c =
    let old = c.args.cells in
    let mid = c.put_short_cells-left.result in
    let before = text_in c.args.self.now in
    let one = text_in c.put_short_cells-left.new.self in
    let so_far = more_appended old c.loop-column.left mid before (text_in c.loop-column.self) one c.loop-column.invariant c.put_short_cells-left.ensures in
    stops_unread c.in-Err.fault old mid c.next_cell.new.self before one so_far c.in-Err.ensures
