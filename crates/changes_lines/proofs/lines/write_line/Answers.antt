use Rattle.std.proofs.Common.{false}
use Rattle.changes_lines.proofs.WriteLemmas.{line_puts, line_stays}
use Rattle.changes_lines.proofs.lines.write_line.Goals as goal

pub returns-then-put_in_room : goal.returns-then-put_in_room
returns-then-put_in_room g c = λ json is. line_puts (record { head = c.args.head; row = c.args.row; end = c.args.end }) _ _ _ json false c.put_in_room.result c.if-put_in_room.true c.put_in_room.ensures is

pub returns : goal.returns
returns g c = λ json is.
    let same = line_stays (record { head = c.args.head; row = c.args.row; end = c.args.end }) _ _ c.put_in_room.result c.if-put_in_room.false c.put_in_room.ensures in
    rw same at c.write_row.ensures json is
