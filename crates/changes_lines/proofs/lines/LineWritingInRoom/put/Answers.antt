use Rattle.changes_lines.proofs.WriteLemmas.{line_appended, line_none}
use Rattle.changes_lines.proofs.lines.LineWritingInRoom.put.Goals as goal

pub returns-in_default-clause-text : goal.returns-in_default-clause-text
returns-in_default-clause-text c = line_none c.args.self _

pub returns-clause-text : goal.returns-clause-text
returns-clause-text c =
    line_appended c.args.self c.in-Some.row.now c.in-Some.end.now _ _ _ _ _ _
    c.put_bytes-next.ensures.text c.put_any-next.ensures.text c.put_any-next-2.ensures.text c.put_bytes-next-2.ensures.text c.put_any.ensures.text
    c.in-Some.ensures.parts
