use Rattle.std.specs.Prelude.{codes}
use Rattle.std.specs.Fmt.{decimal}
use Rattle.std.proofs.Common.{◌++◌, [], take}
use Rattle.changes_origins.proofs.AppendLemmas.{appended_both}
use Rattle.changes_lines.proofs.header_text.put_members.Goals as goal

pub returns-clause-text : goal.returns-clause-text
returns-clause-text c =
    let ts = decimal c.args.timestamp in
    let server = decimal c.args.server_id in
    let name = codes ",\"server_id\":" in
    let one = take c.put_bytes-end.result c.put_bytes-end.new.text in
    let two = take c.put_number-end.result c.put_number-end.new.text in
    let three = take c.put_bytes-end-2.result c.put_bytes-end-2.new.text in
    let four = take c.put_number.result c.put_number.new.text in
    appended_both [] one four (codes ",\"ts\":") (ts ++ (name ++ server)) c.put_bytes-end.ensures.text
    (appended_both one two four ts (name ++ server) (rw c.from.ensures at c.put_number-end.ensures.text)
    (appended_both two three four name server c.put_bytes-end-2.ensures.text (rw c.from-2.ensures at c.put_number.ensures.text)))
