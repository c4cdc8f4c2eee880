use Rattle.std.proofs.Common.{◌≤◌, length, arith, rules}
use Rattle.changes_lines.specs.Origins.{time_members}
use Rattle.changes_origins.proofs.AppendLemmas.{first_written}
use Rattle.changes_lines.proofs.header_text.HeaderTextWriting.put.Goals as goal

pub returns-clause-text : goal.returns-clause-text
returns-clause-text c =
    let self = c.args.self.now in
    let within : c.args.at ≤ length c.args.text.now = (let r = c.requires in omega (arith, r)) in
    let few : self.len ≤ length self.text = search (arith, rules) in
    first_written c.args.at self.len (length self.text) c.put_bytes-end.result c.args.text.now c.put_bytes-end.new.text self.text (time_members self.timestamp self.server_id) within few c.put_bytes-end.ensures.end c.put_bytes-end.ensures.text self.text_is
