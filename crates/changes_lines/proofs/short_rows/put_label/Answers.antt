use Rattle.std.proofs.Common.{◌≡◌, ◌≤◌, length, arith, rules}
use Rattle.changes_origins.proofs.AppendLemmas.{first_written}
use Rattle.changes_lines.proofs.short_rows.put_label.Goals as goal

pub returns-clause-text : goal.returns-clause-text
returns-clause-text c =
    let within : c.args.at ≤ length c.args.text.now = (let r = c.requires in omega (arith, r)) in
    let few : length c.args.column.now.key.items ≤ 32 = search (arith, rules) in
    let len : c.len-len.result ≡ length c.args.column.now.key.items = search rules in
    rw len (first_written c.args.at (length c.args.column.now.key.items) 32 c.put_whole-end.result c.args.text.now c.put_whole-end.new.text c.args.column.now.label c.args.column.now.key.items within few c.put_whole-end.ensures.end c.put_whole-end.ensures.text (c.args.column.now.label_is few))
