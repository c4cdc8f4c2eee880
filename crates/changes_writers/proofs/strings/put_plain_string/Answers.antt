use Rattle.std.proofs.Common.{◌≤◌, ◌+◌, length, arith, rules}
use Rattle.changes_writers.specs.PlainText.{is_plain}
use Rattle.changes_writers.proofs.PlainLemmas.{plain_ascii}
use Rattle.changes_writers.proofs.StringLemmas.{up_to, plain_taken, plain_string}
use Rattle.changes_writers.proofs.strings.put_plain_string.Goals as goal

pub returns-clause-ascii : goal.returns-clause-ascii
returns-clause-ascii c =
    let n = c.plain_len in
    let u = up_to is_plain n.result c.args.bytes.now c.requires.sixteen n.ensures.most n.ensures.value in
    plain_ascii _ (plain_taken n.result c.args.len c.args.bytes.now (omega (arith, c.if-plain_len-len.false)) (omega (arith, n.ensures.most, c.requires.sixteen)) u.passes)

pub returns-clause-text : goal.returns-clause-text
returns-clause-text c =
    let n = c.plain_len in
    let u = up_to is_plain n.result c.args.bytes.now c.requires.sixteen n.ensures.most n.ensures.value in
    let room : c.put_byte-start.result + 16 ≤ length c.put_byte-start.new.text = search rules in
    plain_string c.put_byte-start.result c.args.len _ c.put_byte-start.new.text _ c.args.bytes.now c.requires.few c.requires.sixteen room
    (plain_taken n.result c.args.len c.args.bytes.now (omega (arith, c.if-plain_len-len.false)) (omega (arith, n.ensures.most, c.requires.sixteen)) u.passes)
    c.put_byte-start.ensures.text c.put_byte.ensures.text
