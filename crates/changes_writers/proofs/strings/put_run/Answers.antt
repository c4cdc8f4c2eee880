use Rattle.std.proofs.Common.{◌<◌, arith}
use Rattle.changes_writers.specs.JsonStrings.{is_unescaped}
use Rattle.changes_writers.proofs.StringLemmas.{sixteen_stored, up_to, escape_stored}
use Rattle.changes_writers.proofs.strings.put_run.Goals as goal

pub returns-then-len-eq16-clause-text : goal.returns-then-len-eq16-clause-text
returns-then-len-eq16-clause-text c =
    let n = c.unescaped_len-len in
    let u = up_to is_unescaped n.result c.args.bytes.now c.requires.sixteen n.ensures.most n.ensures.value in
    sixteen_stored c.args.at n.result c.args.text.now c.args.bytes.now c.if-len-eq16.true c.requires.sixteen (omega (arith, c.requires.room, c.requires.sixteen)) u.passes

pub returns-clause-text : goal.returns-clause-text
returns-clause-text c =
    let n = c.unescaped_len-len in
    let few : n.result < 16 = omega (arith, n.ensures.most, c.if-len-eq16.false) in
    let u = up_to is_unescaped n.result c.args.bytes.now c.requires.sixteen n.ensures.most n.ensures.value in
    escape_stored c.args.at n.result _ c.args.text.now _ c.args.bytes.now few c.requires.sixteen (omega (arith, c.requires.room, c.requires.sixteen)) u.passes (u.stops few) c.put_escape.ensures.text
