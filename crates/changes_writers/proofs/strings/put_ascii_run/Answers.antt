use Rattle.std.proofs.Common.{◌<◌, arith, subst, take, get_or}
use Rattle.std.specs.Prelude.{IsAscii}
use Rattle.changes_writers.specs.PlainText.{is_plain}
use Rattle.changes_writers.proofs.PlainLemmas.{plain_ascii}
use Rattle.changes_writers.proofs.StringLemmas.{sixteen_stored, run_stored, up_to, plain_up_to, escape_stored, ascii_stops, ascii_next}
use Rattle.changes_writers.proofs.strings.put_ascii_run.Goals as goal

pub returns-then-len-eq16-clause-ascii : goal.returns-then-len-eq16-clause-ascii
returns-then-len-eq16-clause-ascii c =
    let n = c.plain_len-len in
    let u = up_to is_plain n.result c.args.bytes.now c.requires.sixteen n.ensures.most n.ensures.value in
    subst (λ k. IsAscii (take k c.args.bytes.now)) c.if-len-eq16.true (plain_ascii _ u.passes)

pub returns-then-len-eq16-clause-text : goal.returns-then-len-eq16-clause-text
returns-then-len-eq16-clause-text c =
    let n = c.plain_len-len in
    let u = up_to is_plain n.result c.args.bytes.now c.requires.sixteen n.ensures.most n.ensures.value in
    sixteen_stored c.args.at n.result c.args.text.now c.args.bytes.now c.if-len-eq16.true c.requires.sixteen (omega (arith, c.requires.room, c.requires.sixteen)) (plain_up_to n.result c.args.bytes.now u)

pub returns-then-byte-gt127-clause-ascii : goal.returns-then-byte-gt127-clause-ascii
returns-then-byte-gt127-clause-ascii c =
    let n = c.plain_len-len in
    let u = up_to is_plain n.result c.args.bytes.now c.requires.sixteen n.ensures.most n.ensures.value in
    plain_ascii _ u.passes

pub returns-then-byte-gt127-clause-text : goal.returns-then-byte-gt127-clause-text
returns-then-byte-gt127-clause-text c =
    let n = c.plain_len-len in
    let u = up_to is_plain n.result c.args.bytes.now c.requires.sixteen n.ensures.most n.ensures.value in
    run_stored c.args.at n.result c.args.text.now c.args.bytes.now n.ensures.most c.requires.sixteen (omega (arith, c.requires.room, c.requires.sixteen)) (plain_up_to n.result c.args.bytes.now u)

pub returns-clause-ascii : goal.returns-clause-ascii
returns-clause-ascii c =
    let n = c.plain_len-len in
    let few : n.result < 16 = omega (arith, n.ensures.most, c.if-len-eq16.false) in
    let u = up_to is_plain n.result c.args.bytes.now c.requires.sixteen n.ensures.most n.ensures.value in
    ascii_next n.result c.args.bytes.now (omega (arith, few, c.requires.sixteen)) (plain_ascii _ u.passes) (omega (arith, c.if-byte-gt127.false))

pub returns-clause-text : goal.returns-clause-text
returns-clause-text c =
    let n = c.plain_len-len in
    let few : n.result < 16 = omega (arith, n.ensures.most, c.if-len-eq16.false) in
    let u = up_to is_plain n.result c.args.bytes.now c.requires.sixteen n.ensures.most n.ensures.value in
    escape_stored c.args.at n.result _ c.args.text.now _ c.args.bytes.now few c.requires.sixteen (omega (arith, c.requires.room, c.requires.sixteen)) (plain_up_to n.result c.args.bytes.now u)
    (ascii_stops (get_or c.args.bytes.now n.result 0) (u.stops few) (omega (arith, c.if-byte-gt127.false))) c.put_escape.ensures.text
