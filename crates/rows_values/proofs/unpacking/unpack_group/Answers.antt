use Rattle.std.proofs.Common.{arith, sym, ap, ◌∙◌}
use Rattle.std.proofs.lemmas.Result.{on_ok_weaker}
use Rattle.byteorder.specs.Endian.{big_number}
use Rattle.wire_buf.specs.Encoding.{AreBytes}
use Rattle.rows_values.specs.PackedTexts.{flipped_back}
use Rattle.rows_values.proofs.UnpackDigitsLemmas.{group_gains, group_none, fault_because}
use Rattle.rows_values.proofs.FlipBackLemmas.{length-flipped_back, turned_are}
use Rattle.rows_values.proofs.unpacking.unpack_group.Goals as goal

pub returns-clause-ok : goal.returns-clause-ok
returns-clause-ok c =
    let are : AreBytes c.args.bytes.now = λ k. omega (arith, c.type_inv.bytes k) in
    let y = flipped_back c.args.negative c.args.top c.args.bytes.now in
    let long = length-flipped_back c.args.negative c.args.top c.args.bytes.now in
    let number = c.group_number.ensures ∙ ap (λ k. big_number k y) (sym long) in
    on_ok_weaker _ (λ p. group_gains c.args.count c.group_number.result y _ _ (long ∙ c.requires.size) (turned_are c.args.negative c.args.top c.args.bytes.now are) number p.0 p.1) c.push_digits.ensures.ok

pub returns-clause-err : goal.returns-clause-err
returns-clause-err c =
    let y = flipped_back c.args.negative c.args.top c.args.bytes.now in
    let long = length-flipped_back c.args.negative c.args.top c.args.bytes.now in
    let number = c.group_number.ensures ∙ ap (λ k. big_number k y) (sym long) in
    fault_because _ (group_none c.args.count c.group_number.result y c.requires.few (long ∙ c.requires.size) number) c.push_digits.ensures.err
