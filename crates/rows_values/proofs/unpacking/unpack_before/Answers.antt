use Rattle.std.proofs.Common.{◌%◌, ◌/◌, ◌*◌, true, subst, arith}
use Rattle.std.proofs.lemmas.Result.{on_ok_weaker}
use Rattle.rows_values.specs.Digits.{group_bytes, nines_bytes}
use Rattle.rows_values.specs.Steps.{AppendsDigits, NoDigits}
use Rattle.rows_values.specs.PackedTexts.{flipped_back}
use Rattle.rows_values.proofs.UnpackDigitsLemmas.{fault_because, fault_exit}
use Rattle.rows_values.proofs.FlipBackLemmas.{prefix_turned, after_turned}
use Rattle.rows_values.proofs.UnpackLemmas.{before_gains, before_lacks_first, before_lacks_rest}
use Rattle.rows_values.proofs.unpacking.unpack_before.Goals as goal

pub returns-in_err-unpack_group-clause-err : goal.returns-in_err-unpack_group-clause-err
returns-in_err-unpack_group-clause-err c =
    let y = flipped_back c.args.negative true c.args.bytes.now in
    let prefix = prefix_turned c.args.negative true c.group_size.result c.args.bytes.now _ c.split_at.ensures.front in
    fault_exit _ _ c.from_residual.ensures
    (λ none. before_lacks_first c.args.count c.group_size.result y c.group_size.ensures.size (subst (NoDigits group_bytes (c.args.count % 9)) prefix none)) c.in_err-unpack_group.ensures.err

pub returns-clause-ok : goal.returns-clause-ok
returns-clause-ok c =
    let y = flipped_back c.args.negative true c.args.bytes.now in
    let prefix = prefix_turned c.args.negative true c.group_size.result c.args.bytes.now _ c.split_at.ensures.front in
    let back = after_turned c.args.negative c.is_empty.result c.group_size.result c.args.bytes.now _ _ c.split_at.ensures.front c.split_at.ensures.back (omega arith) c.is_empty.ensures in
    let first = subst (λ l. AppendsDigits group_bytes (c.args.count % 9) l c.args.digits.now.items c.unpack_group.new.digits.items) prefix c.in_ok-unpack_group.ensures.ok in
    on_ok_weaker _
    (λ rest. before_gains c.args.count c.group_size.result y _ _ _ first
    (subst (λ l. AppendsDigits (nines_bytes (c.args.count / 9)) (9 * (c.args.count / 9)) l c.unpack_group.new.digits.items c.unpack_nines.new.digits.items) back rest)) c.unpack_nines.ensures.ok

pub returns-clause-err : goal.returns-clause-err
returns-clause-err c =
    let y = flipped_back c.args.negative true c.args.bytes.now in
    let back = after_turned c.args.negative c.is_empty.result c.group_size.result c.args.bytes.now _ _ c.split_at.ensures.front c.split_at.ensures.back (omega arith) c.is_empty.ensures in
    fault_because _
    (λ none. before_lacks_rest c.args.count c.group_size.result y c.group_size.ensures.size
    (subst (NoDigits (nines_bytes (c.args.count / 9)) (9 * (c.args.count / 9))) back none)) c.unpack_nines.ensures.err
