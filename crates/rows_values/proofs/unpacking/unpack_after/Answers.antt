use Rattle.std.proofs.Common.{◌%◌, ◌/◌, ◌*◌, refl, subst}
use Rattle.std.proofs.lemmas.Result.{on_ok_weaker}
use Rattle.rows_values.specs.Digits.{group_bytes, nines_bytes}
use Rattle.rows_values.specs.Steps.{AppendsDigits, NoDigits}
use Rattle.rows_values.specs.PackedTexts.{flipped_back}
use Rattle.rows_values.proofs.UnpackDigitsLemmas.{fault_because, fault_exit}
use Rattle.rows_values.proofs.FlipBackLemmas.{prefix_turned, back_turned}
use Rattle.rows_values.proofs.UnpackLemmas.{after_gains, after_lacks_first, after_lacks_rest}
use Rattle.rows_values.proofs.unpacking.unpack_after.Goals as goal

pub returns-in_err-unpack_nines-clause-err : goal.returns-in_err-unpack_nines-clause-err
returns-in_err-unpack_nines-clause-err c =
    let y = flipped_back c.args.negative c.args.top c.args.bytes.now in
    let prefix = prefix_turned c.args.negative c.args.top (4 * (c.args.count / 9)) c.args.bytes.now _ c.split_at.ensures.front in
    fault_exit _ _ c.from_residual.ensures
    (λ none. after_lacks_first c.args.count (4 * (c.args.count / 9)) y refl (subst (NoDigits (nines_bytes (c.args.count / 9)) (9 * (c.args.count / 9))) prefix none)) c.in_err-unpack_nines.ensures.err

pub returns-clause-ok : goal.returns-clause-ok
returns-clause-ok c =
    let y = flipped_back c.args.negative c.args.top c.args.bytes.now in
    let prefix = prefix_turned c.args.negative c.args.top (4 * (c.args.count / 9)) c.args.bytes.now _ c.split_at.ensures.front in
    let back = back_turned c.args.negative c.args.top c.is_first.result (c.args.count / 9) c.args.bytes.now _ c.split_at.ensures.back c.is_first.ensures in
    let first = subst (λ l. AppendsDigits (nines_bytes (c.args.count / 9)) (9 * (c.args.count / 9)) l c.args.digits.now.items c.unpack_nines.new.digits.items) prefix c.in_ok-unpack_nines.ensures.ok in
    on_ok_weaker _
    (λ rest. after_gains c.args.count (4 * (c.args.count / 9)) y _ _ _ first
    (subst (λ l. AppendsDigits group_bytes (c.args.count % 9) l c.unpack_nines.new.digits.items c.unpack_group.new.digits.items) back rest)) c.unpack_group.ensures.ok

pub returns-clause-err : goal.returns-clause-err
returns-clause-err c =
    let y = flipped_back c.args.negative c.args.top c.args.bytes.now in
    let back = back_turned c.args.negative c.args.top c.is_first.result (c.args.count / 9) c.args.bytes.now _ c.split_at.ensures.back c.is_first.ensures in
    fault_because _
    (λ none. after_lacks_rest c.args.count (4 * (c.args.count / 9)) y refl (subst (NoDigits group_bytes (c.args.count % 9)) back none)) c.unpack_group.ensures.err
