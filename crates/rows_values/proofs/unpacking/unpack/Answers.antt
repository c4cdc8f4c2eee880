use Rattle.std.proofs.Common.{true, arith, refl, subst, sym}
use Rattle.rows_values.specs.Digits.{AreDigits, before_bytes, after_bytes}
use Rattle.rows_values.specs.Steps.{AppendsDigits, NoDigits}
use Rattle.rows_values.specs.PackedTexts.{flipped_back}
use Rattle.rows_values.proofs.UnpackDigitsLemmas.{fault_exit}
use Rattle.rows_values.proofs.FlipBackLemmas.{prefix_turned, after_turned}
use Rattle.rows_values.proofs.UnpackLemmas.{unpacks, lacks_before, lacks_after, kept_are, gained_are, gains_from_none}
use Rattle.rows_values.proofs.unpacking.unpack.Goals as goal

pub returns-in_err-unpack_before-clause-err : goal.returns-in_err-unpack_before-clause-err
returns-in_err-unpack_before-clause-err c =
    let neg = c.has_minus_bit-negative.result in
    let prefix = prefix_turned neg true c.side_size.result c.args.bytes.now _ c.split_at.ensures.front in
    fault_exit _ _ c.from_residual-in_err-unpack_before.ensures
    (λ none. lacks_before neg c.args.before c.args.after c.side_size.result c.args.bytes.now (flipped_back neg true c.args.bytes.now) c.has_minus_bit-negative.ensures.sign refl c.side_size.ensures.size
    (subst (NoDigits before_bytes c.args.before) prefix none)) c.in_err-unpack_before.ensures.err

pub returns-in_err-unpack_after-clause-err : goal.returns-in_err-unpack_after-clause-err
returns-in_err-unpack_after-clause-err c =
    let neg = c.has_minus_bit-negative.result in
    let back = after_turned neg c.is_empty.result c.side_size.result c.args.bytes.now _ _ c.split_at.ensures.front c.split_at.ensures.back (omega arith) c.is_empty.ensures in
    fault_exit _ _ c.from_residual-in_err-unpack_after.ensures
    (λ none. lacks_after neg c.args.before c.args.after c.side_size.result c.args.bytes.now (flipped_back neg true c.args.bytes.now) c.has_minus_bit-negative.ensures.sign refl c.side_size.ensures.size
    (subst (NoDigits after_bytes c.args.after) back none)) c.in_err-unpack_after.ensures.err

pub finish-requires-clause-before_are : goal.finish-requires-clause-before_are
finish-requires-clause-before_are c =
    subst AreDigits (sym c.drop_zero_groups.ensures) (kept_are c.args.keep c.unpack_before.new.digits.items (gained_are _ _ _ _ _ c.in_ok-whole.ensures.items c.in_ok-unpack_before.ensures.ok))

pub finish-requires-clause-after_are : goal.finish-requires-clause-after_are
finish-requires-clause-after_are c = gained_are _ _ _ _ _ c.in_ok-fraction.ensures.items c.in_ok-unpack_after.ensures.ok

pub returns-clause-ok : goal.returns-clause-ok
returns-clause-ok c =
    let neg = c.has_minus_bit-negative.result in
    let prefix = prefix_turned neg true c.side_size.result c.args.bytes.now _ c.split_at.ensures.front in
    let back = after_turned neg c.is_empty.result c.side_size.result c.args.bytes.now _ _ c.split_at.ensures.front c.split_at.ensures.back (omega arith) c.is_empty.ensures in
    let a = subst (λ l. AppendsDigits before_bytes c.args.before l c.in_ok-whole.whole.items c.unpack_before.new.digits.items) prefix c.in_ok-unpack_before.ensures.ok in
    let b = subst (λ l. AppendsDigits after_bytes c.args.after l c.in_ok-fraction.fraction.items c.unpack_after.new.digits.items) back c.in_ok-unpack_after.ensures.ok in
    unpacks c.args.keep neg c.args.before c.args.after c.side_size.result c.args.bytes.now (flipped_back neg true c.args.bytes.now) c.unpack_before.new.digits.items c.unpack_after.new.digits.items c.drop_zero_groups.new.digits.items _
    c.has_minus_bit-negative.ensures.bytes refl (gains_from_none _ _ _ _ _ c.in_ok-whole.ensures.items a) (gains_from_none _ _ _ _ _ c.in_ok-fraction.ensures.items b) c.drop_zero_groups.ensures c.in_ok-decimal.ensures
