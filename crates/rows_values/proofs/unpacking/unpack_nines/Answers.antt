use Rattle.std.proofs.Common.{arith, subst, ◌∙◌}
use Rattle.rows_values.specs.Digits.{group_bytes}
use Rattle.rows_values.specs.Steps.{AppendsDigits, NoDigits}
use Rattle.rows_values.specs.PackedTexts.{flipped_back}
use Rattle.rows_values.proofs.UnpackDigitsLemmas.{nines_gain_none, nines_gain_more, nines_lack, fault_exit}
use Rattle.rows_values.proofs.FlipBackLemmas.{length-flipped_back, nine_turned}
use Rattle.rows_values.proofs.unpacking.unpack_nines.Goals as goal

pub loop-i-init : goal.loop-i-init
loop-i-init c = nines_gain_none (flipped_back c.args.negative c.args.top c.args.bytes.now) c.args.digits.now.items

pub returns-in_err-unpack_group-clause-err : goal.returns-in_err-unpack_group-clause-err
returns-in_err-unpack_group-clause-err c =
    let y = flipped_back c.args.negative c.args.top c.args.bytes.now in
    let this = nine_turned c.args.negative c.args.top c.is_first.result c.loop-i.i c.args.bytes.now c.is_first.ensures in
    fault_exit _ _ c.from_residual.ensures
    (λ none. nines_lack c.args.count c.loop-i.i y (omega arith) (length-flipped_back c.args.negative c.args.top c.args.bytes.now ∙ c.requires) (subst (NoDigits group_bytes 9) this none)) c.in_err-unpack_group.ensures.err

pub loop-i-preserved : goal.loop-i-preserved
loop-i-preserved c =
    let this = nine_turned c.args.negative c.args.top c.is_first.result c.loop-i.i c.args.bytes.now c.is_first.ensures in
    nines_gain_more c.loop-i.i (flipped_back c.args.negative c.args.top c.args.bytes.now) _ _ _ c.loop-i.invariant
    (subst (λ l. AppendsDigits group_bytes 9 l c.loop-i.digits.items c.unpack_group.new.digits.items) this c.in_ok-unpack_group.ensures.ok)
