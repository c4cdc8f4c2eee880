use Rattle.std.proofs.Common.{◌≡◌, ◌*◌, ◌/◌, ◌%◌, arith, sym, ap, ◌∙◌}
use Rattle.rows_values.specs.PackedTexts.{flipped_back}
use Rattle.rows_values.proofs.FlipBackLemmas.{number_nine, number_rest, take-flipped_back}
use Rattle.rows_values.proofs.WriteLemmas.{follows_begin, follows_more, follows_last, kept_prefix, group_fits, group_past, nines_none_of, none_left, none_follows}
use Rattle.rows_values.proofs.packed_text.put_after.Goals as goal

pub loop-i-init : goal.loop-i-init
loop-i-init c = follows_begin _ c.args.at c.args.text.now

pub returns-then-number-ge1000000000 : goal.returns-then-number-ge1000000000
returns-then-number-ge1000000000 c =
    let w = 4 * (c.args.count / 9) in
    let prefix = take-flipped_back w c.args.negative c.args.top c.args.bytes.now ∙ ap (flipped_back c.args.negative c.args.top) (sym c.split_at.ensures.front) in
    let number = number_nine c.args.negative c.args.top c.is_first.result c.loop-i.i _ _ c.group_number-number.result prefix c.is_first.ensures c.group_number-number.ensures in
    let f = c.loop-i.invariant in
    let ends = f.end_is in
    (none_left _ _ (nines_none_of (c.args.count / 9) c.loop-i.i _ (omega arith) (group_past 9 c.group_number-number.result _ number c.if-number-ge1000000000.true)), kept_prefix c.args.at c.loop-i.end _ _ _ (omega (arith, ends)) (omega arith) f.text)

pub loop-i-preserved : goal.loop-i-preserved
loop-i-preserved c =
    let w = 4 * (c.args.count / 9) in
    let prefix = take-flipped_back w c.args.negative c.args.top c.args.bytes.now ∙ ap (flipped_back c.args.negative c.args.top) (sym c.split_at.ensures.front) in
    let number = number_nine c.args.negative c.args.top c.is_first.result c.loop-i.i _ _ c.group_number-number.result prefix c.is_first.ensures c.group_number-number.ensures in
    follows_more _ c.loop-i.i c.group_number-number.result c.args.at c.loop-i.end _ _ _ _ c.loop-i.invariant (group_fits 9 c.group_number-number.result _ number (omega arith)) c.put_last_digits-end.ensures.end c.put_last_digits-end.ensures.text

pub returns-then-number-power_of_ten : goal.returns-then-number-power_of_ten
returns-then-number-power_of_ten c =
    let number = number_rest c.args.negative c.args.top c.is_first-2.result (c.args.count / 9) c.args.bytes.now _ c.group_number-number-2.result c.split_at.ensures.back c.is_first-2.ensures c.group_number-number-2.ensures in
    let f = c.loop-i.invariant in
    let ends = f.end_is in
    let power = c.power_of_ten.ensures in
    (none_follows _ _ (group_past (c.args.count % 9) c.group_number-number-2.result _ number (omega (arith, power, c.if-number-power_of_ten.true))), kept_prefix c.args.at c.loop-i.end _ _ _ (omega (arith, ends)) (omega arith) f.text)

pub returns : goal.returns
returns c =
    let number = number_rest c.args.negative c.args.top c.is_first-2.result (c.args.count / 9) c.args.bytes.now _ c.group_number-number-2.result c.split_at.ensures.back c.is_first-2.ensures c.group_number-number-2.ensures in
    let power = c.power_of_ten.ensures in
    let all : c.loop-i.i ≡ c.args.count / 9 = omega arith in
    follows_last _ _ (c.args.count / 9) c.loop-i.i c.args.count (c.args.count % 9) c.group_number-number-2.result c.args.at c.loop-i.end _ _ _ _ c.loop-i.invariant all
    (group_fits (c.args.count % 9) c.group_number-number-2.result _ number (omega (arith, power, c.if-number-power_of_ten.false))) (omega arith) c.put_last_digits.ensures.end c.put_last_digits.ensures.text
