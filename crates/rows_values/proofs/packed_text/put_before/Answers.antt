use Rattle.std.proofs.Common.{◌≡◌, ◌%◌, ◌/◌, true, eqb, arith, refl, ap, ◌∙◌}
use Rattle.rows_values.specs.Digits.{group_size}
use Rattle.rows_values.proofs.FlipBackLemmas.{number_prefix, number_nine, rest_turned}
use Rattle.rows_values.proofs.WriteLemmas.{leads_begin, leads_more, kept_prefix, group_fits, group_past, nines_none_of, none_left, none_follows}
use Rattle.rows_values.proofs.packed_text.put_before.Goals as goal

pub returns-then-number-power_of_ten : goal.returns-then-number-power_of_ten
returns-then-number-power_of_ten c =
    let number = number_prefix c.args.negative true c.group_size.result (group_size (c.args.count % 9)) c.args.bytes.now _ c.group_number-number.result c.group_size.ensures.size c.split_at.ensures.front c.group_number-number.ensures in
    let power = c.power_of_ten.ensures in
    (none_left _ _ (group_past (c.args.count % 9) c.group_number-number.result _ number (omega (arith, power, c.if-number-power_of_ten.true))), refl)

pub loop-i-init : goal.loop-i-init
loop-i-init c =
    let number = number_prefix c.args.negative true c.group_size.result (group_size (c.args.count % 9)) c.args.bytes.now _ c.group_number-number.result c.group_size.ensures.size c.split_at.ensures.front c.group_number-number.ensures in
    let power = c.power_of_ten.ensures in
    let e = c.put_lead-end.ensures in
    leads_begin c.args.negative _ _ (c.args.count % 9) c.group_number-number.result c.args.at c.put_lead-end.result _ _ (group_fits (c.args.count % 9) c.group_number-number.result _ number (omega (arith, power, c.if-number-power_of_ten.false))) e.from
    e.most (e.none refl) (e.tells refl) e.text c.is_now_shown-shown.result c.is_now_shown-shown.ensures

pub returns-then-number-ge1000000000 : goal.returns-then-number-ge1000000000
returns-then-number-ge1000000000 c =
    let g = group_size (c.args.count % 9) in
    let top : c.is_empty-top.result ≡ eqb g 0 = c.is_empty-top.ensures ∙ ap (λ k. eqb k 0) (c.split_at.ensures.front_len ∙ c.group_size.ensures.size) in
    let rest = rest_turned c.args.negative c.is_empty-top.result c.group_size.result g c.args.bytes.now _ c.group_size.ensures.size c.split_at.ensures.back top in
    let number = number_nine c.args.negative c.is_empty-top.result c.is_first.result c.loop-i.i _ _ c.group_number-number-in-loop-i.result rest c.is_first.ensures c.group_number-number-in-loop-i.ensures in
    let l = c.loop-i.invariant in
    (none_follows _ _ (nines_none_of (c.args.count / 9) c.loop-i.i _ (omega arith) (group_past 9 c.group_number-number-in-loop-i.result _ number c.if-number-ge1000000000.true)), kept_prefix c.args.at c.loop-i.end _ _ _ l.from (omega arith) l.text)

pub loop-i-preserved : goal.loop-i-preserved
loop-i-preserved c =
    let g = group_size (c.args.count % 9) in
    let top : c.is_empty-top.result ≡ eqb g 0 = c.is_empty-top.ensures ∙ ap (λ k. eqb k 0) (c.split_at.ensures.front_len ∙ c.group_size.ensures.size) in
    let rest = rest_turned c.args.negative c.is_empty-top.result c.group_size.result g c.args.bytes.now _ c.group_size.ensures.size c.split_at.ensures.back top in
    let number = number_nine c.args.negative c.is_empty-top.result c.is_first.result c.loop-i.i _ _ c.group_number-number-in-loop-i.result rest c.is_first.ensures c.group_number-number-in-loop-i.ensures in
    let e = c.put_lead-end-in-loop-i.ensures in
    leads_more c.args.negative c.loop-i.shown _ _ (c.args.count % 9) c.loop-i.i c.group_number-number-in-loop-i.result c.args.at c.loop-i.end c.put_lead-end-in-loop-i.result _ _ _ c.loop-i.invariant
    (group_fits 9 c.group_number-number-in-loop-i.result _ number (omega arith)) e.from e.most e.following e.none e.tells e.text c.is_now_shown-shown-in-loop-i.result c.is_now_shown-shown-in-loop-i.ensures
