use Rattle.std.proofs.Common.{◌≡◌, ◌≤◌, ◌-◌, ◌∙◌, ap, length, take, ℕ, ◌∷◌, ◌%◌, arith, rules}
use Rattle.rows_values.specs.TimeTexts.{padded_decimal}
use Rattle.changes_writers.proofs.TimeStringLemmas.{clock_cut, no_micros, some_micros}
use Rattle.changes_writers.proofs.times.put_time.Goals as goal

pub overflow_sub-result : goal.overflow_sub-result
overflow_sub-result c =
    let room : c.put_clock-end.result ≤ length c.put_clock-end.new.text = search rules in
    (clock_cut 7 c.args.at c.put_clock-end.result c.put_clock-end.new.text _ c.args.digits c.args.clock room (omega arith) c.put_clock-end.ensures.text (no_micros c.args.digits c.args.clock.micros c.if-digits-eq0.true)).0

pub returns-then-digits-eq0-clause-text : goal.returns-then-digits-eq0-clause-text
returns-then-digits-eq0-clause-text c =
    let room : c.put_clock-end.result ≤ length c.put_clock-end.new.text = search rules in
    (clock_cut 7 c.args.at c.put_clock-end.result c.put_clock-end.new.text _ c.args.digits c.args.clock room (omega arith) c.put_clock-end.ensures.text (no_micros c.args.digits c.args.clock.micros c.if-digits-eq0.true)).1

pub overflow_sub-result-2 : goal.overflow_sub-result-2
overflow_sub-result-2 c =
    let room : c.put_clock-end.result ≤ length c.put_clock-end.new.text = search rules in
    let left : c.saturating_sub.result ≡ 6 - c.args.digits = search rules in
    let kept = ap (λ (j : ℕ). take (7 - j) (46 ∷ padded_decimal 6 (c.args.clock.micros % 1000000))) left ∙ some_micros c.args.digits c.args.clock.micros c.if-digits-eq0.false in
    (clock_cut c.saturating_sub.result c.args.at c.put_clock-end.result c.put_clock-end.new.text _ c.args.digits c.args.clock room (omega (arith, left)) c.put_clock-end.ensures.text kept).0

pub returns-clause-text : goal.returns-clause-text
returns-clause-text c =
    let room : c.put_clock-end.result ≤ length c.put_clock-end.new.text = search rules in
    let left : c.saturating_sub.result ≡ 6 - c.args.digits = search rules in
    let kept = ap (λ (j : ℕ). take (7 - j) (46 ∷ padded_decimal 6 (c.args.clock.micros % 1000000))) left ∙ some_micros c.args.digits c.args.clock.micros c.if-digits-eq0.false in
    (clock_cut c.saturating_sub.result c.args.at c.put_clock-end.result c.put_clock-end.new.text _ c.args.digits c.args.clock room (omega (arith, left)) c.put_clock-end.ensures.text kept).1
