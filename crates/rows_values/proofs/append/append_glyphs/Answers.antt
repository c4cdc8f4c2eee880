use Rattle.std.proofs.Common.{◌++◌, length, take, refl, sym, ap, ◌∙◌}
use Rattle.std.proofs.lemmas.List.{append-nil, take_all}
use Rattle.rows_values.specs.PrintedDecimals.{glyphs}
use Rattle.rows_values.proofs.AppendLemmas.{kept_same, kept_front, kept_more, glyphs_more}
use Rattle.rows_values.proofs.append.append_glyphs.Goals as goal

pub loop-digit-preserved : goal.loop-digit-preserved
loop-digit-preserved g c =
    let pushed = c.in_ok-push.ensures.items in
    record {
      text = glyphs_more _ _ _ c.args.digits.now c.loop-digit.digit-index c.loop-digit-test.true c.loop-digit.invariant.text pushed;
      normalized = kept_more _ _ _ c.loop-digit.invariant.normalized (kept_front _ _ _ pushed);
    }

pub returns-in_err-push-clause-kept : goal.returns-in_err-push-clause-kept
returns-in_err-push-clause-kept g c = ap (take (length c.args.out.now.items)) c.in_err-push.ensures.items ∙ c.loop-digit.invariant.normalized

pub loop-digit-init : goal.loop-digit-init
loop-digit-init g c = record { text = sym (append-nil c.args.out.now.items); normalized = kept_same c.args.out.now.items _ refl }

pub returns-clause-ok : goal.returns-clause-ok
returns-clause-ok g c =
    let digits = c.args.digits.now in
    c.loop-digit.invariant.text ∙ ap (λ l. c.args.out.now.items ++ glyphs l) (take_all c.loop-digit.digit-index digits c.loop-digit-test.false)

pub returns-clause-kept : goal.returns-clause-kept
returns-clause-kept g c = c.loop-digit.invariant.normalized
