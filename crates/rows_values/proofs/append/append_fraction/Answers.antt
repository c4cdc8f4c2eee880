use Rattle.std.proofs.Common.{sym, ◌∙◌}
use Rattle.std.proofs.lemmas.Result.{IfOk-equal}
use Rattle.rows_values.proofs.AppendLemmas.{kept_same, kept_front, kept_more, fraction_appended}
use Rattle.rows_values.proofs.append.append_fraction.Goals as goal

pub returns-clause-ok : goal.returns-clause-ok
returns-clause-ok g c =
    IfOk-equal _ _ _ _ c.append_glyphs.ensures.ok (fraction_appended _ _ c.args.digits.now (sym c.is_empty.ensures ∙ c.if-is_empty.false) c.in_ok-push.ensures.items)

pub returns-clause-kept : goal.returns-clause-kept
returns-clause-kept g c = kept_more _ _ _ (kept_front _ _ _ c.in_ok-push.ensures.items) c.append_glyphs.ensures.kept

pub returns-in_err-push-clause-kept : goal.returns-in_err-push-clause-kept
returns-in_err-push-clause-kept g c = kept_same _ _ c.in_err-push.ensures.items
