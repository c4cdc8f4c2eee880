use Rattle.std.proofs.Common.{sym, ◌∙◌}
use Rattle.std.proofs.lemmas.Result.{IfOk-equal}
use Rattle.rows_values.proofs.AppendLemmas.{kept_same, kept_front, whole_appended}
use Rattle.rows_values.proofs.append.append_whole.Goals as goal

pub returns-then-is_empty-clause-kept : goal.returns-then-is_empty-clause-kept
returns-then-is_empty-clause-kept g c = kept_front _ _ _ c.in_ok-push.ensures.items

pub returns-clause-ok : goal.returns-clause-ok
returns-clause-ok g c =
    IfOk-equal _ _ _ _ c.append_glyphs.ensures.ok (whole_appended _ c.args.digits.now _ c.significant-shown.ensures.value (sym c.is_empty.ensures ∙ c.if-is_empty.false))

pub returns-in_err-push-clause-kept : goal.returns-in_err-push-clause-kept
returns-in_err-push-clause-kept g c = kept_same _ _ c.in_err-push.ensures.items
