use Rattle.std.proofs.lemmas.Result.{IfOk-equal}
use Rattle.rows_values.specs.Decimals.{decimal_parts}
use Rattle.rows_values.proofs.AppendLemmas.{kept_same, kept_front, kept_more, decimal_appended}
use Rattle.rows_values.proofs.fields.Decimal.append_parts.Goals as goal

pub returns-in_err-append_sign-clause-kept : goal.returns-in_err-append_sign-clause-kept
returns-in_err-append_sign-clause-kept g c = kept_same _ _ c.in_err-append_sign.ensures.err

pub returns-in_err-append_whole-clause-kept : goal.returns-in_err-append_whole-clause-kept
returns-in_err-append_whole-clause-kept g c = kept_more _ _ _ (kept_front _ _ _ c.in_ok-append_sign.ensures.ok) c.append_whole.ensures.kept

pub returns-clause-ok : goal.returns-clause-ok
returns-clause-ok g c =
    IfOk-equal _ _ _ _ c.append_fraction.ensures.ok
    (decimal_appended (decimal_parts c.args.self.now) _ _ _ _ _ c.deref.ensures.value c.deref-2.ensures.value c.in_ok-append_sign.ensures.ok c.in_ok-append_whole.ensures.ok)

pub returns-clause-kept : goal.returns-clause-kept
returns-clause-kept g c =
    kept_more _ _ _ (kept_more _ _ _ (kept_front _ _ _ c.in_ok-append_sign.ensures.ok) c.append_whole.ensures.kept) c.append_fraction.ensures.kept
