use Rattle.std.proofs.Common.{sym, ◌∙◌, ap}
use Rattle.std.specs.declared.result.Result.TheVariants.{Ok}
use Rattle.rows_jsonb.proofs.Utf8Lemmas.{utf8_is, utf8_failed}
use Rattle.rows_jsonb.proofs.parse.text.Goals as goal

pub returns-in_ok-from_str-in-Ok : goal.returns-in_ok-from_str-in-Ok
returns-in_ok-from_str-in-Ok c = utf8_is _ c.in-Ok.ensures.cases.1 ∙ ap Ok (sym (c.in-Ok.ensures.cases.0) ∙ sym (c.in_ok-from_str-in-Ok.ensures.ok))

pub returns-in-Err : goal.returns-in-Err
returns-in-Err c = utf8_failed _ c.in-Err.ensures.cases.0
