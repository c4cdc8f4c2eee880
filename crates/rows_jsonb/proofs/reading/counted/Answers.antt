use Rattle.std.proofs.Common.{sym, ◌∙◌, ap}
use Rattle.std.specs.declared.result.Result.TheVariants.{Ok}
use Rattle.rows_jsonb.proofs.VarLenLemmas.{varlen_lacking, counted_whole, counted_short, counted_eaten}
use Rattle.rows_jsonb.proofs.reading.counted.Goals as goal

pub returns-in_default-clause-value : goal.returns-in_default-clause-value
returns-in_default-clause-value c = sym (varlen_lacking _ c.in_default.ensures.err.0)

pub returns-in-Some-clause-value : goal.returns-in-Some-clause-value
returns-in-Some-clause-value c = ap Ok c.in-Some.ensures.some.value_is ∙ sym (counted_whole _ _ _ c.in-Ok.ensures.ok c.in-Some.ensures.some.room)

pub returns-in-Some-clause-rest : goal.returns-in-Some-clause-rest
returns-in-Some-clause-rest c = counted_eaten _ _ _ _ c.in-Ok.ensures.ok c.in-Some.ensures.some.room c.in-Some.ensures.some.rest

pub returns-in-None-clause-value : goal.returns-in-None-clause-value
returns-in-None-clause-value c = sym (counted_short _ _ _ c.in-Ok.ensures.ok c.in-None.ensures.none.missing)
