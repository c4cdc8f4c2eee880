use Rattle.std.proofs.Common.{sym, ◌∙◌, Some, None}
use Rattle.std.proofs.lemmas.Result.{on_ok_weaker}
use Rattle.rows_jsonb.proofs.DocumentLemmas.{document_eaten, document_is}
use Rattle.rows_jsonb.proofs.value.Value.read_document.Goals as goal

pub returns-in-Some-of_byte-clause-rest : goal.returns-in-Some-of_byte-clause-rest
returns-in-Some-of_byte-clause-rest c =
    let eats = c.in-Some.ensures.some in
    on_ok_weaker c.read.result (document_eaten _ _ _ _ _ eats.room eats.value_is eats.rest (sym c.of_byte.ensures ∙ c.in-Some-of_byte.is)) c.read.ensures.rest

pub returns-in-Some-of_byte-clause-value : goal.returns-in-Some-of_byte-clause-value
returns-in-Some-of_byte-clause-value c =
    let eats = c.in-Some.ensures.some in
    c.read.ensures.value ∙ document_is _ _ _ (Some c.in-Some-of_byte.value_type) eats.room eats.value_is eats.rest (sym c.of_byte.ensures ∙ c.in-Some-of_byte.is)

pub returns-in-None-clause-value : goal.returns-in-None-clause-value
returns-in-None-clause-value c =
    let eats = c.in-Some.ensures.some in
    document_is _ _ _ None eats.room eats.value_is eats.rest (sym c.of_byte.ensures ∙ c.in-None.is)
