use Rattle.rows_jsonb.specs.JsonbValues.{document, document_size}
use Rattle.rows_jsonb.specs.JsonbViews.{jsonb_value}
use Rattle.rows_jsonb.proofs.FieldLemmas.{reads_if_ok}
use Rattle.rows_jsonb.proofs.fields.ValueMyDeserialize.deserialize.Goals as goal

pub returns-clause-ok : goal.returns-clause-ok
returns-clause-ok c =
    reads_if_ok jsonb_value document document_size c.read_document.result _ _ c.read_document.ensures.value c.read_document.ensures.rest
