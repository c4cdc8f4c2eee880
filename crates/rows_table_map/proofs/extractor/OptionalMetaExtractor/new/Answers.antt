use Rattle.std.proofs.Common.{sym, ap, ◌∙◌}
use Rattle.rows_table_map.specs.MetadataViews.{field_view, fields_left, extracted_view}
use Rattle.rows_table_map.specs.Extracted.{Extracted}
use Rattle.rows_table_map.proofs.ExtractLemmas.{onward, onward-ok}
use Rattle.rows_table_map.proofs.extractor.OptionalMetaExtractor.new.Goals as goal

pub loop-field-preserved : goal.loop-field-preserved
loop-field-preserved c =
    ap (λ (e : Extracted). onward e (fields_left c.next.new.self)) c.take.ensures
    ∙ sym (onward-ok (extracted_view c.loop-field.found) (field_view c.in-Ok.field) (fields_left c.next.new.self)) ∙ ap (onward (extracted_view c.loop-field.found)) (sym (rw c.in-Ok.is at c.in-Some.ensures.steps)) ∙ c.loop-field.invariant
