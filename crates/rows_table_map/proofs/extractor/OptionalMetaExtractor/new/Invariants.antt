use Rattle.std.proofs.Common.{◌≡◌}
use Rattle.rows_table_map.specs.Extracted.{extracted}
use Rattle.rows_table_map.specs.MetadataViews.{fields_left, extracted_view}
use Rattle.rows_table_map.proofs.ExtractLemmas.{onward}
use Rattle.rows_table_map.proofs.extractor.OptionalMetaExtractor.new.Given as goal

abbrev pub invariant-loop-field : goal.invariant-loop-field
invariant-loop-field l = onward (extracted_view l.found) (fields_left l.field-iterator) ≡ extracted (fields_left l.fn.fields)
