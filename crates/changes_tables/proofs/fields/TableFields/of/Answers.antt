use Rattle.std.proofs.Common.{List, sym, ap, ◌∙◌}
use Rattle.rows_errors.specs.Readings.{Reading, map_reading}
use Rattle.rows_table_map.specs.MetadataFields.{Field}
use Rattle.rows_table_map.specs.MetadataViews.{field_view, fields_left}
use Rattle.changes_tables.specs.UsedMetadata.{UsedMetadata, readable, used}
use Rattle.changes_tables.specs.FieldViews.{fields_view}
use Rattle.changes_tables.proofs.MetadataLemmas.{later, later-none, later-read}
use Rattle.changes_tables.proofs.fields.TableFields.of.Goals as goal

pub loop-field-init : goal.loop-field-init
loop-field-init c =
    let left = fields_left c.into_iter-field-iterator.result in
    ap (λ (u : UsedMetadata). later u (readable left)) c.none-found.ensures
    ∙ later-none (readable left)
    ∙ ap (λ (fs : List (Reading Field)). used (readable fs)) (ap fields_left c.into_iter-field-iterator.ensures.into_iter_gives ∙ c.iter_optional_meta-field-items.ensures)

pub loop-field-preserved : goal.loop-field-preserved
loop-field-preserved c =
    ap (λ (u : UsedMetadata). later u (readable (fields_left c.next.new.self))) c.take_read.ensures
    ∙ sym (later-read (fields_view c.loop-field.found) (map_reading field_view c.in-Some.field) (fields_left c.next.new.self))
    ∙ ap (λ (fs : List (Reading Field)). later (fields_view c.loop-field.found) (readable fs)) (sym c.in-Some.ensures.steps)
    ∙ c.loop-field.invariant
