use Rattle.std.proofs.Common.{ap, ◌∙◌}
use Rattle.rows_table_map.specs.ColumnViews.{remaining_columns}
use Rattle.rows_table_map.specs.Extracted.{extracted}
use Rattle.rows_table_map.specs.MetadataViews.{extracted_view}
use Rattle.rows_event_body.specs.Plans.{table_columns_of}
use Rattle.rows_event_body.proofs.PlanLemmas.{plan_made}
use Rattle.rows_event_body.proofs.run.ColumnRun.new.Goals as goal

pub returns : goal.returns
returns c = λ n.
    plan_made c.args.table_map.now (extracted_view c.in-Ok.metadata) (remaining_columns c.columns.result) c.in_ok-from_slice.field-0.items c.append_columns.new.columns.items c.in_ok-stop.stop
    (c.in-Ok.ensures ∙ ap extracted c.iter_optional_meta.ensures) c.columns.ensures (c.in_ok-from_slice.ensures.items ∙ c.value.ensures ∙ c.column_names.ensures)
    (c.in_ok-stop.ensures (table_columns_of (remaining_columns c.columns.result) (extracted_view c.in-Ok.metadata)) c.new-walk.ensures.at) n
