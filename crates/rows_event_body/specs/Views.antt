-- The specification's values for the crate's rows events.
use Rattle.wire_fields.specs.RawTexts.{raw_string}
use Rattle.rows_event_body.specs.RowsFieldViews.{maybe_text, maybe_extra}
use Rattle.rows_event_body.specs.RowsEvents.{RowsBody}
use Rattle.rows_event_body.specs.declared.rows_event.RowsEvent.{RowsEvent}

-- the contents of an event
abbrev pub body_of : RowsEvent → RowsBody
body_of e = record {
  event_type = e.event_type;
  table_id = e.table_id.0;
  flags = e.flags.0;
  extra = maybe_extra e.extra_data;
  columns = e.num_columns.0;
  before = maybe_text e.before;
  after = maybe_text e.after;
  rows_data = raw_string e.rows_data;
}
