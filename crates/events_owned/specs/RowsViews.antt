-- The specification's values for the crate's rows events of one type.
use Rattle.rows_event_body.specs.RowsEvents.{RowsBody}
use Rattle.rows_event_body.specs.Views.{body_of}
use Rattle.events_owned.specs.declared.kinds.RowsKind.{Ghosts}
use Rattle.events_owned.specs.declared.rows_event_of.RowsEventOf.{RowsEventOf}
use Rattle.events_owned.specs.declared.rows_event_data.RowsEventData.{RowsEventData}
use Rattle.events_owned.specs.declared.rows_event_data.RowsEventData.TheVariants.{WriteRowsEventV1, UpdateRowsEventV1, DeleteRowsEventV1, WriteRowsEvent, UpdateRowsEvent, DeleteRowsEvent, PartialUpdateRowsEvent}

abbrev pub rows_of : {K : Type 0} {kind : Ghosts K} → RowsEventOf K kind → RowsBody
rows_of e = body_of e.event

-- the contents of an event of any type
abbrev pub data_of : RowsEventData → RowsBody
data_of (WriteRowsEventV1 e) = rows_of e
data_of (UpdateRowsEventV1 e) = rows_of e
data_of (DeleteRowsEventV1 e) = rows_of e
data_of (WriteRowsEvent e) = rows_of e
data_of (UpdateRowsEvent e) = rows_of e
data_of (DeleteRowsEvent e) = rows_of e
data_of (PartialUpdateRowsEvent e) = rows_of e
