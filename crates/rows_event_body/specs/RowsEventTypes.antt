-- The types of rows events (MySQL Internals: Rows_event): which images their rows have, and which types have extra data.
use Rattle.std.specs.Prelude.{Bool, true, false, Option, Some, None}
use Rattle.rows_constants.specs.declared.event_type.EventType.{EventType}
use Rattle.rows_constants.specs.declared.event_type.EventType.TheVariants as event
use Rattle.rows_event_body.specs.declared.rows_event_type.RowsEventType.{RowsEventType}
use Rattle.rows_event_body.specs.declared.rows_event_type.RowsEventType.TheVariants as rows
use Rattle.rows_event_body.specs.declared.rows_event_type.RowImages.{RowImages}
use Rattle.rows_event_body.specs.declared.rows_event_type.RowImages.TheVariants as images

-- the type as one of a rows event, if it is one; the three PRE_GA types aren't supported
abbrev pub rows_event_type : EventType → Option RowsEventType
rows_event_type event.WRITE_ROWS_EVENT_V1 = Some rows.WriteRowsV1
rows_event_type event.UPDATE_ROWS_EVENT_V1 = Some rows.UpdateRowsV1
rows_event_type event.DELETE_ROWS_EVENT_V1 = Some rows.DeleteRowsV1
rows_event_type event.WRITE_ROWS_EVENT = Some rows.WriteRows
rows_event_type event.UPDATE_ROWS_EVENT = Some rows.UpdateRows
rows_event_type event.DELETE_ROWS_EVENT = Some rows.DeleteRows
rows_event_type event.PARTIAL_UPDATE_ROWS_EVENT = Some rows.PartialUpdateRows
rows_event_type other = None

-- an inserted row has an after image, a deleted row a before image, an updated row both
abbrev pub images_of : RowsEventType → RowImages
images_of rows.WriteRowsV1 = images.After
images_of rows.UpdateRowsV1 = images.BeforeAndAfter
images_of rows.DeleteRowsV1 = images.Before
images_of rows.WriteRows = images.After
images_of rows.UpdateRows = images.BeforeAndAfter
images_of rows.DeleteRows = images.Before
images_of rows.PartialUpdateRows = images.BeforeAndPartialAfter

-- whether events of the type are written with extra data
abbrev pub writes_extra : RowsEventType → Bool
writes_extra rows.WriteRowsV1 = false
writes_extra rows.UpdateRowsV1 = false
writes_extra rows.DeleteRowsV1 = false
writes_extra rows.WriteRows = true
writes_extra rows.UpdateRows = true
writes_extra rows.DeleteRows = true
writes_extra rows.PartialUpdateRows = true

-- whether each row has a before image
abbrev pub has_before : RowImages → Bool
has_before images.Before = true
has_before images.After = false
has_before images.BeforeAndAfter = true
has_before images.BeforeAndPartialAfter = true

-- whether each row has an after image
abbrev pub has_after : RowImages → Bool
has_after images.Before = false
has_after images.After = true
has_after images.BeforeAndAfter = true
has_after images.BeforeAndPartialAfter = true

-- whether a JSON document in the after image may be encoded as diffs
abbrev pub has_partial_after : RowImages → Bool
has_partial_after images.BeforeAndPartialAfter = true
has_partial_after other = false
