-- An event body of any type that was read and written is read again.
use Rattle.std.specs.Prelude.{ℕ, List, []}
use Rattle.wire_buf.specs.Encoding.{AreBytes}
use Rattle.wire_buf.specs.Writing.{WritesField}
use Rattle.events_owned.specs.DataReadings.{IsRead}
use Rattle.events_owned.specs.DataEncodings.{IsData, data_encoded}
use Rattle.events_owned.specs.declared.body_format.BodyFormat.{BodyFormat}
use Rattle.events_owned.specs.declared.event_data.EventData.{EventData}
use Rattle.mysql_binlog_events.specs.ReadAgain.{NothingFollows}

-- The body of an event that was read, written and read again is the same, if the format description lists no post-header lengths.
abbrev pub IsDataSameAgain : Type 0
IsDataSameAgain =
    (e : EventData) (encoding : BodyFormat) (body old new : List ℕ) → AreBytes body → IsRead [] encoding e body → (w : WritesField data_encoded IsData NothingFollows e old new) → IsRead [] encoding e w.bytes
