-- Events that each source gives as they are (MySQL source documentation: Log_event_type, Query_event).
use Rattle.std.specs.Prelude.{◌≡◌, ◌+◌, ◌==◌, ◌&&◌, ℕ, Bool, true, List, drop, length, nat_lt, not, slice_index, if◌then◌else◌}
use Rattle.byteorder.specs.Endian.{little_number}
use Rattle.events_frames.specs.GivenEvents.{GivesEvent, MayBe}
use Rattle.events_frames.specs.HeaderFields.{header_field}

-- where the statement of a QUERY_EVENT begins: after its header (19) the length of the schema is at 8, that of the status variables at 11; these follow at 13, then the schema, and a byte
abbrev pub statement_start : List ℕ → ℕ
statement_start event = 33 + little_number 2 (drop 30 event) + slice_index event 27

-- a byte that neither an XA statement nor ROLLBACK begins with: not X, and not R
abbrev pub is_plain_byte : ℕ → Bool
is_plain_byte byte = not (byte == 88) && not (byte == 82)

-- the statement of a QUERY_EVENT begins with such a byte
abbrev pub has_plain_statement : List ℕ → Bool
has_plain_statement event = nat_lt 33 (length event) && nat_lt (statement_start event) (length event) && is_plain_byte (slice_index event (statement_start event))

-- such a QUERY_EVENT (2), or another event whose type is below that of a TRANSACTION_PAYLOAD_EVENT (40), but for a FORMAT_DESCRIPTION_EVENT (15) and an XA_PREPARE_LOG_EVENT (38)
abbrev pub is_plain_type : ℕ → Bool
is_plain_type number = nat_lt number 40 && not (number == 15) && not (number == 38)

abbrev pub is_plain : List ℕ → Bool
is_plain event = if header_field 4 1 event == 2 then has_plain_statement event else is_plain_type (header_field 4 1 event)

-- a plain event was given
pub record GivesPlain (Old New : MayBe) (event waiting : List ℕ) : Type 0 where
  pub plain : is_plain event ≡ true
  pub gives : GivesEvent Old New event waiting
