-- What was written can be read again.
use Rattle.std.specs.Prelude.{◌≡◌, ⊤, List, [], ℕ, Option}
use Rattle.wire_buf.specs.Encoding.{Encoding, Begins, Reads, AreBytes}
use Rattle.wire_buf.specs.Writing.{WritesField}
use Rattle.rows_event_body.specs.RowsEvents.{RowsBody, IsRowsEvent, rows_event_encoded, written_body, written_ctx}
use Rattle.rows_event_body.specs.declared.rows_event_type.RowsEventType.{RowsEventType}
use Rattle.events_owned.specs.RowsContexts.{described_ctx}
use Rattle.events_frames.specs.Footers.{ChecksumSettings, no_settings}
use Rattle.events_frames.specs.Descriptions.{Description, IsFields, IsDescription, description_encoded, written_description}

-- Bytes that begin with the encoding of a value are read as this value.
abbrev pub IsReadAsEncoded : {A : Type 0} → Encoding A → Type 0
IsReadAsEncoded {A} encoding = (v : A) (before after : List ℕ) → Begins (encoding v) before after → Reads encoding v before after

-- nothing follows
abbrev pub NothingFollows : List ℕ → Type 0
NothingFollows rest = rest ≡ []

-- any bytes may follow
abbrev pub AnythingFollows : List ℕ → Type 0
AnythingFollows rest = ⊤

-- The bytes that `serialize` writes for a value are read as this value, if no bytes follow.
abbrev pub IsReadAgain : {A : Type 0} → (A → Option (List ℕ)) → Encoding A → (List ℕ → Type 0) → Type 0
IsReadAgain {A} encoded encoding allows_rest = (v : A) (old new : List ℕ) (w : WritesField encoded encoding allows_rest v old new) → Reads encoding v w.bytes []

-- A value that was read, written and read again is the same value. `written` is the part of a value that is written.
abbrev pub IsSameAgain : {A : Type 0} → (A → A) → (A → Option (List ℕ)) → Encoding A → (List ℕ → Type 0) → Type 0
IsSameAgain {A} written encoded encoding allows_rest =
    (v : A) (body old new : List ℕ) → AreBytes body → Reads encoding v body [] → (w : WritesField encoded encoding allows_rest (written v) old new) → Reads encoding v w.bytes []

-- Both for format descriptions: their version is 4, and their footers follow the body, so none is written with it.
abbrev pub IsDescriptionReadAgain : Type 0
IsDescriptionReadAgain =
    (d : Description) (old new : List ℕ) → d.version ≡ 4 → (w : WritesField description_encoded IsFields NothingFollows d old new) → Reads IsDescription (record d { footer = no_settings }) w.bytes []

abbrev pub IsDescriptionSameAgain : Type 0
IsDescriptionSameAgain =
    (d : Description) (footer : ChecksumSettings) (body old new : List ℕ) → Reads IsDescription d body []
    → (w : WritesField description_encoded IsFields NothingFollows (written_description (record d { footer = footer })) old new) → Reads IsDescription d w.bytes []

-- Both for rows events of any type, if the format description lists no post-header lengths.
abbrev pub IsRowsReadAgain : Type 0
IsRowsReadAgain =
    (r : RowsBody) (old new : List ℕ) (w : WritesField rows_event_encoded (λ r. IsRowsEvent (written_ctx r.event_type) r) NothingFollows r old new)
    → Reads (IsRowsEvent (described_ctx r.event_type [])) r w.bytes []

abbrev pub IsRowsSameAgain : Type 0
IsRowsSameAgain =
    (t : RowsEventType) (r : RowsBody) (body old new : List ℕ) → Reads (IsRowsEvent (described_ctx t [])) r body []
    → (w : WritesField rows_event_encoded (λ r. IsRowsEvent (written_ctx r.event_type) r) NothingFollows (written_body r) old new) → Reads (IsRowsEvent (described_ctx t [])) r w.bytes []
