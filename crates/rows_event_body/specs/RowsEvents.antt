-- Rows events (MySQL Internals: Rows_event): their contents and their bytes.
use Rattle.std.specs.Prelude.{◌≡◌, ◌⊎◌, ℕ, ◌+◌, ◌/◌, List, [], Bool, Option, Some, unwrap_or, ◌==◌, if◌then◌else◌}
use Rattle.wire_buf.specs.Encoding.{Encoding, ◌⨾◌, Alone, Lacks}
use Rattle.wire_buf.specs.ReadErrors.{BeginsThen}
use Rattle.wire_buf.specs.Writing.{concat_some}
use Rattle.wire_buf.specs.Numbers.{IsLenenc, lenenc_encoded}
use Rattle.wire_buf.specs.declared.fault.WireFault.{WireFault}
use Rattle.wire_buf.specs.declared.fault.WireFault.TheVariants.{Eof}
use Rattle.wire_fields.specs.Ints.{little_encoded}
use Rattle.wire_fields.specs.IntFaults.{lenenc_fault}
use Rattle.wire_fields.specs.ByteStrings.{IsAll}
use Rattle.rows_table_map.specs.TableMaps.{little_endian, plain_bytes, id_width}
use Rattle.rows_event_body.specs.RowsEventFields.{IsMaybe, IsExtra, only_if, extra_encoded, optional_encoded}
use Rattle.rows_event_body.specs.RowsEventTypes.{images_of, has_before, has_after, writes_extra}
use Rattle.rows_event_body.specs.declared.rows_event_type.RowsEventType.{RowsEventType}
use Rattle.rows_event_body.specs.declared.rows_event_ctx.RowsEventCtx.{RowsEventCtx}

-- the contents of a rows event: the number of columns, for each image a bit per column that says whether the image has it, and the rows data; the rows don't depend on `extra`
pub record RowsBody : Type 0 where
  pub event_type : RowsEventType
  pub table_id : ℕ
  pub flags : ℕ
  pub extra : Option (List ℕ)
  pub columns : ℕ
  pub before : Option (List ℕ)
  pub after : Option (List ℕ)
  pub rows_data : List ℕ

-- extra data is present if the post-header length is that of WRITE_ROWS_EVENT
abbrev pub has_extra : RowsEventCtx → Bool
has_extra ctx = ctx.post_header_len == ctx.write_post_header_len

-- the number of bytes with one bit for each of n columns
abbrev pub bits_size : ℕ → ℕ
bits_size n = (n + 7) / 8

-- the table id, the flags and the extra data
abbrev pub IsRowsHead : RowsEventCtx → Encoding (ℕ × (ℕ × Option (List ℕ)))
IsRowsHead ctx (id, (flags, extra)) =
    little_endian (id_width ctx.post_header_len) id ⨾ little_endian 2 flags ⨾ IsMaybe (λ u. IsExtra) (only_if (has_extra ctx) (tt {0})) extra

-- the column bits of each image that the rows have, and the rows
abbrev pub IsRows : RowsEventType → ℕ → Encoding (Option (List ℕ) × (Option (List ℕ) × List ℕ))
IsRows t n (before, (after, rows_data)) =
    IsMaybe plain_bytes (only_if (has_before (images_of t)) (bits_size n)) before
    ⨾ IsMaybe plain_bytes (only_if (has_after (images_of t)) (bits_size n)) after ⨾ IsAll rows_data

-- the body of a rows event of the context's type, up to the end of the bytes
abbrev pub IsRowsEvent : RowsEventCtx → Encoding RowsBody
IsRowsEvent ctx r bytes rest =
    (r.event_type ≡ ctx.event_type)
    × (IsRowsHead ctx (r.table_id, (r.flags, r.extra)) ⨾ Alone IsLenenc r.columns ⨾ IsRows ctx.event_type r.columns (r.before, (r.after, r.rows_data))) bytes rest

-- the bytes don't encode such a field, since bytes are missing
abbrev pub IsMissing : {A : Type 0} → Encoding A → List ℕ → WireFault → Type 0
IsMissing encoding x fault = Lacks encoding x × (fault ≡ Eof)

-- which error is returned: `Eof` if bytes are missing before or after the column count, and the error of that count if it can't be read
abbrev pub RowsEventFails : RowsEventCtx → List ℕ → WireFault → Type 0
RowsEventFails ctx x fault =
    IsMissing (IsRowsHead ctx) x fault
    ⊎ BeginsThen (IsRowsHead ctx) (λ f y. Lacks (Alone IsLenenc) y × (fault ≡ lenenc_fault y)) x
    ⊎ BeginsThen (IsRowsHead ctx) (λ f y. BeginsThen (Alone IsLenenc) (λ n z. IsMissing (IsRows ctx.event_type n) z fault) y) x

-- the context for reading what is written: the post-header lengths that servers use today
abbrev pub written_ctx : RowsEventType → RowsEventCtx
written_ctx t = record { event_type = t; post_header_len = if writes_extra t then 10 else 8; write_post_header_len = 10 }

-- the part of an event that is written: extra data exactly if its type has it
abbrev pub written_body : RowsBody → RowsBody
written_body r = record r { extra = only_if (writes_extra r.event_type) (unwrap_or r.extra []) }

-- the bytes that are written for a rows event: the table id in six bytes; None if the table id or the size of the extra data doesn't fit
abbrev pub rows_event_encoded : RowsBody → Option (List ℕ)
rows_event_encoded r =
    concat_some (concat_some (little_encoded 6 r.table_id) (concat_some (little_encoded 2 r.flags) (optional_encoded extra_encoded r.extra)))
    (concat_some (Some (lenenc_encoded r.columns)) (concat_some (optional_encoded (λ b. Some b) r.before) (concat_some
    (optional_encoded (λ b. Some b) r.after) (Some r.rows_data))))

-- an event that was read in the context of its type is written completely
abbrev pub IsWrittenWhole : Type 0
IsWrittenWhole = (r : RowsBody) (bytes rest : List ℕ) → IsRowsEvent (written_ctx r.event_type) r bytes rest → written_body r ≡ r
