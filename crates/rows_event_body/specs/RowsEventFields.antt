-- Fields of rows events (MySQL Internals: Rows_event): optional fields and extra data.
use Rattle.std.specs.Prelude.{◌≡◌, ℕ, ◌+◌, ◌-◌, List, [], length, Bool, Option, Some, None, if◌then◌else◌}
use Rattle.wire_buf.specs.Encoding.{Encoding, ◌⨾◌}
use Rattle.wire_buf.specs.Writing.{concat_some}
use Rattle.wire_fields.specs.Ints.{little_encoded}
use Rattle.rows_table_map.specs.TableMaps.{little_endian, plain_bytes}

-- the value, if the condition holds
abbrev pub only_if : {A : Type 0} → Bool → A → Option A
only_if b v = if b then Some v else None

-- a field that is present exactly if its context is
abbrev pub IsMaybe : {C A : Type 0} → (C → Encoding A) → Option C → Encoding (Option A)
IsMaybe encoding None None bytes rest = bytes ≡ []
IsMaybe encoding (Some ctx) (Some v) bytes rest = encoding ctx v bytes rest
IsMaybe encoding ctx v bytes rest = ⊥

-- the same without a context
abbrev pub IsOptionalPart : {A : Type 0} → Encoding A → Encoding (Option A)
IsOptionalPart encoding None bytes rest = bytes ≡ []
IsOptionalPart encoding (Some v) bytes rest = encoding v bytes rest

-- the error of a field that must be present
abbrev pub OptionalFails : {C E : Type 0} → (C → List ℕ → E → Type 0) → Option C → List ℕ → E → Type 0
OptionalFails fails_with None x fault = ⊥
OptionalFails fails_with (Some ctx) x fault = fails_with ctx x fault

-- the bytes that are written for a field, or none
abbrev pub optional_encoded : {A : Type 0} → (A → Option (List ℕ)) → Option A → Option (List ℕ)
optional_encoded encoded None = Some []
optional_encoded encoded (Some v) = encoded v

-- extra data: its size in two bytes, which counts these two, and the data; a size below 2 means no data
pub record IsExtra (v bytes rest : List ℕ) : Type 0 where
  pub size : ℕ
  pub encoding_is : (little_endian 2 size ⨾ plain_bytes (size - 2) v) bytes rest

-- the bytes that are written for extra data: None if its size doesn't fit in two bytes
abbrev pub extra_encoded : List ℕ → Option (List ℕ)
extra_encoded v = concat_some (little_encoded 2 (length v + 2)) (Some v)
