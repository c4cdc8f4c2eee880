-- The error for bytes that don't begin with an entry.
use Rattle.std.specs.Prelude.{◌≡◌, ◌⊎◌, ℕ, List}
use Rattle.wire_buf.specs.Encoding.{BeginsWith, Lacks}
use Rattle.wire_buf.specs.ReadErrors.{BeginsThen}
use Rattle.wire_fields.specs.IntFaults.{lenenc_fault}
use Rattle.rows_errors.specs.ConvertedFaults.{rows_error}
use Rattle.rows_errors.specs.declared.fault.RowsError.{RowsError}
use Rattle.rows_errors.specs.declared.fault.RowsError.TheVariants.{EndOfBody}
use Rattle.rows_table_map.specs.Entries.{NumberEncoding}

-- no integer: `UnknownNumber` if the first byte is 251 or 255, otherwise `EndOfBody`
abbrev pub NumberEntryFails : List ℕ → RowsError → Type 0
NumberEntryFails bytes e = Lacks NumberEncoding bytes × (e ≡ rows_error (lenenc_fault bytes))

-- no integer for the length, or fewer bytes after it than the length
abbrev pub StringEntryFails : List ℕ → RowsError → Type 0
StringEntryFails bytes e = NumberEntryFails bytes e ⊎ (BeginsWith NumberEncoding bytes × (e ≡ EndOfBody))

-- no first integer, or no second one
abbrev pub PairEntryFails : List ℕ → RowsError → Type 0
PairEntryFails bytes e = NumberEntryFails bytes e ⊎ BeginsThen NumberEncoding (λ first after. NumberEntryFails after e) bytes
