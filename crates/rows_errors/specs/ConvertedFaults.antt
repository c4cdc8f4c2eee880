-- The `RowsError` of each `WireFault`.
use Rattle.wire_buf.specs.declared.fault.WireFault.{WireFault}
use Rattle.wire_buf.specs.declared.fault.WireFault.TheVariants.{Eof, BadNumber, BadConst, Memory, Read, Write, Form}
use Rattle.rows_errors.specs.declared.fault.RowsError.{RowsError}
use Rattle.rows_errors.specs.declared.fault.RowsError.TheVariants as rows

-- the error of a row for an error of its bytes
abbrev pub rows_error : WireFault → RowsError
rows_error Eof = rows.EndOfBody
rows_error BadNumber = rows.UnknownNumber
rows_error BadConst = rows.UnknownNumber
rows_error Form = rows.UnknownNumber
rows_error Memory = rows.Memory
rows_error Read = rows.Read
rows_error Write = rows.Read
