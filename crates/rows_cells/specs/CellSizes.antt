-- The size of a cell, by its format (MySQL's source, libs/mysql/binlog/event/rows_event.h, the table of column types).
use Rattle.std.specs.Prelude.{ℕ, ◌+◌, ◌-◌, nat_le, if◌then◌else◌}
use Rattle.rows_values.specs.PackedTimes.{fraction_len}
use Rattle.rows_errors.specs.declared.fault.RowsError.{RowsError}
use Rattle.rows_errors.specs.declared.fault.RowsError.TheVariants.{Metadata, Cell, Decimal as BadDecimal}
use Rattle.rows_values.specs.Decimals.{packed_size}
use Rattle.rows_cells.specs.declared.format.Width.{Width}
use Rattle.rows_cells.specs.declared.format.Width.TheVariants as width
use Rattle.rows_cells.specs.declared.format.CellFormat.{CellFormat}
use Rattle.rows_cells.specs.declared.format.CellFormat.TheVariants as format

-- the width of a number in bytes
abbrev pub width_bytes : Width → ℕ
width_bytes width.One = 1
width_bytes width.Two = 2
width_bytes width.Three = 3
width_bytes width.Four = 4
width_bytes width.Eight = 8

-- the size of a cell's content: n bytes; a length field of n bytes and as many bytes as it states; or an error
pub data Size : Type 0 where
  exactly : ℕ → Size
  after_length : ℕ → Size
  unreadable : RowsError → Size

-- the size of a packed decimal
abbrev pub decimal_size : ℕ → ℕ → Size
decimal_size precision scale = if nat_le scale precision then exactly (packed_size (precision - scale) scale) else unreadable BadDecimal

-- the size of a cell's content, by its format
abbrev pub cell_size : CellFormat → Size
cell_size (format.Signed w) = exactly (width_bytes w)
cell_size (format.Unsigned w) = exactly (width_bytes w)
cell_size format.Float = exactly 4
cell_size format.Double = exactly 8
cell_size format.Year = exactly 1
cell_size format.NewDate = exactly 3
cell_size format.OldTime = exactly 3
cell_size format.OldDatetime = exactly 8
cell_size (format.Timestamp2 decimals) = exactly (4 + fraction_len decimals)
cell_size (format.Datetime2 decimals) = exactly (5 + fraction_len decimals)
cell_size (format.Time2 decimals) = exactly (3 + fraction_len decimals)
cell_size (format.Decimal precision scale) = decimal_size precision scale
cell_size (format.Plain n) = exactly n
cell_size (format.Counted w) = after_length (width_bytes w)
cell_size format.Json = after_length 4
cell_size format.JsonDiffs = after_length 4
cell_size format.NoMetadata = unreadable Metadata
cell_size format.NoCells = unreadable Cell
