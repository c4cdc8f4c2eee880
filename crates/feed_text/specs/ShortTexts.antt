-- The text of values with a short text.
use Rattle.std.specs.Prelude.{ℕ, List, ◌∷◌, ◌+◌, codes}
use Rattle.std.specs.Fmt.{decimal, signed_decimal}
use Rattle.rows_cells.specs.CellValues.{timestamp_text}
use Rattle.feed_writers.specs.Quoting.{quoted}
use Rattle.feed_text.specs.Times.{date_text, span_text}
use Rattle.feed_text.specs.ValueText.{float_text, double_text}
use Rattle.feed_text.specs.declared.short.Short.{Short}
use Rattle.feed_text.specs.declared.short.Short.TheVariants as short

unfoldable pub short_text : Short → List ℕ
short_text short.Null = codes "NULL"
short_text (short.Int z) = signed_decimal z
short_text (short.UInt n) = 117 ∷ decimal n
short_text (short.Float bits) = float_text bits
short_text (short.Double bits) = double_text bits
short_text (short.Year y) = quoted (decimal (1900 + y))
short_text (short.Date day clock) = date_text day clock
short_text (short.Span negative days clock) = span_text negative days clock
short_text (short.Timestamp seconds micros) = quoted (timestamp_text (seconds, micros))
