-- The text of the feed: JSON documents.
use Rattle.std.specs.Prelude.{ℕ, List, [], ◌∷◌, ◌++◌, codes, if◌then◌else◌}
use Rattle.std.specs.List.{join_with_byte}
use Rattle.std.specs.Fmt.{decimal, signed_decimal}
use Rattle.std.specs.Int.{w64, to_be_bytes}
use Rattle.hex.specs.Hex.{encode_lower}
use Rattle.rows_values.specs.declared.times.mysql_time.MysqlTime.{MysqlTime}
use Rattle.rows_values.specs.declared.times.mysql_time.MysqlTimestampType.{MysqlTimestampType}
use Rattle.rows_values.specs.declared.times.mysql_time.MysqlTimestampType.TheVariants.{MYSQL_TIMESTAMP_DATE, MYSQL_TIMESTAMP_TIME}
use Rattle.rows_values.specs.PrintedDecimals.{decimal_text, sign_text}
use Rattle.rows_jsonb.specs.JsonTrees as tree
use Rattle.rows_jsonb.specs.JsonTrees.{Tree, Items, no_items, item, Members, no_members, member}
use Rattle.feed_writers.specs.Quoting.{quoted}
use Rattle.feed_writers.specs.declared.times.Clock.{Clock}
use Rattle.feed_writers.specs.declared.times.Day.{Day}
use Rattle.feed_writers.specs.TimesOfDay.{clock_text, day_text}

-- the date of a value
abbrev pub day_of : MysqlTime → Day
day_of t = record { year = t.year; month = t.month; day = t.day }

-- the time of day of a value
abbrev pub clock_of : MysqlTime → Clock
clock_of t = record { hour = t.hour; minute = t.minute; second = t.second; micros = t.second_part }

-- a date, a time, or a date and a time of day
unfoldable pub temporal_text : MysqlTime → List ℕ
temporal_text t = text t.time_type
  where
    text : MysqlTimestampType → List ℕ
    text MYSQL_TIMESTAMP_DATE = day_text (day_of t)
    text MYSQL_TIMESTAMP_TIME = sign_text t.neg ++ clock_text (clock_of t)
    text _ = day_text (day_of t) ++ 32 ∷ clock_text (clock_of t)

-- numbers as in cells; a decimal; a string quoted
unfoldable pub scalar_text : tree.Scalar → List ℕ
scalar_text tree.null = codes "null"
scalar_text (tree.boolean b) = if b then codes "true" else codes "false"
scalar_text (tree.int z) = signed_decimal z
scalar_text (tree.uint n) = codes "u" ++ decimal n
scalar_text (tree.double bits) = codes "d" ++ encode_lower (to_be_bytes w64 bits)
scalar_text (tree.decimal d) = decimal_text d
scalar_text (tree.string s) = quoted s
scalar_text (tree.time t) = codes "t'" ++ (temporal_text t ++ codes "'")
scalar_text (tree.opaque number bytes) = codes "o" ++ (decimal number ++ (codes ":" ++ quoted bytes))

unfoldable mutual
  -- elements and members in brackets, with a comma between each two
  pub document_text : Tree → List ℕ
  document_text (tree.scalar s) = scalar_text s
  document_text (tree.array is) = codes "[" ++ (join_with_byte 44 (item_texts is) ++ codes "]")
  document_text (tree.object ms) = codes "{" ++ (join_with_byte 44 (member_texts ms) ++ codes "}")

  -- the text of each element
  pub item_texts : Items → List (List ℕ)
  item_texts no_items = []
  item_texts (item t ts) = document_text t ∷ item_texts ts

  -- a quoted key, a colon, and its value
  pub member_texts : Members → List (List ℕ)
  member_texts no_members = []
  member_texts (member k t ms) = (quoted k ++ (codes ":" ++ document_text t)) ∷ member_texts ms
