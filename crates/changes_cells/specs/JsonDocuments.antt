-- JSON documents, and the partial updates of one, within JSON lines (RFC 8259).
use Rattle.std.specs.Prelude.{ℕ, Bool, true, false, List, [], ◌∷◌, ◌++◌, codes, Option, Some, None, ◌==◌, ◌||◌, if◌then◌else◌}
use Rattle.std.specs.Str.{bytes_eq, is_utf8}
use Rattle.std.specs.Fmt.{decimal}
use Rattle.rows_values.specs.declared.times.mysql_time.MysqlTime.{MysqlTime}
use Rattle.rows_values.specs.declared.times.mysql_time.MysqlTimestampType.{MysqlTimestampType}
use Rattle.rows_values.specs.declared.times.mysql_time.MysqlTimestampType.TheVariants.{MYSQL_TIMESTAMP_DATE, MYSQL_TIMESTAMP_TIME}
use Rattle.rows_values.specs.PrintedDecimals.{decimal_text}
use Rattle.rows_jsonb.specs.declared.diff.JsonDiffOperation.{JsonDiffOperation}
use Rattle.rows_jsonb.specs.declared.diff.JsonDiffOperation.TheVariants.{REPLACE, INSERT, REMOVE}
use Rattle.changes_writers.specs.JsonStrings.{json_string}
use Rattle.changes_writers.specs.Base64Texts.{base64_string, base64_object}
use Rattle.changes_writers.specs.FloatTexts.{IsDoubleJson}
use Rattle.feed_text.specs.JsonText.{temporal_text}
use Rattle.feed_text.specs.DocumentForms.{Form}

-- whether a key of a document could be mistaken for one of ours: it begins with `$`, or is `base64` or `diffs`
abbrev pub is_reserved : List ℕ → Bool
is_reserved [] = false
is_reserved (b ∷ k) = b == 36 || bytes_eq (b ∷ k) (codes "base64") || bytes_eq (b ∷ k) (codes "diffs")

-- a reserved key gets a `$` before it
abbrev pub escaped_key : List ℕ → List ℕ
escaped_key k = if is_reserved k then 36 ∷ k else k

-- a key of a document
abbrev pub key_json : List ℕ → List ℕ
key_json k = json_string (escaped_key k)

-- what is before a date, a time, or both, in an object of ours
abbrev pub time_start : MysqlTimestampType → List ℕ
time_start MYSQL_TIMESTAMP_DATE = codes "{\"$date\":\""
time_start MYSQL_TIMESTAMP_TIME = codes "{\"$time\":\""
time_start _ = codes "{\"$datetime\":\""

-- a value of another column type, by its number
abbrev pub opaque_json : ℕ → List ℕ → List ℕ
opaque_json number bytes = codes "{\"$type\":" ++ (decimal number ++ (codes ",\"base64\":" ++ (base64_string bytes ++ codes "}")))

-- a path: a string, or an object of its bytes in Base64 if they aren't UTF-8
abbrev pub path_json : List ℕ → List ℕ
path_json path = if is_utf8 path then json_string path else base64_object path

-- the name of an operation
abbrev pub operation_name : JsonDiffOperation → List ℕ
operation_name REPLACE = codes "replace"
operation_name INSERT = codes "insert"
operation_name REMOVE = codes "remove"

-- an update before its new value
abbrev pub update_start : JsonDiffOperation → List ℕ → List ℕ
update_start operation path = codes "{\"op\":\"" ++ (operation_name operation ++ (codes "\",\"path\":" ++ path_json path))

-- the new value of an update, and the update's end
abbrev pub value_end : List ℕ → List ℕ
value_end value = codes ",\"value\":" ++ (value ++ codes "}")

-- an update: its operation, path and new value, if it has one
abbrev pub update_json : JsonDiffOperation → List ℕ → Option (List ℕ) → List ℕ
update_json operation path None = update_start operation path ++ codes "}"
update_json operation path (Some value) = update_start operation path ++ value_end value

-- The form of JSON lines: numbers in decimal, the shortest digits of a double, strings and keys as JSON has them; a decimal, a date or a time, and another value as an object of ours; updates in `diffs`.
abbrev pub json_form : Form
json_form = record {
  uint = decimal;
  IsDouble = IsDoubleJson;
  decimal = λ d. codes "{\"$decimal\":\"" ++ (decimal_text d ++ codes "\"}");
  string = json_string;
  time = λ t. time_start t.time_type ++ (temporal_text t ++ codes "\"}");
  opaque = opaque_json;
  key = key_json;
  update = update_json;
  before_updates = codes "{\"diffs\":[";
  after_updates = codes "]}";
}
