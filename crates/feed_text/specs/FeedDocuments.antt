-- The form of JSON documents in the text of the feed.
use Rattle.std.specs.Prelude.{◌≡◌, ℕ, List, ◌∷◌, ◌++◌, codes, Option, Some, None}
use Rattle.std.specs.Fmt.{decimal}
use Rattle.rows_values.specs.PrintedDecimals.{decimal_text}
use Rattle.rows_jsonb.specs.declared.diff.JsonDiffOperation.{JsonDiffOperation}
use Rattle.feed_writers.specs.Quoting.{quoted}
use Rattle.feed_text.specs.DocumentForms.{Form}
use Rattle.feed_text.specs.DiffText.{operation_text}
use Rattle.feed_text.specs.JsonText.{temporal_text}
use Rattle.feed_text.specs.ValueText.{double_text}

-- an operation, its quoted path, and the new value after a space, if it has one
abbrev pub update_text : JsonDiffOperation → List ℕ → Option (List ℕ) → List ℕ
update_text operation path None = operation_text operation ++ quoted path
update_text operation path (Some value) = operation_text operation ++ (quoted path ++ 32 ∷ value)

-- the values of `JsonText` and the updates of `DiffText`
abbrev pub feed_form : Form
feed_form = record {
  uint = λ n. codes "u" ++ decimal n;
  IsDouble = λ bits x. x ≡ double_text bits;
  decimal = decimal_text;
  string = quoted;
  time = λ t. codes "t'" ++ (temporal_text t ++ codes "'");
  opaque = λ number bytes. codes "o" ++ (decimal number ++ (codes ":" ++ quoted bytes));
  key = quoted;
  update = update_text;
  before_updates = codes "diff[";
  after_updates = codes "]";
}
