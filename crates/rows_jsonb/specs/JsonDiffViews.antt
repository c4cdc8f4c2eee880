-- The contents of a JSON diff.
use Rattle.std.specs.Prelude.{option_map}
use Rattle.wire_fields.specs.RawTexts.{raw_string}
use Rattle.rows_jsonb.specs.JsonDiffs.{Diff}
use Rattle.rows_jsonb.specs.JsonbViews.{jsonb_value}
use Rattle.rows_jsonb.specs.declared.diff.JsonDiff.{JsonDiff}

-- its operation, path and value
abbrev pub diff_view : JsonDiff → Diff
diff_view d = (d.operation, (raw_string d.path, option_map jsonb_value d.value))
