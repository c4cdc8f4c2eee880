-- The faults of JSON documents that have no name: what a cell must have so that its text is the error `Jsonb(None)`.
use Rattle.std.specs.Prelude.{◌≡◌, ◌⊎◌, ℕ, List, [], ◌∷◌, Option, Some, None, map}
use Rattle.std.specs.declared.result.Result.TheVariants.{Ok, Err}
use Rattle.rows_jsonb.specs.JsonbValues.{JsonbValue, malformed, document}
use Rattle.rows_jsonb.specs.JsonbViews.{jsonb_value}
use Rattle.rows_jsonb.specs.JsonParsing.{HasNamelessFault}
use Rattle.rows_jsonb.specs.Items.{items_at}
use Rattle.rows_jsonb.specs.JsonDiffs.{Diff, diff_at}
use Rattle.rows_jsonb.specs.JsonDiffViews.{diff_view}
use Rattle.rows_cells.specs.CellValues.{CellValue, json, json_diffs}
use Rattle.rows_cells.specs.declared.binlog_value.BinlogValue.{BinlogValue}
use Rattle.rows_cells.specs.declared.binlog_value.BinlogValue.TheVariants as made
use Rattle.feed_text.specs.DiffText.{diff_text}

-- the bytes are no document, or the document has such a fault
abbrev pub IsNamelessDocument : List ℕ → Type 0
IsNamelessDocument b = (document b ≡ Err malformed) ⊎ ((v : JsonbValue) × (document b ≡ Ok v) × HasNamelessFault v)

-- the new value of an update has such a fault
abbrev pub HasNamelessValue : Option JsonbValue → Type 0
HasNamelessValue None = ⊥
HasNamelessValue (Some v) = HasNamelessFault v

-- the first update without a text has such a new value
unfoldable pub HasNamelessDiff : List Diff → Type 0
HasNamelessDiff [] = ⊥
HasNamelessDiff (d ∷ ds) = HasNamelessValue d.1.1 ⊎ ((t : List ℕ) × (diff_text d ≡ Ok t) × HasNamelessDiff ds)

-- of a cell's document; or the bytes are no updates, or one of them has such a value
abbrev pub HasNamelessContent : CellValue → Type 0
HasNamelessContent (json b) = IsNamelessDocument b
HasNamelessContent (json_diffs b) =
    ((items_at diff_at b).fault ≡ Some malformed) ⊎ (((items_at diff_at b).fault ≡ None) × HasNamelessDiff (items_at diff_at b).items)
HasNamelessContent v = ⊥

-- the same of a value that was read
abbrev pub HasNamelessPart : BinlogValue → Type 0
HasNamelessPart (made.Jsonb d) = HasNamelessFault (jsonb_value d)
HasNamelessPart (made.JsonDiff ds) = HasNamelessDiff (map diff_view ds.items)
HasNamelessPart (made.Value v) = ⊥
