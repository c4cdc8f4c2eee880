-- Values keep their contents when they are made owned.
use Rattle.std.proofs.Common.{◌≡◌, List, map, Ok, sym, ap, ◌∙◌}
use Rattle.rows_jsonb.specs.JsonbValues.{JsonbValue}
use Rattle.rows_jsonb.specs.JsonbViews.{jsonb_value}
use Rattle.rows_jsonb.specs.Items.{all_found}
use Rattle.rows_jsonb.specs.JsonDiffs.{Diff}
use Rattle.rows_jsonb.specs.JsonDiffViews.{diff_view}
use Rattle.rows_cells.specs.declared.binlog_value.BinlogValue.{BinlogValue}
use Rattle.rows_cells.specs.declared.binlog_value.BinlogValue.TheVariants as made
use Rattle.rows_cells.specs.CellValues.{CellValue, json, json_diffs}
use Rattle.rows_cells.specs.CellViews.{cell_value_of, Holds}
use Rattle.rows_cells.specs.BinlogValues.{kept_view}

pub same_held : (v : CellValue) (a b : BinlogValue) → kept_view b ≡ kept_view a → Holds v a → Holds v b
same_held v (made.Value w) (made.Value x) e h = let s : cell_value_of x ≡ cell_value_of w = cc e in h ∙ sym s
same_held v (made.Value w) (made.Jsonb x) e h = absurd (cc e)
same_held v (made.Value w) (made.JsonDiff x) e h = absurd (cc e)
same_held (json b) (made.Jsonb d) (made.Jsonb x) e h = let s : jsonb_value x ≡ jsonb_value d = cc e in h ∙ ap (λ (j : JsonbValue). Ok j) (sym s)
same_held v (made.Jsonb d) (made.Value x) e h = absurd (cc e)
same_held v (made.Jsonb d) (made.JsonDiff x) e h = absurd (cc e)
same_held (json_diffs b) (made.JsonDiff ds) (made.JsonDiff x) e h = let s : map diff_view x.items ≡ map diff_view ds.items = cc e in h ∙ ap (λ (l : List Diff). all_found l) (sym s)
same_held v (made.JsonDiff ds) (made.Value x) e h = absurd (cc e)
same_held v (made.JsonDiff ds) (made.Jsonb x) e h = absurd (cc e)
same_held v a b e h = absurd h
