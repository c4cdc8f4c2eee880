use Rattle.std.proofs.Common.{◌≡◌, ◌++◌, map}
use Rattle.std.specs.Vec.Iter.{into_iter_items}
use Rattle.rows_jsonb.specs.JsonDiffViews.{diff_view}
use Rattle.rows_cells.proofs.conversions.owned_diffs.Given as goal

-- the diffs so far, and the remaining ones, are all diffs
abbrev pub invariant-loop-diff : goal.invariant-loop-diff
invariant-loop-diff l = map diff_view l.owned.items ++ map diff_view (into_iter_items l.diff-iterator) ≡ map diff_view l.fn.diffs.items
