use Rattle.std.proofs.Common.{◌≡◌, ◌≤◌, ℕ, length, map}
use Rattle.rows_jsonb.specs.Items.{walk, items_at}
use Rattle.rows_jsonb.specs.JsonDiffs.{diff_at}
use Rattle.rows_jsonb.specs.JsonDiffViews.{diff_view}
use Rattle.rows_jsonb.proofs.ItemLemmas.{prepend_found}
use Rattle.rows_jsonb.proofs.diff.json_diffs.Given as goal

-- the diffs so far, and those of the rest, are all diffs
abbrev pub invariant-loop-rest : goal.invariant-loop-rest
invariant-loop-rest l = (n : ℕ) × (length l.rest ≤ n) × (prepend_found (map diff_view l.diffs.items) (walk diff_at n l.rest) ≡ items_at diff_at l.bytes)

abbrev pub decreases-loop-rest : goal.decreases-loop-rest
decreases-loop-rest l = length l.rest
