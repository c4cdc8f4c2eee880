use Rattle.std.proofs.Common.{◌≡◌, ◌≤◌, ℕ, length}
use Rattle.rows_jsonb.specs.Items.{walk, items_at}
use Rattle.rows_jsonb.specs.JsonDiffs.{diff_at}
use Rattle.rows_jsonb.proofs.diff.check_json_diffs.Given as goal

-- the error of the rest is that of all
abbrev pub invariant-loop-rest : goal.invariant-loop-rest
invariant-loop-rest l = (n : ℕ) × (length l.rest ≤ n) × ((walk diff_at n l.rest).fault ≡ (items_at diff_at l.bytes).fault)

abbrev pub decreases-loop-rest : goal.decreases-loop-rest
decreases-loop-rest l = length l.rest
