use Rattle.std.proofs.Common.{◌≡◌, ℕ, List, ◌++◌, length, take, drop, map, Err}
use Rattle.std.specs.List.{join_with_byte}
use Rattle.rows_errors.specs.declared.fault.RowsError.{RowsError}
use Rattle.rows_jsonb.specs.JsonDiffViews.{diff_view}
use Rattle.rows_jsonb.specs.JsonParsing.{Parses}
use Rattle.feed_text.specs.DiffText.{diff_texts}
use Rattle.feed_text.specs.DocumentForms.{AreUpdatesIn}
use Rattle.feed_text.specs.NamelessFaults.{HasNamelessDiff}
use Rattle.feed_text.proofs.DocumentLemmas.{led}
use Rattle.feed_text.proofs.diffs.append_diffs.Given as goal

-- the text so far and the remaining updates give the whole text; if a remaining update has no text, all of them have none; and the text before is unchanged
abbrev pub invariant-loop-diff : goal.invariant-loop-diff
invariant-loop-diff g l = record {
  written : (xs : List (List ℕ)) → AreUpdatesIn g.F.DocumentForm.form (map diff_view (drop l.diff-index l.diffs)) xs
      → (all : List (List ℕ)) × AreUpdatesIn g.F.DocumentForm.form (map diff_view l.diffs) all × (l.out.items ++ led l.separator xs ≡ (l.fn.out.items ++ g.F.DocumentForm.form.before_updates) ++ join_with_byte 44 all);
  failed : (e : RowsError) → Parses (λ (ts : List (List ℕ)). ts) (Err e) (diff_texts (map diff_view (drop l.diff-index l.diffs))) → Parses (λ (ts : List (List ℕ)). ts) (Err e) (diff_texts (map diff_view l.diffs));
  nameless : HasNamelessDiff (map diff_view (drop l.diff-index l.diffs)) → HasNamelessDiff (map diff_view l.diffs);
  kept : take (length l.fn.out.items) l.out.items ≡ l.fn.out.items;
}
