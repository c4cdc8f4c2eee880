use Rattle.std.proofs.Common.{map}
use Rattle.std.proofs.lemmas.Result.{on_ok_weaker}
use Rattle.rows_jsonb.specs.JsonDiffViews.{diff_view}
use Rattle.feed_text.proofs.FeedDiffLemmas.{updates_appended}
use Rattle.feed_text.proofs.diffs.append_feed_diffs.Goals as goal

pub returns-clause-ok : goal.returns-clause-ok
returns-clause-ok g c = on_ok_weaker c.append_diffs.result (λ e. updates_appended (map diff_view c.args.diffs.now) _ _ e) c.append_diffs.ensures.ok
