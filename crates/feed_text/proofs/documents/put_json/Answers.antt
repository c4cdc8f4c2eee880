use Rattle.std.proofs.lemmas.Result.{on_ok_weaker}
use Rattle.rows_jsonb.specs.JsonTreeViews.{view}
use Rattle.feed_text.proofs.FeedDocumentLemmas.{document_appended}
use Rattle.feed_text.proofs.documents.put_json.Goals as goal

pub returns-clause-ok : goal.returns-clause-ok
returns-clause-ok g c = on_ok_weaker c.put_tree.result (λ e. document_appended (view c.args.document.now) _ _ e) c.put_tree.ensures.ok
