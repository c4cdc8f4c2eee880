use Rattle.std.proofs.Common.{sym}
use Rattle.std.proofs.lemmas.Result.{on_ok_weaker}
use Rattle.feed_transactions.proofs.TextLemmas.{statement_put}
use Rattle.feed_transactions.proofs.texts.put_statement.Goals as goal

pub returns : goal.returns
returns g c = record {
  ok =
      on_ok_weaker c.put.result
      (λ e. λ q has. statement_put q _ _ _ _ _ _ (sym has.schema) (sym has.query) c.in_ok-put_text.ensures.ok c.in_ok-put_two_quoted.ensures.ok e) c.put.ensures.ok;
}
