use Rattle.std.proofs.lemmas.Result.{on_ok_weaker}
use Rattle.feed_transactions.proofs.TextLemmas.{anonymous_put, numbered_put, tagged_put}
use Rattle.feed_transactions.proofs.texts.put_gtid.Goals as goal

pub returns-in-Anonymous : goal.returns-in-Anonymous
returns-in-Anonymous g c = record { ok = on_ok_weaker c.put.result (λ e. anonymous_put c.args.gtid.now _ _ c.in-Anonymous.is e) c.put.ensures.ok }

pub returns-in_ok-put-in-Numbered : goal.returns-in_ok-put-in-Numbered
returns-in_ok-put-in-Numbered g c = record {
  ok = on_ok_weaker c.put_number.result (λ e. numbered_put c.args.gtid.now c.in-Numbered.uuid c.in-Numbered.number _ _ _ _ c.in-Numbered.is c.in_ok-put_uuid-in-Numbered.ensures.ok c.in_ok-put-in-Numbered.ensures.ok e) c.put_number.ensures.ok;
}

pub returns-in_ok-put_text-in-Tagged : goal.returns-in_ok-put_text-in-Tagged
returns-in_ok-put_text-in-Tagged g c = record {
  ok = on_ok_weaker c.put_quoted.result (λ e. tagged_put c.args.gtid.now c.in-Tagged.body _ _ _ c.in-Tagged.is c.in_ok-put_text-in-Tagged.ensures.ok e) c.put_quoted.ensures.ok;
}
