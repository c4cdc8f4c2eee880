use Rattle.std.proofs.Common.{rules, arith, ◌≡◌, length}
use Rattle.std.proofs.lemmas.Result.{on_ok_weaker}
use Rattle.feed_text.proofs.UuidLemmas.{uuid_put}
use Rattle.feed_text.proofs.uuids.put_uuid.Goals as goal

pub returns : goal.returns
returns g c =
    let sixteen : length c.args.uuid.now ≡ 16 = search (arith, rules) in
    record {
      ok = on_ok_weaker c.put_group-4.result (λ e. uuid_put c.args.uuid.now _ _ _ _ _ _ sixteen c.in_ok-put_hexadecimal.ensures.ok c.in_ok-put_group.ensures.ok c.in_ok-put_group-2.ensures.ok c.in_ok-put_group-3.ensures.ok e) c.put_group-4.ensures.ok;
    }
