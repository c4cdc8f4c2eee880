use Rattle.std.specs.Fmt.{decimal}
use Rattle.std.proofs.Common.{rules, ◌≡◌, ◌++◌, ◌∷◌, [], None, Some}
use Rattle.std.proofs.lemmas.Result.{on_ok_weaker}
use Rattle.feed_text.specs.Buffers.{text_in}
use Rattle.feed_text.specs.Uuids.{uuid_text}
use Rattle.changes_origins.specs.MariadbGtids.{mariadb_gtid}
use Rattle.changes_origins.proofs.AppendLemmas.{appended_both}
use Rattle.changes_origins.proofs.GtidLemmas.{tagged_appended}
use Rattle.changes_origins.proofs.gtids.put_tagged.Goals as goal

pub returns : goal.returns
returns g c =
    let none : None ≡ mariadb_gtid c.args.body.now = search rules in
    let uuid = uuid_text c.in-Some-read.gtid.uuid in
    let tag = c.in-Some-read.gtid.tag.now in
    let number = decimal c.in-Some-read.gtid.number in
    let t1 = text_in c.put.new.self in
    let t2 = text_in c.put_uuid.new.text in
    let t3 = text_in c.put-2.new.self in
    let t4 = text_in c.put_text.new.self in
    let t5 = text_in c.put-3.new.self in
    let t6 = text_in c.put_number.new.self in
    let t7 = text_in c.put-4.new.self in
    on_ok_weaker c.put-4.result (λ e.
    tagged_appended c.args.body.now (text_in c.args.text.now) t7 (Some (record { uuid = c.in-Some-read.gtid.uuid; tag = tag; number = c.in-Some-read.gtid.number })) none c.in-Some-read.ensures
    (appended_both (text_in c.args.text.now) t1 t7 (34 ∷ []) (uuid ++ 58 ∷ (tag ++ 58 ∷ (number ++ 34 ∷ []))) c.in_ok-put.ensures.ok
    (appended_both t1 t2 t7 uuid (58 ∷ (tag ++ 58 ∷ (number ++ 34 ∷ []))) c.in_ok-put_uuid.ensures.ok
    (appended_both t2 t3 t7 (58 ∷ []) (tag ++ 58 ∷ (number ++ 34 ∷ [])) c.in_ok-put-2.ensures.ok
    (appended_both t3 t4 t7 tag (58 ∷ (number ++ 34 ∷ [])) c.in_ok-put_text.ensures.ok
    (appended_both t4 t5 t7 (58 ∷ []) (number ++ 34 ∷ []) c.in_ok-put-3.ensures.ok
    (appended_both t5 t6 t7 number (34 ∷ []) c.in_ok-put_number.ensures.ok e))))))) c.put-4.ensures.ok
