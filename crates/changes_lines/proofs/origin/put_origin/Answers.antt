use Rattle.std.specs.Prelude.{codes}
use Rattle.std.specs.Fmt.{decimal}
use Rattle.std.proofs.Common.{◌++◌}
use Rattle.std.proofs.lemmas.Result.{on_ok_weaker}
use Rattle.feed_text.specs.Buffers.{text_in}
use Rattle.changes_tables.specs.MemberTexts.{utf8_json}
use Rattle.changes_origins.proofs.AppendLemmas.{appended_both}
use Rattle.changes_lines.proofs.origin.put_origin.Goals as goal

pub returns : goal.returns
returns g c =
    let g = c.in_ok-put_gtid.ensures in
    let gtid = g.gtid in
    let file = utf8_json c.args.file.now in
    let position = decimal c.args.position in
    let two = codes ",\"file\":" in
    let three = codes ",\"position\":" in
    let t1 = text_in c.put_text.new.self in
    let t2 = text_in c.put_gtid.new.text in
    let t3 = text_in c.put_text-2.new.self in
    let t4 = text_in c.put_utf8.new.text in
    let t5 = text_in c.put_text-3.new.self in
    let t6 = text_in c.put_number.new.self in
    on_ok_weaker c.put_number.result (λ e. record {
      gtid = gtid;
      is = g.is;
      appended = appended_both (text_in c.args.text.now) t1 t6 (codes ",\"gtid\":") (gtid ++ (two ++ (file ++ (three ++ position)))) c.in_ok-put_text.ensures.ok
          (appended_both t1 t2 t6 gtid (two ++ (file ++ (three ++ position))) g.appended
          (appended_both t2 t3 t6 two (file ++ (three ++ position)) c.in_ok-put_text-2.ensures.ok
          (appended_both t3 t4 t6 file (three ++ position) c.in_ok-put_utf8.ensures.ok
          (appended_both t4 t5 t6 three position c.in_ok-put_text-3.ensures.ok (rw c.from.ensures at e)))));
    }) c.put_number.ensures.ok
