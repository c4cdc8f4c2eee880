use Rattle.std.proofs.Common.{◌<◌, length, arith, rules}
use Rattle.std.proofs.lemmas.Result.{on_ok_weaker}
use Rattle.feed_text.specs.Containers.{value_of}
use Rattle.feed_text.proofs.DirectLemmas.{document_written}
use Rattle.feed_text.proofs.direct.write_document.Goals as goal

pub returns : goal.returns
returns g c =
    let s = value_of c.in-Ok.document in
    let bytes = c.args.bytes.now in
    let some : 0 < length bytes = search rules in record {
      ok = on_ok_weaker c.write_value.result (λ w. document_written _ bytes c.split_at.result.0.now c.split_at.result.1.now s _ _ _ _ some c.split_at.ensures.front c.split_at.ensures.back c.in-Ok.ensures (omega arith) w) c.write_value.ensures.ok;
      kept = c.write_value.ensures.kept;
    }
