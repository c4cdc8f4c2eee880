use Rattle.std.proofs.lemmas.Result.{on_ok_weaker}
use Rattle.wire_fields_extra.proofs.EitherLemmas.{written_left, written_right}
use Rattle.wire_fields_extra.proofs.either.EitherMySerialize.serialize.Goals as goal

pub returns-in-Left-clause-ok : goal.returns-in-Left-clause-ok
returns-in-Left-clause-ok g c =
    let l = g.L.MySerialize in let r = g.R.MySerialize in
    rw c.in-Left.is (on_ok_weaker _ (written_left l.encoded r.encoded l.encoding r.encoding l.allows_rest r.allows_rest _ _ _) c.serialize.ensures.ok)

pub returns-in-Right-clause-ok : goal.returns-in-Right-clause-ok
returns-in-Right-clause-ok g c =
    let l = g.L.MySerialize in let r = g.R.MySerialize in
    rw c.in-Right.is (on_ok_weaker _ (written_right l.encoded r.encoded l.encoding r.encoding l.allows_rest r.allows_rest _ _ _) c.serialize-in-Right.ensures.ok)
