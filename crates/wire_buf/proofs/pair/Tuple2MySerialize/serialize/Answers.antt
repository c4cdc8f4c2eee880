use Rattle.wire_buf.proofs.WritingLemmas.{pair_ok}
use Rattle.wire_buf.proofs.pair.Tuple2MySerialize.serialize.Goals as goal

pub returns-clause-ok : goal.returns-clause-ok
returns-clause-ok g c =
    let a = g.A.MySerialize in let b = g.B.MySerialize in
    pair_ok a.encoding b.encoding a.encoded b.encoded a.allows_rest b.allows_rest _ _ _ _ _ _ g.met.A.Inner.before_any _ _
    c.truncate_on_error.ensures.answer c.truncate_on_error.ensures.ok c.in_ok-serialize.ensures.ok c.serialize-written.ensures.ok
