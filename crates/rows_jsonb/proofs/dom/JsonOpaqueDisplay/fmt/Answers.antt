use Rattle.rows_jsonb.proofs.dom.JsonOpaqueDisplay.fmt.Goals as goal

pub returns-clause-writes : goal.returns-clause-writes
returns-clause-writes g c = λ plain ok.
    let n = c.from-number.ensures in
    let e = c.new-bytes.ensures in
    let d = c.deref.ensures.value in
    let h = rw (n, e, d) at (c.write.ensures.writes plain ok) in
    h
