use Rattle.std.proofs.Common.{refl}
use Rattle.wire_buf.proofs.TransferLemmas.{written_more, written_kept, written_some}
use Rattle.wire_buf.proofs.writing.write_all.Goals as goal
use Rattle.wire_buf.proofs.writing.write_all.Goals.{in-Ok, in-Err+else-ne}

pub writes-preserved : goal.writes-preserved
writes-preserved g c =
    elim c.match-write.branch [
      | in-Ok w ↦ rw w.rest-is (written_more _ _ _ _ _ w.in-Ok.n c.writes.invariant w.in-Ok.ensures.bytes)
      | in-Err+else-ne w ↦ rw w.rest-is (written_kept _ _ _ _ _ c.writes.invariant w.in-Err.ensures.bytes)
    ]

pub returns-in-Ok-eq0-clause-err : goal.returns-in-Ok-eq0-clause-err
returns-in-Ok-eq0-clause-err g c =
    (refl, written_some _ _ _ _ (written_more _ _ _ _ _ c.in-Ok-eq0.field-0 c.writes.invariant c.in-Ok-eq0.ensures.bytes))

pub returns-then-ne-clause-err : goal.returns-then-ne-clause-err
returns-then-ne-clause-err g c = (refl, written_some _ _ _ _ (written_kept _ _ _ _ _ c.writes.invariant c.in-Err.ensures.bytes))

pub returns-clause-err : goal.returns-clause-err
returns-clause-err g c = (refl, written_some _ _ _ _ c.writes.invariant)
