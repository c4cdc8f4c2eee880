use Rattle.std.proofs.Common.{inl, refl}
use Rattle.rows_event_body.proofs.rows.Source.images.Goals as goal

pub returns-in-Err-clause-err : goal.returns-in-Err-clause-err
returns-in-Err-clause-err c = inl refl

pub returns-in-Plan-clause-ok : goal.returns-in-Plan-clause-ok
returns-in-Plan-clause-ok c = rw c.in-Plan.is c.new.ensures.ok

pub returns-in-Plan-clause-err : goal.returns-in-Plan-clause-err
returns-in-Plan-clause-err c = rw c.in-Plan.is c.new.ensures.err
