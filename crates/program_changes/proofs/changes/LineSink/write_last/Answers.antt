use Rattle.std.proofs.Common.{refl}
use Rattle.std.specs.Prelude.{Ok, Err}
use Rattle.program_changes.proofs.FollowedLineLemmas.{last_written}
use Rattle.program_changes.proofs.changes.LineSink.write_last.Goals as goal

pub returns-in-Ok : goal.returns-in-Ok
returns-in-Ok g c = last_written g.W.Write.contents c.args.self.now _ c.args.line.now c.write_all.result _ _ c.in-Ok.ensures.ok c.write_all.ensures.ok c.write_all.ensures.none c.write_all.ensures.fault refl refl refl refl

pub returns-in-Err : goal.returns-in-Err
returns-in-Err g c = record { written = c.in-Err.ensures.fault.1; failed = c.in-Err.ensures.fault.2 }
