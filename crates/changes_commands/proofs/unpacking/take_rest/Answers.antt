use Rattle.wire_buf.specs.Watched.{has_failed}
use Rattle.changes_commands.proofs.unpacking.take_rest.Goals as goal

pub returns-in-Err-clause-err : goal.returns-in-Err-clause-err
returns-in-Err-clause-err g c = λ file. c.fault_of.ensures (has_failed c.gather.new.reader) file c.in-Err.ensures.err.cause
