use Rattle.wire_buf.specs.Watched.{inner_of, has_failed}
use Rattle.changes_commands.proofs.UnpackingLemmas.{begins}
use Rattle.changes_commands.proofs.unpacking.take_first.Goals as goal

pub returns-in-Ok-clause-ok : goal.returns-in-Ok-clause-ok
returns-in-Ok-clause-ok g c = λ file is.
    begins file c.args.bytes.now.items c.gather.new.out.items (g.R.Read.remaining (inner_of c.args.reader.now)) (g.R.Read.remaining (inner_of c.gather.new.reader)) is c.requires c.in-Ok.ensures.ok

pub returns-in-Err-clause-err : goal.returns-in-Err-clause-err
returns-in-Err-clause-err g c = λ file. c.fault_of.ensures (has_failed c.gather.new.reader) file c.in-Err.ensures.err.cause
