use Rattle.program_feed.proofs.CommandLemmas.{bytes_interrupted}
use Rattle.program_feed.proofs.requesting.put.Goals as goal

pub returns-in-Err : goal.returns-in-Err
returns-in-Err g c = bytes_interrupted _ _ _ _ _ c.in-Err.ensures.fault
