use Rattle.std.proofs.Common.{arith}
use Rattle.changes_writers.proofs.SixBitLemmas.{sixes_are}
use Rattle.changes_writers.proofs.base64_text.sixes_of.Goals as goal

pub overflow_shr-lower : goal.overflow_shr-lower
overflow_shr-lower c = omega arith

pub returns : goal.returns
returns c = sixes_are c.args.v c.fits-v.0 c.fits-v.1
