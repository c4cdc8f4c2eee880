use Rattle.std.proofs.Common.{arith}
use Rattle.wire_fields_extra.proofs.OnesLemmas.{trailing_ones_tells}
use Rattle.wire_fields_extra.proofs.varlen_uint.trailing_ones.Goals as goal

pub returns : goal.returns
returns c = trailing_ones_tells _ _ (omega arith) c.trailing_ones.ensures
