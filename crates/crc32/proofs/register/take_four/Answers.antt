use Rattle.std.proofs.Common.{arith}
use Rattle.crc32.proofs.MessageLemmas.{four_last}
use Rattle.crc32.proofs.register.take_four.Goals as goal

pub returns-clause-same : goal.returns-clause-same
returns-clause-same c =
    four_last
    c.args.bytes.now c.args.register c.read_u32-word.result _
    (omega arith) (λ i. omega (arith, c.type_inv.bytes i))
    c.read_u32-word.ensures c.register_after_zeros.ensures
