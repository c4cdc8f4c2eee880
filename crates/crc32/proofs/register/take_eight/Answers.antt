use Rattle.std.proofs.Common.{arith}
use Rattle.crc32.proofs.MessageLemmas.{eight_last}
use Rattle.crc32.proofs.register.take_eight.Goals as goal

pub returns-clause-same : goal.returns-clause-same
returns-clause-same c =
    eight_last
    c.args.bytes.now c.args.register c.read_u32-first.result c.read_u32-second.result _ _
    (omega arith) (λ i. omega (arith, c.type_inv.bytes i))
    c.read_u32-first.ensures c.read_u32-second.ensures c.register_after_zeros-later.ensures c.register_after_zeros.ensures
