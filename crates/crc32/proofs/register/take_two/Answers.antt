use Rattle.std.proofs.Common.{arith, bit_xor, ap, ◌∙◌}
use Rattle.crc32.proofs.MessageLemmas.{two_last}
use Rattle.crc32.proofs.TableLemmas.{two_passed}
use Rattle.crc32.proofs.register.take_two.Goals as goal

pub returns-clause-same : goal.returns-clause-same
returns-clause-same c =
    two_last
    c.args.bytes.now c.args.register (bit_xor c.from.result c.args.register) _
    (omega arith) (λ i. omega (arith, c.type_inv.bytes i))
    (ap (λ n. bit_xor n c.args.register) (c.from.ensures ∙ c.read_u16.ensures)) (two_passed (bit_xor c.from.result c.args.register))
