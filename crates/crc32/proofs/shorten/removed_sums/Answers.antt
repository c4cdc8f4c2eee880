use Rattle.std.proofs.Common.{arith}
use Rattle.crc32.specs.Shortening.{added, number_at}
use Rattle.crc32.proofs.ShorteningLemmas.{lanes_prefix, lanes_xor}
use Rattle.crc32.proofs.shorten.removed_sums.Goals as goal

pub returns-clause-sums : goal.returns-clause-sums
unfolding added number_at
returns-clause-sums c =
    lanes_xor _ _ _ _
    (lanes_xor _ _ _ _
    (lanes_xor _ _ _ _
    (lanes_xor _ _ _ _
    (lanes_prefix _ c.args.taken.now (λ i. omega (arith, c.type_inv.taken i)) (omega arith))
    (lanes_prefix _ c.args.taken.now (λ i. omega (arith, c.type_inv.taken i)) (omega arith)))
    (lanes_prefix _ c.args.taken.now (λ i. omega (arith, c.type_inv.taken i)) (omega arith)))
    (lanes_prefix _ c.args.taken.now (λ i. omega (arith, c.type_inv.taken i)) (omega arith)))
    (lanes_prefix _ c.args.bytes.now (λ i. omega (arith, c.type_inv.bytes i)) (omega arith))
