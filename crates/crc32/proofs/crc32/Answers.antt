use Rattle.std.proofs.Common.{ap, bit_xor}
use Rattle.crc32.specs.Checksums.{initial_register, crc32_of}
use Rattle.crc32.proofs.crc32.Goals as goal

pub returns : goal.returns
unfolding crc32_of
returns c = ap (λ x. bit_xor x initial_register) c.register_after_all.ensures
