use Rattle.std.proofs.Common.{refl}
use Rattle.crc32.specs.Checksums.{after_bit, byte_bits, after_bytes, crc32_of}
use Rattle.crc32.proofs.laws.worked_checksums.Goals as goal

pub returns-clause-nothing : goal.returns-clause-nothing
unfolding after_bit byte_bits after_bytes crc32_of
returns-clause-nothing c = refl

pub returns-clause-digits : goal.returns-clause-digits
unfolding after_bit byte_bits after_bytes crc32_of
returns-clause-digits c = refl
