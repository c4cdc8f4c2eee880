use Rattle.crc32.proofs.DivisionLemmas.{remainder_is_register}
use Rattle.crc32.proofs.laws.registers_are_remainders.Goals as goal

pub returns : goal.returns
returns c = remainder_is_register
