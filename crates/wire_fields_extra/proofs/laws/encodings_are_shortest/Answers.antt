use Rattle.wire_buf.proofs.LenencLemmas.{lenenc_least}
use Rattle.wire_fields.proofs.SevenLemmas.{varlen_least}
use Rattle.wire_fields_extra.proofs.OnesLemmas.{varlen_uint_least}
use Rattle.wire_fields_extra.proofs.laws.encodings_are_shortest.Goals as goal

pub returns-clause-length_encoded : goal.returns-clause-length_encoded
returns-clause-length_encoded c = lenenc_least

pub returns-clause-seven_bits : goal.returns-clause-seven_bits
returns-clause-seven_bits c = varlen_least

pub returns-clause-trailing_ones : goal.returns-clause-trailing_ones
returns-clause-trailing_ones c = varlen_uint_least
