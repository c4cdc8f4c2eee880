use Rattle.std.proofs.Common.{refl, arith}
use Rattle.wire_buf.specs.Numbers.{lenenc_encoded, two}
use Rattle.wire_fields.specs.Sevens.{sevens_encoded, last, more}
use Rattle.wire_fields_extra.specs.TrailingOnes.{varlen_uint_len, varlen_uint_encoded}
use Rattle.wire_fields_extra.proofs.laws.worked_numbers.Goals as goal

pub returns-clause-three_bytes : goal.returns-clause-three_bytes
unfolding lenenc_encoded
returns-clause-three_bytes c = refl

pub returns-clause-longer : goal.returns-clause-longer
returns-clause-longer c = two (record { size = refl; value_is = refl })

pub returns-clause-seven_bits : goal.returns-clause-seven_bits
unfolding sevens_encoded
returns-clause-seven_bits c = refl

pub returns-clause-greatest : goal.returns-clause-greatest
returns-clause-greatest c = record {
  sevens = more (omega arith) (more (omega arith) (more (omega arith) (more (omega arith) (last (omega arith)))));
  fits = omega arith;
}

pub returns-clause-one_byte : goal.returns-clause-one_byte
unfolding varlen_uint_encoded varlen_uint_len
returns-clause-one_byte c = refl

pub returns-clause-two_bytes : goal.returns-clause-two_bytes
unfolding varlen_uint_encoded varlen_uint_len
returns-clause-two_bytes c = refl
