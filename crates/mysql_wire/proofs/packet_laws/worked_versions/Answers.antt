use Rattle.std.proofs.Common.{refl}
use Rattle.wire_fields.specs.Version.{numbers_at, number_at, after_point}
use Rattle.mysql_wire.proofs.packet_laws.worked_versions.Goals as goal

pub returns-clause-version : goal.returns-clause-version
unfolding numbers_at number_at after_point
returns-clause-version c = refl

pub returns-clause-number_past_a_byte : goal.returns-clause-number_past_a_byte
unfolding numbers_at number_at after_point
returns-clause-number_past_a_byte c = refl
