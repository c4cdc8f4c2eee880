use Rattle.wire_fields.proofs.VersionLemmas.{version_numbers}
use Rattle.mysql_wire.proofs.packet_laws.versions_are_their_numbers.Goals as goal

pub returns : goal.returns
returns c = version_numbers
