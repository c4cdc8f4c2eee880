use Rattle.mysql_wire.proofs.SplitLemmas.{has_split}
use Rattle.mysql_wire.proofs.packet_laws.streams_have_a_split.Goals as goal

pub returns : goal.returns
returns c = has_split
