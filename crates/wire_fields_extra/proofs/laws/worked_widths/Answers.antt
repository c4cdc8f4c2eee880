use Rattle.wire_fields.specs.Bits.{map_if}
use Rattle.wire_fields_extra.proofs.laws.worked_widths.Goals as goal

pub returns-clause-lowest_first : goal.returns-clause-lowest_first
returns-clause-lowest_first c v = map_if _ _ _

pub returns-clause-highest_first : goal.returns-clause-highest_first
returns-clause-highest_first c v = map_if _ _ _

pub returns-clause-signed : goal.returns-clause-signed
returns-clause-signed c z = map_if _ _ _
