use Rattle.wire_fields.proofs.FieldLemmas.{skipped}
use Rattle.wire_fields.proofs.skip.SkipMyDeserialize.deserialize.Goals as goal

pub returns-clause-ok : goal.returns-clause-ok
returns-clause-ok g c = skipped g.row.LEN _ _ c.requires c.skip.ensures
