use Rattle.std.proofs.Common.{rules}
use Rattle.cuvragyen.proofs.ExportLemmas.{through}
use Rattle.cuvragyen.proofs.logs.cuvragyen_next.Goals as goal

pub returns-clause-next : goal.returns-clause-next
returns-clause-next c = through _ _ _ _ _ c.advance_in-result.ensures.next (search rules) (search rules)
