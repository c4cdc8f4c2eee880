use Rattle.std.proofs.Common.{rules}
use Rattle.cuvragyen.proofs.ExportLemmas.{through}
use Rattle.cuvragyen.proofs.logs.cuvragyen_stop.Goals as goal

pub returns-clause-stops : goal.returns-clause-stops
returns-clause-stops c = through _ _ _ _ _ c.stop_in-result.ensures.stops (search rules) (search rules)
