use Rattle.std.proofs.Common.{rules}
use Rattle.cuvragyen.proofs.ExportLemmas.{through}
use Rattle.cuvragyen.proofs.logs.cuvragyen_push.Goals as goal

pub returns-clause-keeps : goal.returns-clause-keeps
returns-clause-keeps c = through _ _ _ _ _ c.push_to-result.ensures.keeps (search rules) (search rules)
