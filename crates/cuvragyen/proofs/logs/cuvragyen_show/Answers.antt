use Rattle.std.proofs.Common.{rules}
use Rattle.cuvragyen.proofs.ExportLemmas.{through}
use Rattle.cuvragyen.proofs.logs.cuvragyen_show.Goals as goal

pub returns-clause-shows : goal.returns-clause-shows
returns-clause-shows c = through _ _ _ _ _ c.show_of-result.ensures.shows (search rules) (search rules)
