use Rattle.changes_laws.proofs.LineLawLemmas.{tagged_law}
use Rattle.changes_laws.proofs.TaggedReadLemmas.{logged_law}
use Rattle.changes_laws.proofs.laws.lines_are_json.Goals as goal

pub returns-clause-lines : goal.returns-clause-lines
returns-clause-lines c = logged_law

pub returns-clause-tagged : goal.returns-clause-tagged
returns-clause-tagged c = tagged_law
