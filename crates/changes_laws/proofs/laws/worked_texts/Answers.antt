use Rattle.changes_laws.proofs.WorkedJsonLemmas as worked
use Rattle.changes_laws.proofs.laws.worked_texts.Goals as goal

pub returns-clause-text : goal.returns-clause-text
returns-clause-text c = worked.worked_text

pub returns-clause-escapes : goal.returns-clause-escapes
returns-clause-escapes c = worked.worked_escapes

pub returns-clause-leading_zero : goal.returns-clause-leading_zero
returns-clause-leading_zero c = worked.leading_zero

pub returns-clause-plus : goal.returns-clause-plus
returns-clause-plus c = worked.sign_first

pub returns-clause-line_feed : goal.returns-clause-line_feed
returns-clause-line_feed c = worked.line_feed

pub returns-clause-equal_names : goal.returns-clause-equal_names
returns-clause-equal_names c = worked.equal_names
