use Rattle.changes_laws.proofs.ValueLemmas.{document_value, updates_value}
use Rattle.changes_laws.proofs.laws.documents_are_json.Goals as goal

pub returns-clause-documents : goal.returns-clause-documents
returns-clause-documents c = document_value

pub returns-clause-updates : goal.returns-clause-updates
returns-clause-updates c = updates_value
