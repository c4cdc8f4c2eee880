use Rattle.events_owned.proofs.FileLemmas.{no_event_after, no_fault_after, no_event_after_fault, one_fault}
use Rattle.events_owned.proofs.laws.files_end_once.Goals as goal

pub returns-clause-end : goal.returns-clause-end
returns-clause-end c = no_event_after

pub returns-clause-end_without_fault : goal.returns-clause-end_without_fault
returns-clause-end_without_fault c = no_fault_after

pub returns-clause-fault : goal.returns-clause-fault
returns-clause-fault c = no_event_after_fault

pub returns-clause-one_fault : goal.returns-clause-one_fault
returns-clause-one_fault c = one_fault
