use Rattle.events_owned.proofs.FileLemmas.{few_items}
use Rattle.events_owned.proofs.laws.files_give_few_items.Goals as goal

pub returns : goal.returns
returns c = few_items
