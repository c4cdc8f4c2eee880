use Rattle.changes_commands.proofs.SchemaOptionLemmas.{split_is}
use Rattle.changes_commands.proofs.split.split_last.Goals as goal

pub returns : goal.returns
returns c = split_is c.args.at c.args.text.now c.rsplit_once.result c.rsplit_once.ensures.cases c.requires
