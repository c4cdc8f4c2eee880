use Rattle.std.proofs.Common.{refl}
use Rattle.changes_statements.proofs.StatementTextLemmas.{dropped}
use Rattle.changes_statements.proofs.text_list.TextList.drop_open.Goals as goal

pub returns : goal.returns
returns c = λ texts last h. dropped c.args.self.now _ texts last c.open_start-start.result (c.open_start-start.ensures texts last h) c.truncate.ensures refl h
