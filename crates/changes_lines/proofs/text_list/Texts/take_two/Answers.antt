use Rattle.std.proofs.Common.{◌++◌}
use Rattle.changes_lines.proofs.TextListLemmas.{two_left}
use Rattle.changes_lines.proofs.text_list.Texts.take_two.Goals as goal

pub returns : goal.returns
returns c = λ first second more are. c.take.ensures (first ++ second) more (two_left c.args.self.now _ _ first second more are c.in-Some.ensures.cases.0)
