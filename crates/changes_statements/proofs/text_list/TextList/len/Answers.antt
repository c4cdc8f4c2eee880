use Rattle.std.proofs.Common.{length, ap, arith}
use Rattle.changes_statements.proofs.StatementTextLemmas.{ends_long}
use Rattle.changes_statements.proofs.text_list.TextList.len.Goals as goal

pub returns : goal.returns
returns c = λ texts last h. let same = ap length h.ends in let long = ends_long 0 texts in omega (arith, c.len.ensures, c.args.self.now.ends.ok.0, same, long)
