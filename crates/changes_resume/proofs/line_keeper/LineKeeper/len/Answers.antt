use Rattle.changes_resume.proofs.KeptLineLemmas.{len_of}
use Rattle.changes_resume.proofs.line_keeper.LineKeeper.len.Goals as goal

pub returns : goal.returns
returns c = λ text h. let k = c.args.self.now in len_of k.complete_len k.len k.last.items k.line.items text h
