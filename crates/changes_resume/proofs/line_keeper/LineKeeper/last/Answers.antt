use Rattle.std.proofs.Common.{◌∙◌}
use Rattle.changes_resume.proofs.KeptLineLemmas.{last_of}
use Rattle.changes_resume.proofs.line_keeper.LineKeeper.last.Goals as goal

pub returns : goal.returns
returns c = λ text h. let k = c.args.self.now in c.deref.ensures.value ∙ last_of k.complete_len k.len k.last.items k.line.items text h
