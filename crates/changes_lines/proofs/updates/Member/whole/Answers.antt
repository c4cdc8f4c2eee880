use Rattle.changes_lines.proofs.UpdateLemmas.{whole_is}
use Rattle.changes_lines.proofs.updates.Member.whole.Goals as goal

pub returns : goal.returns
returns c = λ table x h. whole_is table c.args.text.now c.args.self x c.get.result _ c.unwrap_or.result h c.get.ensures.lookup c.unwrap_or.ensures
