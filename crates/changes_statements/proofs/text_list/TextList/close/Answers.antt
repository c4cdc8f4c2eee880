use Rattle.std.proofs.Common.{[], ◌∷◌, ◌++◌, refl, ap, ◌∙◌}
use Rattle.changes_statements.proofs.StatementTextLemmas.{closed}
use Rattle.changes_statements.proofs.text_list.TextList.close.Goals as goal

pub returns : goal.returns
returns c = λ texts last h. closed c.args.self.now _ texts last refl (c.in_ok-push.ensures.items ∙ ap (λ n. c.args.self.now.ends.items ++ n ∷ []) c.len.ensures) h
