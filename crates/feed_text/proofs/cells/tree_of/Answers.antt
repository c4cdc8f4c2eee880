use Rattle.std.proofs.Common.{sym, inr}
use Rattle.std.proofs.lemmas.Result.{IfErr-weaker}
use Rattle.feed_text.proofs.CellLemmas.{no_document, nameless_bytes}
use Rattle.feed_text.proofs.cells.tree_of.Goals as goal

pub returns-in-Err-clause-tree : goal.returns-in-Err-clause-tree
returns-in-Err-clause-tree c = no_document c.args.bytes.now c.in-Err.fault (sym c.in-Err.ensures.value)

pub returns-in-Err-clause-nameless : goal.returns-in-Err-clause-nameless
returns-in-Err-clause-nameless c = nameless_bytes c.args.bytes.now c.in-Err.fault (sym c.in-Err.ensures.value)

pub returns-in-Ok-clause-nameless : goal.returns-in-Ok-clause-nameless
returns-in-Ok-clause-nameless c = IfErr-weaker c.parse.result _ _ (λ e p same. inr (_, sym c.in-Ok.ensures.value, p same)) c.parse.ensures.nameless
