use Rattle.std.proofs.Common.{arith}
use Rattle.std.proofs.lemmas.Bool.{eqb-true}
use Rattle.changes_writers.specs.PlainText.{is_plain}
use Rattle.changes_writers.proofs.PlainLemmas.{plain_masked, all_pass}
use Rattle.changes_writers.proofs.plain.are_eight_plain.Goals as goal

pub returns : goal.returns
returns c = λ none. all_pass is_plain c.args.v _ (plain_masked c.args.v 8 c.fits-v (omega arith)) (eqb-true _ 0 none)
