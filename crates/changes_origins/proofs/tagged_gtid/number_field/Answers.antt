use Rattle.std.proofs.Common.{arith}
use Rattle.changes_origins.proofs.TaggedLemmas.{none_then, Lacks-number, Lacks-number_odd, Reads-number}
use Rattle.changes_origins.proofs.tagged_gtid.number_field.Goals as goal

pub returns-in_err-number-clause-none : goal.returns-in_err-number-clause-none
returns-in_err-number-clause-none c = none_then c.from_residual.result (Lacks-number _ c.in_err-number.ensures.none)

pub returns-then-number-ne0-clause-none : goal.returns-then-number-ne0-clause-none
returns-then-number-ne0-clause-none c = Lacks-number_odd _ _ _ c.in_ok-number.ensures.some c.if-number-ne0.true

pub returns-clause-some : goal.returns-clause-some
returns-clause-some c = let even = c.if-number-ne0.false in Reads-number c.in_ok-number.number _ _ _ (omega (arith, even)) c.in_ok-number.ensures.some
