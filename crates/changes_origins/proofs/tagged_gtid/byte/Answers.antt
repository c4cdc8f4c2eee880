use Rattle.changes_origins.proofs.TaggedLemmas.{none_then, Lacks-byte, Lacks-byte_large, Reads-byte}
use Rattle.std.proofs.Common.{arith}
use Rattle.changes_origins.proofs.tagged_gtid.byte.Goals as goal

pub returns-in_err-value-clause-none : goal.returns-in_err-value-clause-none
returns-in_err-value-clause-none c = none_then c.from_residual.result (Lacks-byte _ c.in_err-value.ensures.none)

pub returns-then-value-gt255-clause-none : goal.returns-then-value-gt255-clause-none
returns-then-value-gt255-clause-none c = Lacks-byte_large _ _ _ c.in_ok-value.ensures.some c.if-value-gt255.true

pub returns-clause-some : goal.returns-clause-some
returns-clause-some c = Reads-byte _ _ _ (omega arith) c.in_ok-value.ensures.some
