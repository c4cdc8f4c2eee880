use Rattle.std.proofs.lemmas.Option.{IfSome_then}
use Rattle.changes_origins.specs.TaggedGtids.{IsInteger}
use Rattle.changes_origins.proofs.TaggedLemmas.{none_then, IfNone_then, Lacks-field_number, Lacks-field_other, Lacks-field_content, Reads-field}
use Rattle.changes_origins.proofs.tagged_gtid.integer_field.Goals as goal

pub returns-in_err-integer-clause-none : goal.returns-in_err-integer-clause-none
returns-in_err-integer-clause-none c = none_then c.from_residual.result (Lacks-field_number c.args.number IsInteger _ c.in_err-integer.ensures.none)

pub returns-then-branch-number-clause-none : goal.returns-then-branch-number-clause-none
returns-then-branch-number-clause-none c = Lacks-field_other c.args.number IsInteger _ _ _ c.in_ok-integer.ensures.some c.if-branch-number.true

pub returns-clause-some : goal.returns-clause-some
returns-clause-some c = IfSome_then c.integer-2.result c.integer-2.ensures.some (λ v p. Reads-field c.args.number IsInteger _ v _ _ _ c.if-branch-number.false c.in_ok-integer.ensures.some p)

pub returns-clause-none : goal.returns-clause-none
returns-clause-none c = IfNone_then c.integer-2.result c.integer-2.ensures.none (λ p. Lacks-field_content c.args.number IsInteger _ _ _ c.if-branch-number.false c.in_ok-integer.ensures.some p)
