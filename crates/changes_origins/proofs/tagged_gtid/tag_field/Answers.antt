use Rattle.std.proofs.Common.{rules, sym, ◌∙◌}
use Rattle.std.proofs.lemmas.Bool.{false≢true}
use Rattle.changes_origins.proofs.TaggedLemmas.{none_then, Lacks-tag_number, Lacks-tag_short, Lacks-tag_other, Reads-tag}
use Rattle.changes_origins.proofs.tagged_gtid.tag_field.Goals as goal

pub returns-in_err-len-clause-none : goal.returns-in_err-len-clause-none
returns-in_err-len-clause-none c = none_then c.from_residual.result (Lacks-tag_number _ c.in_err-len.ensures.none)

pub returns-in_err-tag-clause-none : goal.returns-in_err-tag-clause-none
returns-in_err-tag-clause-none c = none_then c.from_residual-in_err-tag.result (Lacks-tag_short _ _ _ c.in_ok-len.ensures.some c.in_err-tag.ensures.none.missing)

pub returns-then-not-are_of_tag-clause-none : goal.returns-then-not-are_of_tag-clause-none
returns-then-not-are_of_tag-clause-none c =
    let eaten = c.in_ok-tag.ensures.some in
    Lacks-tag_other _ _ _ _ c.in_ok-len.ensures.some eaten.value_is (λ h. false≢true (sym c.if-not-are_of_tag.true ∙ c.are_of_tag.ensures ∙ h))

pub returns-clause-some : goal.returns-clause-some
returns-clause-some c =
    let eaten = c.in_ok-tag.ensures.some in
    Reads-tag _ _ _ _ _ c.in_ok-len.ensures.some eaten.room eaten.value_is eaten.rest (search rules)
