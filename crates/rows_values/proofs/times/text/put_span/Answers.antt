use Rattle.std.proofs.Common.{rules, append_assoc, ◌∙◌}
use Rattle.std.proofs.Output.{has_written_styled_append, has_written_styled_of_eq}
use Rattle.rows_values.specs.TimeTexts.{span_text}
use Rattle.rows_values.proofs.times.text.put_span.Goals as goal

pub returns : goal.returns
unfolding span_text
returns g c = λ flush done.
    let a = c.put_if.ensures flush (search rules) in
    let b = c.put_at_least_two.ensures a.flush (search rules) in
    let d = c.put_after_hour.ensures b.flush done in
    let same = b.spec ∙ a.spec in
    has_written_styled_of_eq _ _ _ _ _ (simp (same, append_assoc)) (has_written_styled_append _ _ _ _ _ _ a (has_written_styled_append _ _ _ _ _ _ b d))
