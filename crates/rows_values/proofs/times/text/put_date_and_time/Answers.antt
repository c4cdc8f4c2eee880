use Rattle.std.proofs.Common.{rules, append_assoc, ◌∙◌}
use Rattle.std.proofs.Output.{has_written_styled_append, has_written_styled_of_eq}
use Rattle.rows_values.specs.TimeTexts.{date_and_time_text}
use Rattle.rows_values.proofs.times.text.put_date_and_time.Goals as goal

pub returns : goal.returns
unfolding date_and_time_text
returns g c = λ flush done.
    let a = c.put_date.ensures flush (search rules) in
    let b = c.write_str.ensures.styled a.flush (search rules) in
    let d = c.put_two_digits.ensures b.flush (search rules) in
    let e = c.put_after_hour.ensures d.flush done in
    let same = d.spec ∙ b.spec ∙ a.spec in
    has_written_styled_of_eq _ _ _ _ _ (simp (same, append_assoc)) (has_written_styled_append _ _ _ _ _ _ a (has_written_styled_append _ _ _ _ _ _ b (has_written_styled_append _ _ _ _ _ _ d e)))
