use Rattle.std.proofs.Common.{rules, append_assoc}
use Rattle.std.proofs.Output.{has_written_styled_append, has_written_styled_of_eq}
use Rattle.rows_values.specs.TimeTexts.{after_hour}
use Rattle.rows_values.proofs.times.text.put_after_hour.Goals as goal

pub returns : goal.returns
unfolding after_hour
returns g c = λ flush done.
    let a = c.write_str.ensures.styled flush (search rules) in
    let b = c.put_two_digits.ensures a.flush (search rules) in
    let d = c.write_str-2.ensures.styled b.flush (search rules) in
    let e = c.put_two_digits-2.ensures d.flush (search rules) in
    let h = c.put_fraction.ensures e.flush done in
    let same = c.precision-precision.ensures.value in
    has_written_styled_of_eq _ _ _ _ _ (simp (same, append_assoc)) (has_written_styled_append _ _ _ _ _ _ a (has_written_styled_append _ _ _ _ _ _ b (has_written_styled_append _ _ _ _ _ _ d (has_written_styled_append _ _ _ _ _ _ e h))))
