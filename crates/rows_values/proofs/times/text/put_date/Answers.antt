use Rattle.std.proofs.Common.{rules, append_assoc}
use Rattle.std.proofs.Output.{has_written_styled_append, has_written_styled_of_eq}
use Rattle.rows_values.specs.TimeTexts.{date_text}
use Rattle.rows_values.proofs.times.text.put_date.Goals as goal

pub returns : goal.returns
unfolding date_text
returns g c = λ flush done.
    let a = c.put_two_digits.ensures flush (search rules) in
    let b = c.put_two_digits-2.ensures a.flush (search rules) in
    let d = c.write_str.ensures.styled b.flush (search rules) in
    let e = c.put_two_digits-3.ensures d.flush (search rules) in
    let h = c.write_str-2.ensures.styled e.flush (search rules) in
    let k = c.put_two_digits-4.ensures h.flush done in
    has_written_styled_of_eq _ _ _ _ _ (simp append_assoc) (has_written_styled_append _ _ _ _ _ _ a (has_written_styled_append _ _ _ _ _ _ b (has_written_styled_append _ _ _ _ _ _ d (has_written_styled_append _ _ _ _ _ _ e (has_written_styled_append _ _ _ _ _ _ h k)))))
