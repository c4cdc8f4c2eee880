use Rattle.std.proofs.Common.{rules}
use Rattle.std.proofs.Output.{has_written_styled_append, has_written_styled_of_eq}
use Rattle.rows_values.specs.TimeTexts.{zone_text}
use Rattle.rows_values.proofs.times.text.put_zone.Goals as goal

pub returns : goal.returns
unfolding zone_text
returns g c = λ flush done.
    let a = c.write_str.ensures.styled flush (search rules) in
    let b = c.put_zone_hours.ensures a.flush (search rules) in
    let d = c.write_str-2.ensures.styled b.flush (search rules) in
    let e = c.put_two_digits.ensures d.flush done in
    has_written_styled_of_eq _ _ _ _ _ (search rules) (has_written_styled_append _ _ _ _ _ _ a (has_written_styled_append _ _ _ _ _ _ b (has_written_styled_append _ _ _ _ _ _ d e)))
