use Rattle.std.proofs.Common.{rules}
use Rattle.std.proofs.Output.{has_written_styled_append, has_written_styled_of_eq}
use Rattle.rows_values.specs.TimeTexts.{zone_hours}
use Rattle.rows_values.proofs.times.text.put_zone_hours.Goals as goal

pub returns-then-hours-ne0 : goal.returns-then-hours-ne0
unfolding zone_hours
returns-then-hours-ne0 g c = λ flush done.
    let a = c.write_str.ensures.styled flush (search rules) in
    let b = c.put_number.ensures a.flush done in
    has_written_styled_of_eq _ _ _ _ _ (search rules) (has_written_styled_append _ _ _ _ _ _ a b)
