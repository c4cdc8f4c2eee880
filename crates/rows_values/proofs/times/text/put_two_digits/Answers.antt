use Rattle.std.proofs.Common.{rules}
use Rattle.std.proofs.Output.{has_written_styled_append, has_written_styled_of_eq}
use Rattle.rows_values.proofs.TimeTextLemmas.{two_parts}
use Rattle.rows_values.proofs.times.text.put_two_digits.Goals as goal

pub returns : goal.returns
returns g c = λ flush done.
    let a = c.put_number.ensures flush (search rules) in
    let b = c.put_number-2.ensures a.flush done in
    has_written_styled_of_eq _ _ _ _ _ (two_parts c.args.part (search rules)) (has_written_styled_append _ _ _ _ _ _ a b)
