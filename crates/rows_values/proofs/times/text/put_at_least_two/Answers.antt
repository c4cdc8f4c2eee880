use Rattle.std.proofs.Common.{rules}
use Rattle.std.proofs.Output.{has_written_styled_append, has_written_styled_of_eq}
use Rattle.rows_values.proofs.TimeTextLemmas.{padded_two}
use Rattle.rows_values.proofs.times.text.put_at_least_two.Goals as goal

pub returns : goal.returns
returns g c = λ flush done.
    let a = c.put_if.ensures flush (search rules) in
    let b = c.put_number.ensures a.flush done in
    has_written_styled_of_eq _ _ _ _ _ (padded_two c.args.number (search rules)) (has_written_styled_append _ _ _ _ _ _ a b)
