use Rattle.std.proofs.Common.{rules}
use Rattle.std.proofs.Output.{has_written_styled_append, has_written_styled_of_eq}
use Rattle.rows_values.proofs.DisplayLemmas.{plain_of_styled, no_ok}
use Rattle.rows_values.proofs.display.DecimalDisplay.fmt.Goals as goal

pub returns-clause-styled : goal.returns-clause-styled
returns-clause-styled g c = λ flush done.
    let a = c.put_sign.ensures flush (search rules) in
    let b = c.put_whole.ensures a.flush (search rules) in
    let d = c.put_fraction.ensures b.flush done in
    has_written_styled_of_eq _ _ _ _ _ (search rules) (has_written_styled_append _ _ _ _ _ _ a (has_written_styled_append _ _ _ _ _ _ b d))

pub returns-clause-writes : goal.returns-clause-writes
returns-clause-writes g c = λ plain done. plain_of_styled _ _ _ _ plain (returns-clause-styled g c plain.flush done)

pub returns-in_err-put_sign-clause-writes : goal.returns-in_err-put_sign-clause-writes
returns-in_err-put_sign-clause-writes g c = λ plain done. no_ok _ c.from_residual.ensures.0 done

pub returns-in_err-put_whole-clause-writes : goal.returns-in_err-put_whole-clause-writes
returns-in_err-put_whole-clause-writes g c = λ plain done. no_ok _ c.from_residual-in_err-put_whole.ensures.0 done
