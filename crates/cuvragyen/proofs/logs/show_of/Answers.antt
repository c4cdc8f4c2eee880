use Rattle.std.proofs.Common.{length, sym, ap, ◌∙◌, subst}
use Rattle.cuvragyen.specs.Exports.{Shows}
use Rattle.cuvragyen.proofs.ExportLemmas.{goes_to, shows_lines, shows_none, shows_fault}
use Rattle.cuvragyen.proofs.logs.show_of.Goals as goal

pub returns-in-Ok-true-clause-shows : goal.returns-in-Ok-true-clause-shows
returns-in-Ok-true-clause-shows c = goes_to _ _ c.in-Log.log c.show.new.self c.in-Log.is
    (shows_lines _ _ _ _ c.show.ensures.log (rw c.in-Ok-true.field-0-test at c.in-Ok-true.ensures.there) c.in-Ok-true.ensures.shown (c.view_of.ensures.1 ∙ ap length c.shown.ensures))

pub returns-in-Ok-false-clause-shows : goal.returns-in-Ok-false-clause-shows
returns-in-Ok-false-clause-shows c = goes_to _ _ c.in-Log.log c.show.new.self c.in-Log.is
    (shows_none _ _ _ _ c.show.ensures.log (rw c.in-Ok-false.field-0-test at c.in-Ok-false.ensures.there) c.in-Ok-false.ensures.shown c.view_of-in-Ok-false.ensures.1)

pub returns-in-Err-clause-shows : goal.returns-in-Err-clause-shows
returns-in-Err-clause-shows c = goes_to _ _ c.in-Log.log c.show.new.self c.in-Log.is
    (subst (λ n. Shows c.in-Log.log c.show.new.self c.args.shown.now c.args.shown.now n) (sym c.number_of.ensures) (shows_fault _ _ _ c.in-Err.verdict c.show.ensures.log c.in-Err.ensures.err))
