use Rattle.std.proofs.Common.{Some, ◌∷◌, ◌++◌, sym, ◌∙◌}
use Rattle.std.specs.Fmt.{decimal}
use Rattle.std.proofs.lemmas.List.{append_cancel_left}
use Rattle.std.specs.Prelude.{codes}
use Rattle.std.proofs.lemmas.Bool.Decides.{Decides-eqb}
use Rattle.std.proofs.lemmas.Slice.Eq.{strip_prefix_is}
use Rattle.changes_resume.proofs.PositionLemmas.{no_comma, position_read, no_position_read}
use Rattle.changes_resume.proofs.resume_point.read_position.Goals as goal

pub returns-in_err-end-clause-none : goal.returns-in_err-end-clause-none
returns-in_err-end-clause-none c = let h = strip_prefix_is Decides-eqb c.args.text.now (codes ",\"position\":") (Some c.in_ok-rest.rest) c.in_ok-rest.ensures.cases in
    rw c.from_residual-in_err-end.ensures (λ n b. no_comma c.in_ok-rest.rest.now b.after n b.fits c.in_err-end.ensures
    (append_cancel_left (codes ",\"position\":") c.in_ok-rest.rest.now (decimal n ++ 44 ∷ b.after) (sym h ∙ b.split)))

pub returns-clause-some : goal.returns-clause-some
returns-clause-some c = let h = strip_prefix_is Decides-eqb c.args.text.now (codes ",\"position\":") (Some c.in_ok-rest.rest) c.in_ok-rest.ensures.cases in
    position_read c.args.text.now c.in_ok-rest.rest.now c.split_at.result.0.now c.in_ok-end.end c.number.result h c.split_at.ensures.front c.in_ok-end.ensures.0 c.in_ok-end.ensures.1 c.number.ensures.some

pub returns-clause-none : goal.returns-clause-none
returns-clause-none c = let h = strip_prefix_is Decides-eqb c.args.text.now (codes ",\"position\":") (Some c.in_ok-rest.rest) c.in_ok-rest.ensures.cases in
    no_position_read c.args.text.now c.in_ok-rest.rest.now c.split_at.result.0.now c.in_ok-end.end c.number.result h c.split_at.ensures.front c.in_ok-end.ensures.0 c.in_ok-end.ensures.1 c.number.ensures.none
