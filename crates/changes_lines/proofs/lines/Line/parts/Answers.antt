use Rattle.std.proofs.Common.{◌≡◌, ℕ, List, ◌++◌, Some, None, ap, ◌∙◌, rules}
use Rattle.std.proofs.lemmas.List.{append-nil}
use Rattle.changes_lines.proofs.lines.Line.parts.Goals as goal

pub returns-in-Some : goal.returns-in-Some
returns-in-Some c = λ json is.
    let some : c.args.self.end ≡ Some c.in-Some.end = search rules in
    rw some (ap (λ (t : List ℕ). t ++ c.in-Some.end.now) (c.without_end.ensures json is))

pub returns-in-None : goal.returns-in-None
returns-in-None c = λ json is.
    let none : c.args.self.end ≡ None = search rules in
    rw none (append-nil c.args.self.row.now ∙ is)
