use Rattle.std.proofs.Common.{List, ℕ, ◌++◌, inl, inr, sym, ap, ◌∙◌}
use Rattle.program_changes.specs.FollowedLines.{progress_line}
use Rattle.program_changes.proofs.printer.progress_line.Goals as goal

pub returns-then-not-is_due : goal.returns-then-not-is_due
returns-then-not-is_due g c = inl c.new-line.ensures.bytes

pub returns-in-Ok : goal.returns-in-Ok
returns-in-Ok g c =
    let put = c.put.ensures c.in-Ok.ensures in
    inr (c.args.reached.now.position, put.1 ∙ ap (λ (l : List ℕ). l ++ progress_line c.args.name.now c.args.reached.now.position) c.new-line.ensures.bytes)
