use Rattle.std.proofs.Common.{◌≡◌, ◌++◌, length, refl, sym, ap, ◌∙◌}
use Rattle.changes_resume.specs.KeptJson.{is_last_line}
use Rattle.changes_resume.proofs.KeptLineLemmas.{ended, ended_within}
use Rattle.changes_resume.proofs.line_keeper.LineKeeper.end_line.Goals as goal
use Rattle.changes_resume.proofs.line_keeper.LineKeeper.end_line.Goals.{then-is_last_line, else-is_last_line}

pub returns : goal.returns
returns c = λ text h fits.
    let k = c.args.self.now in
    let both : c.extend_from_slice.new.self.items ≡ k.line.items ++ c.args.end.now = c.in_ok-extend_from_slice.ensures.items in
    let size : c.len.result ≡ length (k.line.items ++ c.args.end.now) = c.len.ensures ∙ c.extend_from_slice.new.self.ok.0 ∙ ap length both in
    let is : is_last_line (k.line.items ++ c.args.end.now) ≡ c.is_last_line.result = ap is_last_line (sym (c.deref.ensures.value ∙ both)) ∙ sym c.is_last_line.ensures in
    elim c.if-is_last_line.branch [
      | then-is_last_line w ↦ rw (w.self-is, w.swap.ensures.x_after, both, c.clear.ensures.items, size)
          (ended k.complete_len k.len _ k.last.items k.line.items text c.args.end.now h c.requires fits refl (is ∙ w.if-is_last_line.true))
      | else-is_last_line w ↦ rw (w.self-is, c.clear.ensures.items, size)
          (ended_within k.complete_len k.len _ k.last.items k.line.items text c.args.end.now h c.requires fits refl (is ∙ w.if-is_last_line.false))
    ]
