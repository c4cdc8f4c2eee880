use Rattle.std.proofs.Common.{ℕ, Bool, false, ◌==◌, ◌≡◌, ◌<◌, List, sym, ap, length, arith, ◌∙◌, subst}
use Rattle.std.proofs.lemmas.Bool.{eqb-true}
use Rattle.std.proofs.lemmas.Bool.Decides.{nat_tests}
use Rattle.changes_resume.specs.ResumePoints.{HasResumePoint}
use Rattle.changes_resume.proofs.ReadingLemmas.{reads_more, keeps_nothing, has_no_point}
use Rattle.changes_resume.proofs.reading.kept_json.Goals as goal

pub returns-then-is_empty-clause-ok : goal.returns-then-is_empty-clause-ok
returns-then-is_empty-clause-ok g c = reads_more _ _ _ _ c.in-Ok.ensures.ok (λ text r.
    keeps_nothing text c.len.result (c.len.ensures text r)
    (ap length (sym (c.last-line.ensures text r)) ∙ eqb-true (length c.last-line.result.now) 0 (sym c.is_empty.ensures ∙ c.if-is_empty.true)))

some : (n : ℕ) (b : Bool) → b ≡ (n == 0) → b ≡ false → 0 < n
some n b e h = grind (arith, nat_tests)

pub returns-in-Ok-None-clause-err : goal.returns-in-Ok-None-clause-err
returns-in-Ok-None-clause-err g c = reads_more _ _ _ _ c.in-Ok.ensures.ok (λ text r.
    let l = c.last-line.ensures text r in
    has_no_point text (subst (λ (x : List ℕ). 0 < length x) l (some (length c.last-line.result.now) c.is_empty.result c.is_empty.ensures c.if-is_empty.false))
    (subst (λ (x : List ℕ). (file : List ℕ) (position : ℕ) → ¬ (HasResumePoint x file position)) l (rw c.in-Ok-None.field-0-is at c.in-Ok-None.ensures)))
