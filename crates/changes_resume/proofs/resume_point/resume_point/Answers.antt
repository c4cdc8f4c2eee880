use Rattle.std.proofs.Common.{drop, ap, ◌∙◌}
use Rattle.changes_resume.proofs.ResumePointLemmas.{not_nowhere, content_is, position_after, has_point}
use Rattle.changes_resume.proofs.resume_point.resume_point.Goals as goal

pub returns-in_default : goal.returns-in_default
returns-in_default c = λ file position h. not_nowhere c.args.line.now file position h c.in_default.ensures

pub returns-in_default-2 : goal.returns-in_default-2
returns-in_default-2 c = λ file position h.
    let none = rw c.in_default-2.is at c.in_ok-file.ensures in
    none file h.after (content_is c.args.line.now file position h c.in-Some.at c.split_at-2.result.1.now c.in-Some.ensures.0 c.in-Some.ensures.1 (c.split_at-2.ensures.back ∙ ap (drop 9) c.split_at.ensures.back))

pub returns-in_default-read_position : goal.returns-in_default-read_position
returns-in_default-read_position c = λ file position h.
    c.in_default-read_position.ensures.none position (position_after c.args.line.now file position h c.in-Some.at c.split_at-2.result.1.now c.in-Some-2.file.items c.in-Some-2.rest.now
    c.in-Some.ensures.0 c.in-Some.ensures.1 (c.split_at-2.ensures.back ∙ ap (drop 9) c.split_at.ensures.back) (rw c.in-Some-2.is at c.in_ok-file.ensures))

pub returns : goal.returns
returns c = has_point c.args.line.now c.split_at-2.result.1.now c.in-Some-2.file.items c.in-Some-2.rest.now c.in-Some.at c.in-Some-read_position.position
    c.in-Some.ensures.0 c.in-Some.ensures.1 (c.split_at-2.ensures.back ∙ ap (drop 9) c.split_at.ensures.back) (rw c.in-Some-2.is at c.in_ok-file.ensures) c.in-Some-read_position.ensures.some
