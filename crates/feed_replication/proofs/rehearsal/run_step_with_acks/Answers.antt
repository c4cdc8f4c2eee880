use Rattle.std.proofs.Common.{Bool, List, [], ℕ, Some, ◌++◌, ◌∙◌, ap, sym, subst}
use Rattle.std.specs.Prelude.{if◌then◌else◌}
use Rattle.feed_transactions.specs.Rules.{rules}
use Rattle.feed_replication.specs.Following.{due_of, AddsDue}
use Rattle.feed_replication.specs.Runs.{next_report, step_acknowledgements}
use Rattle.feed_replication.proofs.AcknowledgedLemmas.{kept-waits}
use Rattle.feed_replication.proofs.RehearsalLemmas.{still-run, takes-kept, blamed-kept}
use Rattle.feed_replication.proofs.rehearsal.run_step_with_acks.Goals as goal

pub returns-clause-takes : goal.returns-clause-takes
returns-clause-takes g c = λ sum k before h i.
    rw c.verdict_with_acks.ensures
    (takes-kept (rules sum) c.args.format c.args.name.now c.run_step-verdict.new.follower c.acks-waiting.new.self before (next_report (rules sum) c.args.format c.args.binlog.now before c.args.step) _ _ c.run_step-verdict.result c.is_ok-is_kept.result
    (still-run (rules sum) c.args.format c.args.name.now c.run_step-verdict.new.follower c.acks-waiting.new.self (next_report (rules sum) c.args.format c.args.binlog.now before c.args.step) c.acks-waiting.ensures.settings c.acks-waiting.ensures.asked_position (c.acks-waiting.ensures.resumes (rules sum)))
    (c.run_step-verdict.ensures.takes sum k before h i).0)

pub returns-clause-acknowledges : goal.returns-clause-acknowledges
returns-clause-acknowledges g c = λ sum k before h i none.
    let waiting = due_of c.run_step-verdict.new.follower in
    let all = step_acknowledgements (rules sum) c.args.format c.args.name.now c.args.binlog.now before c.args.step in
    let first : List ℕ = c.args.acks.now.items in
    let piece = c.deref.ensures.value ∙ c.acks-waiting.ensures.acks in
    rw c.verdict_with_acks.ensures
    (kept-waits all waiting first c.extend_from_slice.new.self.items c.run_step-verdict.result c.is_ok-is_kept.result
    (subst (λ x. AddsDue [] all x waiting (Some c.run_step-verdict.result)) none (c.run_step-verdict.ensures.takes sum k before h i).1)
    (λ is. c.extend_from_slice.ensures.items ∙ ap (λ (b : Bool). if b then (first ++ c.deref.result.now) else first) (sym c.is_ok-is_kept.ensures.value ∙ is) ∙ ap (λ (x : List ℕ). first ++ x) piece)
    (λ is. c.extend_from_slice.ensures.items ∙ ap (λ (b : Bool). if b then (first ++ c.deref.result.now) else first) (sym c.is_ok-is_kept.ensures.value ∙ is)))

pub returns-clause-blamed : goal.returns-clause-blamed
returns-clause-blamed g c = rw c.verdict_with_acks.ensures (blamed-kept c.run_step-verdict.result c.is_ok-is_kept.result _ c.run_step-verdict.ensures.blamed)
