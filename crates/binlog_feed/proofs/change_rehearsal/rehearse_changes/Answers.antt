use Rattle.std.proofs.Common.{◌∙◌, ap, sym}
use Rattle.std.proofs.lemmas.List.{drop_more, drop_all}
use Rattle.binlog_feed.proofs.ApplyLemmas.{applies_none, begun, moves_on, ends, all_applied, follows_log}
use Rattle.binlog_feed.proofs.ChangeRunLemmas.{from_the_log}
use Rattle.binlog_feed.proofs.change_rehearsal.rehearse_changes.Goals as goal

pub returns-in_default-clause-run : goal.returns-in_default-clause-run
returns-in_default-clause-run g c = λ sum k. (0, applies_none g.A.Applier.has_applied c.args.applier.now)

pub returns-in_default-clause-follows : goal.returns-in_default-clause-follows
returns-in_default-clause-follows g c = λ sum k i. (0, applies_none g.A.Applier.has_applied c.args.applier.now)

pub loop-step-init : goal.loop-step-init
loop-step-init g c = record {
  callable = c.requires.callable;
  keeps = ap (λ b. b.now) c.in-Ok.ensures.started.checksum_is;
  underway = λ sum k. begun g.A.Applier.has_applied sum c.args.format c.args.binlog.now c.args.steps.now _ _ _ c.args.applier.now c.in-Ok.ensures.started;
}

pub run_step-verdict-requires-clause-keeps : goal.run_step-verdict-requires-clause-keeps
run_step-verdict-requires-clause-keeps g c = c.loop-step.invariant.keeps

pub returns-then-is_fault-clause-run : goal.returns-then-is_fault-clause-run
returns-then-is_fault-clause-run g c = λ sum k.
    ends g.A.Applier.has_applied sum c.args.format c.args.binlog.now c.args.steps.now _ _ _ c.loop-step.follower c.run_step-verdict.new.follower c.args.applier.now c.loop-step.applier c.run_step-verdict.new.applier c.loop-step.verdict c.run_step-verdict.result (drop_more c.args.steps.now c.loop-step.step-index _ c.loop-step-test.true) (c.loop-step.invariant.underway sum k)
    (c.run_step-verdict.ensures.applies sum k) (sym c.is_fault.ensures ∙ c.if-is_fault.true)

pub returns-then-is_fault-clause-follows : goal.returns-then-is_fault-clause-follows
returns-then-is_fault-clause-follows g c = λ sum k i.
    follows_log g.A.Applier.has_applied sum c.args.format c.args.binlog.now c.args.steps.now c.args.applier.now c.run_step-verdict.new.applier c.run_step-verdict.result (from_the_log sum c.args.format c.args.binlog.now c.args.steps.now i)
    (ends g.A.Applier.has_applied sum c.args.format c.args.binlog.now c.args.steps.now _ _ _ c.loop-step.follower c.run_step-verdict.new.follower c.args.applier.now c.loop-step.applier c.run_step-verdict.new.applier c.loop-step.verdict c.run_step-verdict.result (drop_more c.args.steps.now c.loop-step.step-index _ c.loop-step-test.true) (c.loop-step.invariant.underway sum k)
    (c.run_step-verdict.ensures.applies sum k) (sym c.is_fault.ensures ∙ c.if-is_fault.true))

pub loop-step-preserved : goal.loop-step-preserved
loop-step-preserved g c = record {
  callable = c.requires.callable;
  keeps = ap (λ b. b.now) c.run_step-verdict.ensures.keeps ∙ c.loop-step.invariant.keeps;
  underway = λ sum k.
      moves_on g.A.Applier.has_applied sum c.args.format c.args.binlog.now c.args.steps.now _ _ _ c.loop-step.follower c.run_step-verdict.new.follower c.args.applier.now c.loop-step.applier c.run_step-verdict.new.applier c.loop-step.verdict c.run_step-verdict.result (drop_more c.args.steps.now c.loop-step.step-index _ c.loop-step-test.true) (c.loop-step.invariant.underway sum k)
      (c.run_step-verdict.ensures.applies sum k) (sym c.is_fault.ensures ∙ c.if-is_fault.false);
}

pub returns-clause-run : goal.returns-clause-run
returns-clause-run g c = λ sum k. all_applied g.A.Applier.has_applied sum c.args.format c.args.binlog.now c.args.steps.now _ c.loop-step.follower c.args.applier.now c.loop-step.applier c.loop-step.verdict (drop_all c.loop-step.step-index c.args.steps.now c.loop-step-test.false) (c.loop-step.invariant.underway sum k)

pub returns-clause-follows : goal.returns-clause-follows
returns-clause-follows g c = λ sum k i.
    follows_log g.A.Applier.has_applied sum c.args.format c.args.binlog.now c.args.steps.now c.args.applier.now c.loop-step.applier c.loop-step.verdict (from_the_log sum c.args.format c.args.binlog.now c.args.steps.now i)
    (all_applied g.A.Applier.has_applied sum c.args.format c.args.binlog.now c.args.steps.now _ c.loop-step.follower c.args.applier.now c.loop-step.applier c.loop-step.verdict (drop_all c.loop-step.step-index c.args.steps.now c.loop-step-test.false) (c.loop-step.invariant.underway sum k))
