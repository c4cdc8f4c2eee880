use Rattle.std.proofs.Common.{◌∙◌, refl, ap, sym}
use Rattle.std.proofs.lemmas.List.{drop_more, drop_all}
use Rattle.feed_transactions.specs.Rules.{rules}
use Rattle.feed_replication.proofs.RehearsalLemmas.{begun, gone-on, gone-wrong, acknowledged-wrong, all-taken, acknowledged-all, follows, blameless}
use Rattle.feed_replication.proofs.HeadlineLemmas.{prints-the-log}
use Rattle.feed_replication.proofs.rehearsal.run_steps.Goals as goal

pub loop-step-init : goal.loop-step-init
loop-step-init g c = record {
  callable = c.requires.callable;
  keeps = c.requires.keeps;
  none_waits = c.requires.starts.none_waits;
  goes_on = refl;
  underway = λ sum k. begun (rules sum) c.args.format c.args.name.now c.args.binlog.now c.args.steps.now c.args.follower _ _ _ c.args.acks.now.items c.requires.starts;
}

pub run_step_with_acks-verdict-requires-clause-keeps : goal.run_step_with_acks-verdict-requires-clause-keeps
run_step_with_acks-verdict-requires-clause-keeps g c = c.loop-step.invariant.keeps

pub returns-then-is_fault-clause-run : goal.returns-then-is_fault-clause-run
returns-then-is_fault-clause-run g c = λ sum k.
    gone-wrong (rules sum) c.args.format c.args.name.now c.args.binlog.now c.args.steps.now _ _ _ c.loop-step.follower c.run_step_with_acks-verdict.new.follower _ _ _ c.loop-step.verdict c.run_step_with_acks-verdict.result _ _ (drop_more c.args.steps.now c.loop-step.step-index _ c.loop-step-test.true) (c.loop-step.invariant.underway sum k)
    (sym c.is_fault.ensures ∙ c.if-is_fault.true) (c.run_step_with_acks-verdict.ensures.takes sum k)

pub returns-then-is_fault-clause-follows : goal.returns-then-is_fault-clause-follows
returns-then-is_fault-clause-follows g c = λ sum k i.
    follows (rules sum) c.args.format c.args.binlog.now c.args.steps.now _ _ c.run_step_with_acks-verdict.result (prints-the-log sum c.args.format c.args.binlog.now c.args.steps.now i)
    (gone-wrong (rules sum) c.args.format c.args.name.now c.args.binlog.now c.args.steps.now _ _ _ c.loop-step.follower c.run_step_with_acks-verdict.new.follower _ _ _ c.loop-step.verdict c.run_step_with_acks-verdict.result _ _ (drop_more c.args.steps.now c.loop-step.step-index _ c.loop-step-test.true) (c.loop-step.invariant.underway sum k)
    (sym c.is_fault.ensures ∙ c.if-is_fault.true) (c.run_step_with_acks-verdict.ensures.takes sum k))

pub returns-then-is_fault-clause-acknowledges : goal.returns-then-is_fault-clause-acknowledges
returns-then-is_fault-clause-acknowledges g c = λ sum k.
    acknowledged-wrong (rules sum) c.args.format c.args.name.now c.args.binlog.now c.args.steps.now _ _ _ c.loop-step.follower c.run_step_with_acks-verdict.new.follower _ _ _ c.loop-step.verdict c.run_step_with_acks-verdict.result _ _ _ (drop_more c.args.steps.now c.loop-step.step-index _ c.loop-step-test.true) (c.loop-step.invariant.underway sum k)
    (sym c.is_fault.ensures ∙ c.if-is_fault.true) (c.run_step_with_acks-verdict.ensures.takes sum k) (λ before h i. c.run_step_with_acks-verdict.ensures.acknowledges sum k before h i c.loop-step.invariant.none_waits)

pub loop-step-preserved : goal.loop-step-preserved
loop-step-preserved g c = record {
  callable = c.requires.callable;
  keeps = ap (λ b. b.now) c.run_step_with_acks-verdict.ensures.keeps ∙ c.loop-step.invariant.keeps;
  none_waits = c.run_step_with_acks-verdict.ensures.none_waits;
  goes_on = sym c.is_fault.ensures ∙ c.if-is_fault.false;
  underway = λ sum k.
      gone-on (rules sum) c.args.format c.args.name.now c.args.binlog.now c.args.steps.now _ _ _ c.loop-step.follower c.run_step_with_acks-verdict.new.follower _ _ _ c.loop-step.verdict c.run_step_with_acks-verdict.result _ _ _ (drop_more c.args.steps.now c.loop-step.step-index _ c.loop-step-test.true) (c.loop-step.invariant.underway sum k)
      (sym c.is_fault.ensures ∙ c.if-is_fault.false) (c.run_step_with_acks-verdict.ensures.takes sum k) (λ before h i. c.run_step_with_acks-verdict.ensures.acknowledges sum k before h i c.loop-step.invariant.none_waits);
}

pub returns-clause-run : goal.returns-clause-run
returns-clause-run g c = λ sum k. all-taken (rules sum) c.args.format c.args.name.now c.args.binlog.now c.args.steps.now _ c.loop-step.follower _ _ c.loop-step.verdict _ _ (drop_all c.loop-step.step-index c.args.steps.now c.loop-step-test.false) (c.loop-step.invariant.underway sum k)

pub returns-clause-follows : goal.returns-clause-follows
returns-clause-follows g c = λ sum k i.
    follows (rules sum) c.args.format c.args.binlog.now c.args.steps.now _ _ c.loop-step.verdict (prints-the-log sum c.args.format c.args.binlog.now c.args.steps.now i)
    (all-taken (rules sum) c.args.format c.args.name.now c.args.binlog.now c.args.steps.now _ c.loop-step.follower _ _ c.loop-step.verdict _ _ (drop_all c.loop-step.step-index c.args.steps.now c.loop-step-test.false) (c.loop-step.invariant.underway sum k))

pub returns-clause-acknowledges : goal.returns-clause-acknowledges
returns-clause-acknowledges g c = λ sum k.
    acknowledged-all (rules sum) c.args.format c.args.name.now c.args.binlog.now c.args.steps.now _ c.loop-step.follower _ _ c.loop-step.verdict _ _ (drop_all c.loop-step.step-index c.args.steps.now c.loop-step-test.false) (c.loop-step.invariant.underway sum k)

pub returns-clause-blamed : goal.returns-clause-blamed
returns-clause-blamed g c = blameless c.loop-step.verdict _ c.loop-step.invariant.goes_on
