use Rattle.std.proofs.Common.{List, subst, ◌∙◌}
use Rattle.wire_buf.specs.Watched.{inner_of}
use Rattle.feed_transactions.specs.Rules.{rules}
use Rattle.feed_replication.specs.declared.format.PayloadFormat.TheVariants.{Plain}
use Rattle.feed_replication.specs.declared.step.Step.{Step}
use Rattle.feed_replication.specs.Runs.{run}
use Rattle.feed_replication.specs.Rehearsing.{Rehearses, FollowsTheLog}
use Rattle.feed_replication.proofs.rehearsal.rehearse.Goals as goal

pub returns-clause-run : goal.returns-clause-run
returns-clause-run g c = λ sum k.
    subst (λ (x : List Step). Rehearses (run (rules sum) Plain c.args.binlog.now x) (g.W.Write.contents (inner_of c.args.writer.now)) (g.W.Write.contents (inner_of c.rehearse_growing.new.writer)) c.rehearse_growing.result) (c.deref.ensures.value ∙ c.in-Ok.ensures) (c.rehearse_growing.ensures.run sum k)

pub returns-clause-follows : goal.returns-clause-follows
returns-clause-follows g c = λ sum k i.
    subst (λ (x : List Step). FollowsTheLog (rules sum) Plain c.args.binlog.now x (g.W.Write.contents (inner_of c.args.writer.now)) (g.W.Write.contents (inner_of c.rehearse_growing.new.writer)) c.rehearse_growing.result) (c.deref.ensures.value ∙ c.in-Ok.ensures) (c.rehearse_growing.ensures.follows sum k i)
