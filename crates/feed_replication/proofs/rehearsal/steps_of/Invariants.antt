use Rattle.std.proofs.Common.{◌≡◌, ◌++◌, map, drop}
use Rattle.feed_replication.specs.Rehearsing.{step_of}
use Rattle.feed_replication.proofs.rehearsal.steps_of.Given as goal

abbrev pub invariant-loop-count : goal.invariant-loop-count
invariant-loop-count l = record { all : l.steps.items ++ map (step_of l.size) (drop l.count-index l.counts) ≡ map (step_of l.size) l.counts }
