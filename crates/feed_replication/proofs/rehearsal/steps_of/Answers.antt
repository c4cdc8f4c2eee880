use Rattle.std.proofs.Common.{List, ℕ, [], ◌∷◌, ◌++◌, ◌+◌, map, drop, sym, ap, ◌∙◌, append_assoc}
use Rattle.std.proofs.lemmas.List.{append-nil, drop_more, drop_all}
use Rattle.feed_replication.specs.declared.step.Step.{Step}
use Rattle.feed_replication.specs.Rehearsing.{step_of}
use Rattle.feed_replication.proofs.rehearsal.steps_of.Goals as goal

pub loop-count-init : goal.loop-count-init
loop-count-init c = record { all = ap (λ (x : List Step). x ++ map (step_of c.args.size) c.args.counts.now) c.in_ok-steps.ensures.items }

pub loop-count-preserved : goal.loop-count-preserved
loop-count-preserved c =
    let built = c.loop-count.steps.items in
    let rest = map (step_of c.args.size) (drop (c.loop-count.count-index + 1) c.args.counts.now) in
    record {
      all = ap (λ (x : List Step). x ++ rest) c.in_ok-push.ensures.items
          ∙ append_assoc built (_ ∷ []) rest
          ∙ ap (λ (x : List ℕ). built ++ map (step_of c.args.size) x) (sym (drop_more c.args.counts.now c.loop-count.count-index _ c.loop-count-test.true))
          ∙ c.loop-count.invariant.all;
    }

pub returns : goal.returns
returns c =
    sym (append-nil c.loop-count.steps.items)
    ∙ ap (λ (x : List ℕ). c.loop-count.steps.items ++ map (step_of c.args.size) x) (sym (drop_all c.loop-count.count-index c.args.counts.now c.loop-count-test.false))
    ∙ c.loop-count.invariant.all
