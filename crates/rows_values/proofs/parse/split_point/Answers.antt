use Rattle.std.proofs.Common.{◌+◌, length, take, drop, arith, sym, ap, ◌∙◌}
use Rattle.std.proofs.Math.Seq.{take-length}
use Rattle.rows_values.proofs.GroupLemmas.{point_is, drop_past, to_end}
use Rattle.rows_values.proofs.parse.split_point.Goals as goal

pub returns-then-byte-eq46-clause-before : goal.returns-then-byte-eq46-clause-before
returns-then-byte-eq46-clause-before c =
    let x = c.args.body.now in
    ap (λ k. take k x) (sym (point_is x c.loop-i.i (omega arith) c.loop-i.invariant (λ _. c.if-byte-eq46.true)))

pub returns-then-byte-eq46-clause-after : goal.returns-then-byte-eq46-clause-after
returns-then-byte-eq46-clause-after c =
    let x = c.args.body.now in
    to_end x (c.loop-i.i + 1) ∙ ap (λ k. drop (k + 1) x) (sym (point_is x c.loop-i.i (omega arith) c.loop-i.invariant (λ _. c.if-byte-eq46.true)))

pub returns-clause-before : goal.returns-clause-before
returns-clause-before c =
    let x = c.args.body.now in
    sym (take-length x) ∙ ap (λ k. take k x) (sym (point_is x (length x) (omega arith) (λ k below. c.loop-i.invariant k (omega (arith, below))) (λ late. absurd (omega (arith, late)))))

pub returns-clause-after : goal.returns-clause-after
returns-clause-after c =
    let x = c.args.body.now in
    to_end x (length x) ∙ drop_past x (length x) (omega arith) ∙ sym (drop_past x (length x + 1) (omega arith))
    ∙ ap (λ k. drop (k + 1) x) (sym (point_is x (length x) (omega arith) (λ k below. c.loop-i.invariant k (omega (arith, below))) (λ late. absurd (omega (arith, late)))))
