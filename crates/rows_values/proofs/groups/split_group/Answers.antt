use Rattle.std.proofs.Common.{◌≡◌, length, rules, arith, inl, inr, ◌<◌, ◌%◌, ◌⊎◌}
use Rattle.rows_values.proofs.FirstGroupLemmas.{splits_before, splits_after, nine_or_all}
use Rattle.rows_values.proofs.groups.split_group.Goals as goal
use Rattle.rows_values.proofs.groups.split_group.Goals.{then-left-eq0, else-left-eq0}

pub returns-then-is_empty : goal.returns-then-is_empty
returns-then-is_empty c =
    splits_after c.args.before.now c.args.after.now _ _ c.min.result c.requires.before c.requires.after (search rules) (nine_or_all (length c.args.after.now) c.min.result c.min.ensures) c.split_at.ensures.front c.split_at.ensures.back

pub returns : goal.returns
returns c =
    let n = c.if-left-eq0.split_at in
    let which : ((length c.args.before.now % 9 ≡ 0) × (n ≡ 9)) ⊎ ((0 < length c.args.before.now % 9) × (n ≡ length c.args.before.now % 9)) =
    elim c.if-left-eq0.branch [
      | then-left-eq0 w ↦ inl (w.if-left-eq0.true, w.split_at-is)
      | else-left-eq0 w ↦ inr (omega (arith, w.if-left-eq0.false), w.split_at-is)
    ] in
    splits_before c.args.before.now c.args.after.now _ _ n c.requires.before c.requires.after (omega arith) which c.split_at-2.ensures.front c.split_at-2.ensures.back
