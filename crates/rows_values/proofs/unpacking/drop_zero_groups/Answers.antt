use Rattle.std.proofs.Common.{◌≡◌, ℕ, List, length, eqb, arith, ap, ◌∙◌, rules}
use Rattle.std.specs.List.{prefix_len}
use Rattle.rows_values.proofs.ZeroLemmas.{kept_are_these}
use Rattle.rows_values.proofs.unpacking.drop_zero_groups.Goals as goal

pub returns : goal.returns
returns c =
    let ds = c.args.digits.now.items in
    let long = ap length c.deref.ensures.value in
    let n : c.len.result ≡ length ds = omega (arith, long, c.deref.ensures.len, c.len.ensures) in
    let m : c.len-2.result ≡ length ds = omega (arith, long, c.deref.ensures.len, c.len-2.ensures) in
    let zeros = c.leading.ensures.count ∙ ap (λ (l : List ℕ). prefix_len (λ d. eqb d 0) l) c.deref.ensures.value in
    let these = kept_are_these ds c.len.result c.leading.result c.from.result c.len-2.result c.saturating_sub-unused.result n zeros c.from.ensures m c.saturating_sub-unused.ensures in
    rw c.if-keep.false (search rules ∙ these)
