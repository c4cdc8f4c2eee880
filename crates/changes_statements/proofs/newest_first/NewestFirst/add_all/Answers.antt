use Rattle.std.proofs.Common.{◌≡◌, ◌<◌, [], length, arith}
use Rattle.changes_statements.proofs.AddedLemmas.{added_all, added_more, added_none}
use Rattle.changes_statements.proofs.newest_first.NewestFirst.add_all.Goals as goal

pub loop-init : goal.loop-init
loop-init c = λ older texts has opened. added_none texts older _ _ (c.texts-left.ensures texts opened) has

pub loop-preserved : goal.loop-preserved
loop-preserved c = λ older texts has opened.
    let count : c.len-end.result ≡ length texts = c.len-end.ensures texts [] opened in
    let few : c.loop.counter < length texts = omega (arith, c.loop-test.true, count) in
    added_more c.loop.counter _ texts older _ _ _ _ _ (omega arith) few (c.loop.invariant older texts has opened) c.take.ensures c.in_ok-add.ensures

pub returns : goal.returns
returns c = λ older texts has opened.
    let count : c.len-end.result ≡ length texts = c.len-end.ensures texts [] opened in
    let whole : c.loop.counter ≡ length texts = omega (arith, c.loop-test.false, c.loop.auto.counter-end, count) in
    added_all c.loop.counter texts older c.loop.left _ whole (c.loop.invariant older texts has opened)
