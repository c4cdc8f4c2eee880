use Rattle.std.proofs.Common.{◌<◌, length, arith}
use Rattle.changes_stats.proofs.LargestLemmas.{index_of-here, index_of-more}
use Rattle.changes_stats.proofs.largest.LargestTransactions.index_of.Goals as goal

pub returns-then-other-rows-clause-index : goal.returns-then-other-rows-clause-index
returns-then-other-rows-clause-index c =
    let items = c.args.self.now.list.items in
    let lt : c.loop-index.index < length items = omega arith in
    let is = (rw c.deref-other-items.ensures.value at c.other-item.is) in
    omega (arith, index_of-here c.args.rows items c.loop-index.index c.other-item.result lt is c.if-other-rows.true)

pub loop-index-preserved : goal.loop-index-preserved
loop-index-preserved c =
    let items = c.args.self.now.list.items in
    let lt : c.loop-index.index < length items = omega arith in
    let is = (rw c.deref-other-items.ensures.value at c.other-item.is) in
    omega (arith, index_of-more c.args.rows items c.loop-index.index c.other-item.result lt is c.if-other-rows.false)
