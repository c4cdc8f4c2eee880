use Rattle.std.proofs.Common.{arith}
use Rattle.std.specs.List.{filter}
use Rattle.feed_change_log.specs.Filters.{takes_change}
use Rattle.library_log.specs.RecordedTransactions.{begin_in}
use Rattle.library_log.proofs.HeadLemmas.{record_made}
use Rattle.library_log.proofs.MakingLemmas.{none_made, one_made, all_made}
use Rattle.library_log.proofs.records.Records.put.Goals as goal

pub loop-change-init : goal.loop-change-init
loop-change-init c = record {
  made = λ t done. none_made _ _ _ (rw c.into_iter-change-iterator.ensures.into_iter_gives (c.taken_by-change-items.ensures t.changes (c.changes.ensures t (c.transaction.ensures t done))));
  room = omega (arith, c.in_ok-put_head.ensures.more);
}

pub loop-change-preserved : goal.loop-change-preserved
loop-change-preserved c = record {
  made = λ t done. one_made _ _ _ _ _ _ c.in-Some.change _ _ c.in_ok-count.count (c.loop-change.invariant.made t done) c.in-Some.ensures.steps c.in_ok-count.ensures.added;
  room = omega (arith, c.in_ok-count.ensures.more);
}

pub returns : goal.returns
returns c = λ t done.
    let cs = filter (takes_change c.args.filter) t.changes in
    let m = all_made cs _ c.loop-change.out.items c.loop-change.change-iterator c.next.new.self c.loop-change.changes c.loop-change.rows (c.loop-change.invariant.made t done) c.in-None.ensures.steps in
    record_made (begin_in c.args.newest.now) c.loop-change.out.len c.loop-change.changes c.loop-change.rows t cs _ _ c.loop-change.out.items c.end_head.new.out.items c.clear.ensures.items (c.in_ok-put_head.ensures.head t done) m.elements c.loop-change.out.ok.0 (omega arith) (omega arith) (omega arith) m.changes_are m.rows_are c.end_head.ensures
