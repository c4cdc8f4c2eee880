use Rattle.std.proofs.Common.{rules, ◌≡◌, ◌<◌, ◌≤◌, ◌-◌, true, false, length, slice_index_or}
use Rattle.std.specs.Str.{bytes_eq}
use Rattle.events_replaced.proofs.XidLemmas.{found_xid, none_more}
use Rattle.events_replaced.proofs.prepared.Prepared.index_of.Goals as goal

pub returns-then-eq-clause-some : goal.returns-then-eq-clause-some
returns-then-eq-clause-some c =
    let p = c.index-prepared-end.result in
    let some : 0 < c.loop-end.end = search rules in
    let is : slice_index_or c.args.prepared.now (c.loop-end.end - 1) p ≡ p = search rules in
    let same : bytes_eq p.xid.items c.args.xid.now ≡ true = search rules in
    found_xid c.args.xid.now c.args.prepared.now c.loop-end.end p some c.loop-end.invariant.within is c.loop-end.invariant.none same

pub loop-end-preserved : goal.loop-end-preserved
loop-end-preserved c =
    let p = c.index-prepared-end.result in
    let some : 0 < c.loop-end.end = search rules in
    let is : slice_index_or c.args.prepared.now (c.loop-end.end - 1) p ≡ p = search rules in
    let other : bytes_eq p.xid.items c.args.xid.now ≡ false = search rules in
    let within : c.loop-end.end - 1 ≤ length c.args.prepared.now = search rules in
    record { within = within; none = none_more c.args.xid.now c.args.prepared.now c.loop-end.end p some c.loop-end.invariant.within is c.loop-end.invariant.none other }
