use Rattle.wire_buf.specs.Watched.{inner_of}
use Rattle.events_replaced.specs.XaEventStates.{content_left, xa_of}
use Rattle.events_replaced.proofs.XaPlainLemmas.{plain_given}
use Rattle.events_replaced.proofs.xa_events.XaEventsPlainEvents.next_plain.Goals as goal

pub returns-clause-given : goal.returns-clause-given
returns-clause-given g c taken =
    let i = c.requires.idle in
    let s = c.args.self.now in
    let old = g.S.Events.MayGive s.source (g.R.Read.remaining (inner_of c.args.reader.now)) in
    let new = g.S.Events.MayGive c.next_plain.new.self (g.R.Read.remaining (inner_of c.next_plain.new.reader)) in
    let event = g.S.Events.newest c.next_plain.new.self in
    let waiting = g.S.Events.at_hand c.next_plain.new.self in
    rw i.own (plain_given old new (xa_of s) s.log_pos (content_left s) event waiting i.none i.closed (c.next_plain.ensures.given taken))
