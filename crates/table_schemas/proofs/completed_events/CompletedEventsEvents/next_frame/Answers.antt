use Rattle.std.proofs.Common.{refl}
use Rattle.wire_buf.specs.Watched.{inner_of, has_failed}
use Rattle.table_schemas.specs.MysqlTableMaps.{described_after}
use Rattle.table_schemas.specs.CompletingStates.{tables_in}
use Rattle.table_schemas.proofs.GivenLemmas.{event_given, event_waits, still_waits, to_end, to_error, to_next, to_waits, waiting_given}
use Rattle.table_schemas.proofs.completed_events.CompletedEventsEvents.next_frame.Goals as goal

pub returns-in-Ok-clause-ok : goal.returns-in-Ok-clause-ok
returns-in-Ok-clause-ok g c =
    let s = c.args.self.now in
    let own = g.S.Events.MayGive s.source (g.R.Read.remaining (inner_of c.args.reader.now)) in
    let n = c.in-Ok.ensures.ok in
    event_given g.S.Events.newest g.S.Events.MayGive g.S.Events.at_hand _ c.give_waiting.new.self _ _ _ n
    (waiting_given own (tables_in s) s.described s.waits (g.S.Events.newest s.source) c.if-self.true c.in-Ok.ensures.whole (described_after s.described (g.S.Events.newest s.source)) _ refl n.event)

pub returns-in-Err-clause-err : goal.returns-in-Err-clause-err
returns-in-Err-clause-err g c =
    let s = c.args.self.now in
    let own = g.S.Events.MayGive s.source (g.R.Read.remaining (inner_of c.args.reader.now)) in
    event_waits g.S.Events.newest g.S.Events.MayGive g.S.Events.at_hand _ c.give_waiting.new.self _ _ (has_failed c.args.reader.now) c.in-Err.ensures.err
    (still_waits own (tables_in s) s.described s.waits (g.S.Events.newest s.source) c.if-self.true (has_failed c.args.reader.now))

pub returns-in-Ok-give_next-clause-ok : goal.returns-in-Ok-give_next-clause-ok
returns-in-Ok-give_next-clause-ok g c =
    let s = c.args.self.now in
    let old = g.S.Events.MayGive s.source (g.R.Read.remaining (inner_of c.args.reader.now)) in
    let new = g.S.Events.MayGive c.next_frame.new.self (g.R.Read.remaining (inner_of c.next_frame.new.reader)) in
    let event = g.S.Events.newest c.next_frame.new.self in
    let waiting = g.S.Events.at_hand c.next_frame.new.self in
    let frame = rw c.in-Ok-Event.field-0-is at c.in-Ok-Event.ensures.ok in
    let n = c.in-Ok-give_next.ensures.ok in
    event_given g.S.Events.newest g.S.Events.MayGive g.S.Events.at_hand _ c.give_next.new.self _ _ _ n
    (to_next old new (tables_in s) s.described s.waits (g.S.Events.newest s.source) (g.S.Events.newest s.source) c.if-self.false event waiting frame (described_after s.described event) _ refl n.event)

pub returns-in-Err-give_next-clause-err : goal.returns-in-Err-give_next-clause-err
returns-in-Err-give_next-clause-err g c =
    let s = c.args.self.now in
    let old = g.S.Events.MayGive s.source (g.R.Read.remaining (inner_of c.args.reader.now)) in
    let new = g.S.Events.MayGive c.next_frame.new.self (g.R.Read.remaining (inner_of c.next_frame.new.reader)) in
    let event = g.S.Events.newest c.next_frame.new.self in
    let waiting = g.S.Events.at_hand c.next_frame.new.self in
    let frame = rw c.in-Ok-Event.field-0-is at c.in-Ok-Event.ensures.ok in
    event_waits g.S.Events.newest g.S.Events.MayGive g.S.Events.at_hand _ c.give_next.new.self _ _ (has_failed c.next_frame.new.reader) c.in-Err-give_next.ensures.err
    (to_waits old new (tables_in s) s.described s.waits (g.S.Events.newest s.source) (g.S.Events.newest s.source) c.if-self.false event waiting frame (has_failed c.next_frame.new.reader))

pub returns-in-Ok-Ended-clause-ok : goal.returns-in-Ok-Ended-clause-ok
returns-in-Ok-Ended-clause-ok g c =
    let s = c.args.self.now in
    let old = g.S.Events.MayGive s.source (g.R.Read.remaining (inner_of c.args.reader.now)) in
    let new = g.S.Events.MayGive c.next_frame.new.self (g.R.Read.remaining (inner_of c.next_frame.new.reader)) in
    let event = g.S.Events.newest c.next_frame.new.self in
    let waiting = g.S.Events.at_hand c.next_frame.new.self in
    to_end old new (tables_in s) s.described s.waits (g.S.Events.newest s.source) event c.if-self.false event waiting (rw c.in-Ok-Ended.field-0-is at c.in-Ok-Ended.ensures.ok)

pub returns-in-Err-next_frame-clause-err : goal.returns-in-Err-next_frame-clause-err
returns-in-Err-next_frame-clause-err g c =
    let s = c.args.self.now in
    let old = g.S.Events.MayGive s.source (g.R.Read.remaining (inner_of c.args.reader.now)) in
    let new = g.S.Events.MayGive c.next_frame.new.self (g.R.Read.remaining (inner_of c.next_frame.new.reader)) in
    let event = g.S.Events.newest c.next_frame.new.self in
    let waiting = g.S.Events.at_hand c.next_frame.new.self in
    rw c.after-self.ensures
    (to_error old new (tables_in s) s.described s.waits (g.S.Events.newest s.source) event c.if-self.false _ event waiting event s.mysql.event.items s.event.items c.in-Err-next_frame.fault c.in-Err-next_frame.ensures.err)
