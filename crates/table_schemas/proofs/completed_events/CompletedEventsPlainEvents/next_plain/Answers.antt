use Rattle.wire_buf.specs.Watched.{inner_of}
use Rattle.std.proofs.lemmas.List.{nil_from_length}
use Rattle.table_schemas.specs.CompletingStates.{tables_in}
use Rattle.table_schemas.proofs.PlainLemmas.{plain_given}
use Rattle.table_schemas.proofs.completed_events.CompletedEventsPlainEvents.next_plain.Goals as goal

pub returns-clause-given : goal.returns-clause-given
returns-clause-given g c taken =
    let i = c.requires.idle in
    let s = c.args.self.now in
    let old = g.S.Events.MayGive s.source (g.R.Read.remaining (inner_of c.args.reader.now)) in
    let new = g.S.Events.MayGive c.next_plain.new.self (g.R.Read.remaining (inner_of c.next_plain.new.reader)) in
    let event = g.S.Events.newest c.next_plain.new.self in
    let waiting = g.S.Events.at_hand c.next_plain.new.self in
    rw i.own (plain_given old new (tables_in s) s.described s.waits (g.S.Events.newest s.source) event event waiting i.none i.mysql (nil_from_length (tables_in s) i.tables) (c.next_plain.ensures.given taken))
