use Rattle.std.proofs.Common.{List, ℕ, ap, length, refl, sym, ◌∙◌, ◌≤◌}
use Rattle.std.specs.Prelude.{if◌then◌else◌}
use Rattle.table_schemas.specs.CompletedMaps.{tables_of}
use Rattle.table_schemas.specs.CompletingStates.{newest_by, tables_in}
use Rattle.table_schemas.specs.MysqlTableMaps.{mysql_map_in}
use Rattle.table_schemas.specs.declared.completed_events.Newest.{Newest}
use Rattle.table_schemas.proofs.MapLemmas.{chosen_long, map_given, newest_at_hand, no_tables, own_given}
use Rattle.table_schemas.proofs.completed_events.CompletedEvents.give_map.Goals as goal

pub returns-then-not-self-clause-ok : goal.returns-then-not-self-clause-ok
returns-then-not-self-clause-ok g c =
    let s = c.args.self.now in
    record {
      source = refl;
      tables = refl;
      described_is = refl;
      given = refl;
      event = own_given (tables_in s) s.described (g.S.Events.newest s.source) (no_tables (tables_in s) c.is_empty.result c.is_empty.ensures c.if-is_empty.true) c.if-not-self.true;
      at_hand = λ hand. refl;
    }

pub put_completed-requires : goal.put_completed-requires
put_completed-requires g c =
    let s = c.args.self.now in
    let a = c.in_ok-is_mysql_made.is_mysql_made in
    chosen_long s.described (g.S.Events.newest s.source) c.made_or_own-event.result.now c.requires.long
    (c.made_or_own-event.ensures
    ∙ ap (λ (m : List ℕ). if a then m else c.event-event.result.now) c.deref.ensures.value
    ∙ c.in_ok-is_mysql_made.ensures
    ∙ ap (mysql_map_in s.described) c.event-event.ensures)

pub returns-clause-ok : goal.returns-clause-ok
returns-clause-ok g c =
    let s = c.args.self.now in
    let own = g.S.Events.newest s.source in
    let a = c.in_ok-is_mysql_made.is_mysql_made in
    let b = c.in_ok-is_completed.is_completed in
    let mysql = c.put.new.self.event.items in
    let made = c.put_completed.new.out.items in
    record {
      source = refl;
      tables = c.put_completed.ensures.tables;
      described_is = refl;
      given = refl;
      event =
          ap (λ (n : Newest). newest_by n own mysql made) c.of-self.ensures
          ∙ map_given a b (tables_in s) s.described own mysql made c.made_or_own-event.result.now c.requires.map c.requires.long
          (rw c.event-event.ensures at c.in_ok-is_mysql_made.ensures)
          (c.made_or_own-event.ensures ∙ ap (λ (m : List ℕ). if a then m else c.event-event.result.now) c.deref.ensures.value ∙ ap (λ (o : List ℕ). if a then mysql else o) c.event-event.ensures)
          c.in_ok-is_completed.ensures.completed;
      at_hand = λ hand. rw c.of-self.ensures (newest_at_hand a b (hand s.source));
    }
