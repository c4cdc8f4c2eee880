use Rattle.std.proofs.Common.{ap, sym, ◌∙◌}
use Rattle.events_frames.specs.EventParts.{event_parts_of}
use Rattle.events_frames.specs.ReadingViews.{reading_of}
use Rattle.changes_commands.proofs.EventLineLemmas.{mariadb_named, rotate_named}
use Rattle.changes_commands.proofs.brief.put_parts.Goals as goal

pub returns-then-event_type_raw-clause-named : goal.returns-then-event_type_raw-clause-named
returns-then-event_type_raw-clause-named g c = λ short. sym (rotate_named (g.N.Names.databases c.args.names.now) (g.N.Names.tables c.args.names.now) (reading_of c.args.reader.now) (event_parts_of c.args.parts.now) cc)

pub returns-in-Some-clause-named : goal.returns-in-Some-clause-named
returns-in-Some-clause-named g c = λ short. sym (mariadb_named (g.N.Names.databases c.args.names.now) (g.N.Names.tables c.args.names.now) (reading_of c.args.reader.now) (event_parts_of c.args.parts.now) c.in-Some.mariadb_type (c.in-Some.ensures.some ∙ c.event_type_raw-2.ensures ∙ ap (λ h. h.event_type) c.header-2.ensures))
