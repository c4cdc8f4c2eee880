use Rattle.std.proofs.Common.{rules}
use Rattle.events_frames.specs.EventParts.{event_parts_of}
use Rattle.events_frames.specs.ReadingViews.{reading_of}
use Rattle.changes_commands.specs.EventLines.{Accepted}
use Rattle.changes_commands.proofs.EventLineLemmas.{unread_listed}
use Rattle.changes_commands.proofs.brief.put_brief.Goals as goal

pub returns-in-Ok-clause-read : goal.returns-in-Ok-clause-read
returns-in-Ok-clause-read g c = λ short. Accepted (event_parts_of c.in-Ok.parts) c.in-Ok.ensures.ok (c.put_parts.ensures.named short)

pub returns-in-Err : goal.returns-in-Err
returns-in-Err g c = record {
  text = (_, c.words.ensures);
  read = λ short. unread_listed (g.N.Names.databases c.args.names.now) (g.N.Names.tables c.args.names.now) (reading_of c.args.reader.now) (reading_of c.read_slice.new.self) c.args.event.now c.in-Err.field-0 c.in-Err.ensures.err (λ memory. search rules) c.in-Err.ensures.unchanged;
}
