use Rattle.changes_commands.proofs.GrowingLemmas.{grows_then}
use Rattle.changes_commands.proofs.brief.put_rotate.Goals as goal

pub returns-in-Ok : goal.returns-in-Ok
returns-in-Ok c = grows_then c.args.out.now c.name.new.self c.label.new.self c.name.ensures (_, c.label.ensures)
