use Rattle.changes_commands.proofs.GrowingLemmas.{grows_then}
use Rattle.changes_commands.proofs.brief.put_statement.Goals as goal

pub returns-in-Some : goal.returns-in-Some
returns-in-Some c = grows_then c.args.out.now c.name.new.self c.words.new.self c.name.ensures (_, c.words.ensures)
