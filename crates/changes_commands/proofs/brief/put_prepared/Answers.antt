use Rattle.changes_commands.proofs.GrowingLemmas.{grows_then}
use Rattle.changes_commands.proofs.brief.put_prepared.Goals as goal

pub returns : goal.returns
returns c = grows_then c.args.out.now c.put.new.self c.words-3.new.self (grows_then c.args.out.now c.words-2.new.self c.put.new.self (_, c.words-2.ensures) (_, c.put.ensures)) (_, c.words-3.ensures)
