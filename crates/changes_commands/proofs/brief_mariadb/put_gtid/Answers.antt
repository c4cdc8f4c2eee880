use Rattle.changes_commands.proofs.GrowingLemmas.{grows_then}
use Rattle.changes_commands.proofs.brief_mariadb.put_gtid.Goals as goal

pub returns : goal.returns
returns c = grows_then c.args.out.now c.label.new.self c.label-2.new.self (grows_then c.args.out.now c.unsigned.new.self c.label.new.self (_, c.unsigned.ensures) (_, c.label.ensures)) (_, c.label-2.ensures)
