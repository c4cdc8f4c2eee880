use Rattle.changes_commands.proofs.GrowingLemmas.{grows_then}
use Rattle.changes_commands.proofs.brief_mariadb.put_list.Goals as goal

pub loop-rest-preserved : goal.loop-rest-preserved
loop-rest-preserved c = grows_then c.args.out.now c.loop-rest.out c.put_separator.new.out c.loop-rest.invariant (grows_then c.loop-rest.out c.put_listed.new.out c.put_separator.new.out c.put_listed.ensures c.put_separator.ensures)
