use Rattle.std.proofs.Common.{length}
use Rattle.changes_commands.specs.GrowingTexts.{Grows}
use Rattle.changes_commands.proofs.brief_mariadb.put_list.Given as goal

abbrev pub invariant-loop-rest : goal.invariant-loop-rest
invariant-loop-rest l = Grows l.fn.out l.out

abbrev pub decreases-loop-rest : goal.decreases-loop-rest
decreases-loop-rest l = length l.rest
