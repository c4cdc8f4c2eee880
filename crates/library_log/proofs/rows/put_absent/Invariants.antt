use Rattle.library_log.specs.RecordParts.{Appends}
use Rattle.library_log.proofs.rows.put_absent.Given as goal

abbrev pub invariant-loop : goal.invariant-loop
invariant-loop l = Appends l.fn.out.items l.out.items
