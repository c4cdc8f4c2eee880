use Rattle.std.proofs.Common.{length}
use Rattle.changes_commands.specs.GrowingTexts.{Grows}
use Rattle.changes_commands.proofs.payload_lines.PayloadLines.put_content.Given as goal

abbrev pub invariant-loop-len : goal.invariant-loop-len
invariant-loop-len g l = Grows l.fn.out l.out

abbrev pub decreases-loop-len : goal.decreases-loop-len
decreases-loop-len g l = length l.rest
