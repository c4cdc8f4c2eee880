use Rattle.changes_commands.proofs.GrowingLemmas.{grows_then}
use Rattle.changes_commands.proofs.payload_lines.PayloadLines.put_content.Goals as goal

pub loop-len-preserved : goal.loop-len-preserved
loop-len-preserved g c = grows_then c.args.out.now c.loop-len.out c.put_line.new.out c.loop-len.invariant c.put_line.ensures
