use Rattle.changes_resume.proofs.ReadingLemmas.{takes_none, takes_piece}
use Rattle.changes_resume.proofs.reading.keep_all.Goals as goal

pub loop-keeper-init : goal.loop-keeper-init
loop-keeper-init g c = takes_none _ _ c.new-keeper.ensures

pub loop-keeper-preserved : goal.loop-keeper-preserved
loop-keeper-preserved g c = takes_piece _ _ _ _ _ _ c.loop-keeper.invariant c.in-Ok.ensures.bytes.0 c.in_default.ensures
