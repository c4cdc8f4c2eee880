use Rattle.std.proofs.Common.{refl}
use Rattle.program_kept.proofs.LineWritingLemmas.{writes_more, writes_prefix}
use Rattle.program_kept.proofs.writing.put_all.Goals as goal

pub loop-rest-preserved : goal.loop-rest-preserved
loop-rest-preserved g c = writes_more _ _ _ c.args.bytes.now c.loop-rest.rest.now c.split_at.result.1.now c.in-Ok.taken c.loop-rest.invariant c.in-Ok.ensures.bytes c.split_at.ensures.back

pub returns-in-Err-clause-err : goal.returns-in-Err-clause-err
returns-in-Err-clause-err g c = (refl, writes_prefix _ _ _ c.args.bytes.now c.loop-rest.rest.now c.loop-rest.invariant c.in-Err.ensures.bytes, c.in-Err.ensures.err)
