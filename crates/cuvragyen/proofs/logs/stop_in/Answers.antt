use Rattle.std.proofs.Common.{refl}
use Rattle.cuvragyen.proofs.ExportLemmas.{goes_to}
use Rattle.cuvragyen.proofs.logs.stop_in.Goals as goal

pub returns-clause-stops : goal.returns-clause-stops
returns-clause-stops c = goes_to _ _ c.in-Log.log c.finish.new.self c.in-Log.is (record {
  number = refl;
  stop = c.finish.result;
  represents = c.stop_of.ensures;
  ends = record { verdict = c.finish.ensures.verdict; counts = c.finish.ensures.counts; begin = c.finish.ensures.begin; unread = c.finish.ensures.unread; ended = c.finish.ensures.ended; fault = c.finish.ensures.fault };
})
