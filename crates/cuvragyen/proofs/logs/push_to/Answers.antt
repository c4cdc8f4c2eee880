use Rattle.cuvragyen.proofs.ExportLemmas.{goes_to}
use Rattle.cuvragyen.proofs.logs.push_to.Goals as goal

pub returns-in-Log-clause-keeps : goal.returns-in-Log-clause-keeps
returns-in-Log-clause-keeps c = goes_to _ _ c.in-Log.log c.push.new.self c.in-Log.is (record {
  returned = c.push.result;
  number = c.number_of_done.ensures;
  ok = c.push.ensures.ok;
  fault = c.push.ensures.fault;
  err = c.push.ensures.err;
  recorder = c.push.ensures.recorder;
  source = c.push.ensures.source;
  filter = c.push.ensures.filter;
})
