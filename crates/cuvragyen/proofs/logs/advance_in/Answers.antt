use Rattle.cuvragyen.proofs.ExportLemmas.{goes_to}
use Rattle.cuvragyen.proofs.logs.advance_in.Goals as goal

pub returns-in-Log-clause-next : goal.returns-in-Log-clause-next
returns-in-Log-clause-next c = goes_to _ _ c.in-Log.log c.advance.new.self c.in-Log.is (record {
  returned = c.advance.result;
  number = c.number_of_next.ensures;
  advances = c.advance.ensures.advances;
  fault = c.advance.ensures.fault;
  like = c.advance.ensures.like;
  newest = c.advance.ensures.newest;
  filter = c.advance.ensures.filter;
})
