use Rattle.wire_buf.proofs.EncodingLemmas.{IfErr-of_same}
use Rattle.feed_transactions.proofs.WaitingLemmas.{interrupted_before}
use Rattle.feed_transactions.proofs.waiting.WaitingBytes.put.Goals as goal

pub returns-in_err-write_if-clause-fault : goal.returns-in_err-write_if-clause-fault
returns-in_err-write_if-clause-fault g c = IfErr-of_same _ _ _ c.from_residual.ensures (interrupted_before _ _ _ _ _ _ c.in_err-write_if.ensures.fault)
