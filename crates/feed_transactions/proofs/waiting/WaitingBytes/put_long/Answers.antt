use Rattle.std.proofs.lemmas.Result.{IfErr-weaker, on_ok_weaker}
use Rattle.wire_buf.proofs.EncodingLemmas.{IfErr-of_same}
use Rattle.feed_transactions.proofs.WaitingLemmas.{writes_next, interrupted_before, interrupted_after}
use Rattle.feed_transactions.proofs.waiting.WaitingBytes.put_long.Goals as goal

pub returns-in_err-write_all-clause-fault : goal.returns-in_err-write_all-clause-fault
returns-in_err-write_all-clause-fault g c = IfErr-of_same _ _ _ c.from_residual.ensures (interrupted_before _ _ _ _ _ _ c.in_err-write_all.ensures.fault)

pub returns-clause-ok : goal.returns-clause-ok
returns-clause-ok g c = on_ok_weaker c.put_all.result (λ w. writes_next _ _ _ _ _ _ c.in_ok-write_all.ensures.ok w c.write_all.ensures.none) c.put_all.ensures.ok

pub returns-clause-fault : goal.returns-clause-fault
returns-clause-fault g c = IfErr-weaker c.put_all.result _ _ (λ v h. interrupted_after _ _ _ _ _ _ v c.in_ok-write_all.ensures.ok h) c.put_all.ensures.fault
