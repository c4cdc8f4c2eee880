use Rattle.std.proofs.Common.{arith}
use Rattle.std.proofs.lemmas.Result.{on_ok_weaker}
use Rattle.events_replaced.proofs.MadeLemmas.{made_joined, statement_body_len}
use Rattle.events_replaced.proofs.mariadb_made.put_statement.Goals as goal

pub returns-clause-made : goal.returns-clause-made
returns-clause-made c =
    on_ok_weaker c.put_statement_body.result (λ e. made_joined _ c.put_header.new.out.items _ _ c.args.event.now 2 _ c.in_ok-put_header.ensures.made e (omega (arith, statement_body_len c.args.thread_id c.args.statement.now))) c.put_statement_body.ensures.made
