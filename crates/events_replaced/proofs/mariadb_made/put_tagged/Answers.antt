use Rattle.std.proofs.lemmas.Result.{on_ok_weaker}
use Rattle.events_replaced.proofs.MadeLemmas.{gtid_body_len, made_joined}
use Rattle.events_replaced.proofs.mariadb_made.put_tagged.Goals as goal

pub returns-clause-made : goal.returns-clause-made
returns-clause-made c =
    on_ok_weaker c.put_gtid_body.result (λ e. made_joined _ c.put_header.new.out.items _ _ c.args.event.now 42 _ c.in_ok-put_header.ensures.made e (gtid_body_len c.args.event.now c.requires.long)) c.put_gtid_body.ensures.made
