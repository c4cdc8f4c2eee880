use Rattle.std.proofs.Common.{refl, ap}
use Rattle.feed_replication.proofs.rehearsal.rehearse_growing.Goals as goal

pub run_steps-requires-clause-keeps : goal.run_steps-requires-clause-keeps
run_steps-requires-clause-keeps g c = ap (λ b. b.now) c.in-Ok.ensures.started.checksum_is

pub run_steps-requires-clause-starts : goal.run_steps-requires-clause-starts
run_steps-requires-clause-starts g c =
    let s = c.in-Ok.ensures.started in
    record { after = s.after; request = refl; asked_position = s.asked_position; server_is = s.server_is; name_is = s.name_is; format_is = s.format_is; limit_is = s.limit_is; checksum_is = refl; none_waits = s.none_waits; no_verdict = s.no_verdict }
