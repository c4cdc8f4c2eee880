use Rattle.std.proofs.Common.{ap, ◌∙◌}
use Rattle.events_frames.specs.Headers.{event_header_of}
use Rattle.program_changes.proofs.stats.StatsSinkTransactionSinkStatsRecorder.log_pos.Goals as goal

pub returns : goal.returns
returns c = λ t d. c.log_pos.ensures ∙ (ap (λ h. (event_header_of h).log_pos) c.commit_header.ensures ∙ ap (λ h. h.log_pos) d.commit)
