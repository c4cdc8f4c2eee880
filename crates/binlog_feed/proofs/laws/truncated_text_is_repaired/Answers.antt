use Rattle.binlog_feed.proofs.RepairLemmas.{truncated-text-is-repaired}
use Rattle.binlog_feed.proofs.laws.truncated_text_is_repaired.Goals as goal

pub returns : goal.returns
returns c = truncated-text-is-repaired
