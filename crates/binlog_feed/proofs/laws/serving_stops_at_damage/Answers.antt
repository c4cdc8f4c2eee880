use Rattle.binlog_feed.proofs.ServingLemmas.{stops-at-damage}
use Rattle.binlog_feed.proofs.laws.serving_stops_at_damage.Goals as goal

pub returns : goal.returns
returns c = stops-at-damage
