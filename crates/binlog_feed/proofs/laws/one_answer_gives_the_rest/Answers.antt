use Rattle.binlog_feed.proofs.RestLemmas.{gives-the-rest}
use Rattle.binlog_feed.proofs.laws.one_answer_gives_the_rest.Goals as goal

pub returns : goal.returns
returns c = gives-the-rest
