use Rattle.binlog_feed.proofs.LastCommitLemmas.{events-end, streams-end, runs-end}
use Rattle.binlog_feed.proofs.laws.the_last_commit_line_has_the_last_position.Goals as goal

pub returns-clause-events : goal.returns-clause-events
returns-clause-events c = events-end

pub returns-clause-stream : goal.returns-clause-stream
returns-clause-stream c = streams-end

pub returns-clause-run : goal.returns-clause-run
returns-clause-run c = runs-end
