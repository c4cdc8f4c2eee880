use Rattle.binlog_feed.proofs.IndependenceLemmas.{equal-rests}
use Rattle.binlog_feed.proofs.RestLemmas.{is-position}
use Rattle.binlog_feed.proofs.laws.equal_bytes_have_equal_rests.Goals as goal

pub returns-clause-rests : goal.returns-clause-rests
returns-clause-rests c = equal-rests

pub returns-clause-between : goal.returns-clause-between
returns-clause-between c = λ b position h. (is-position b position h).between
