use Rattle.binlog_feed.proofs.ChangeFollowLemmas.{resumes_alike}
use Rattle.binlog_feed.proofs.follower_laws.position_after_the_last_is_that_of_the_text.Goals as goal

pub returns : goal.returns
returns c = resumes_alike
