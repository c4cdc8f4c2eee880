use Rattle.binlog_feed.proofs.KindLemmas.{inside-open}
use Rattle.binlog_feed.proofs.laws.inside_is_an_open_begin.Goals as goal

pub returns : goal.returns
returns c = inside-open
