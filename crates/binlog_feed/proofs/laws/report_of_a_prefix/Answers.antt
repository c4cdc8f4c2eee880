use Rattle.feed_transactions.proofs.PrefixLemmas.{file_transactions-append}
use Rattle.binlog_feed.proofs.laws.report_of_a_prefix.Goals as goal

pub returns : goal.returns
returns c = file_transactions-append
