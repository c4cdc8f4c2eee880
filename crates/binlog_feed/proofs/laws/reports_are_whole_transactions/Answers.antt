use Rattle.binlog_feed.proofs.CompleteReports.{whole_reports}
use Rattle.binlog_feed.proofs.laws.reports_are_whole_transactions.Goals as goal

pub returns : goal.returns
returns c = whole_reports
