use Rattle.std.proofs.Common.{[]}
use Rattle.binlog_feed.proofs.WholeLemmas.{all-whole, not_opening, not_closing}
use Rattle.binlog_feed.proofs.laws.shown_transactions_are_whole.Goals as goal

pub returns-clause-whole : goal.returns-clause-whole
returns-clause-whole c = λ f l. all-whole f [] l

pub returns-clause-not_opening : goal.returns-clause-not_opening
returns-clause-not_opening c = not_opening

pub returns-clause-not_closing : goal.returns-clause-not_closing
returns-clause-not_closing c = not_closing
