use Rattle.binlog_feed.proofs.LineLemmas.{a-line-for-each-row, a-line-for-each-pair, pairs-to-the-end, rows-of-the-event}
use Rattle.binlog_feed.proofs.laws.a_line_for_each_row.Goals as goal

pub returns-clause-lines : goal.returns-clause-lines
returns-clause-lines c = a-line-for-each-row

pub returns-clause-pairs : goal.returns-clause-pairs
returns-clause-pairs c = a-line-for-each-pair

pub returns-clause-to_the_end : goal.returns-clause-to_the_end
returns-clause-to_the_end c = pairs-to-the-end

pub returns-clause-rows : goal.returns-clause-rows
returns-clause-rows c = rows-of-the-event
