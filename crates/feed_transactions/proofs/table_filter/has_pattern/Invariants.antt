use Rattle.std.proofs.Common.{◌≡◌, drop}
use Rattle.feed_transactions.specs.TableFilters.{has_pattern}
use Rattle.feed_transactions.proofs.table_filter.has_pattern.Given as goal

-- the table is like none of the patterns so far
abbrev pub invariant-loop-first : goal.invariant-loop-first
invariant-loop-first l = has_pattern l.patterns l.database l.table ≡ has_pattern (drop l.first-index l.patterns) l.database l.table
