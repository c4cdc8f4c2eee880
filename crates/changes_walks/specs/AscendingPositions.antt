-- A log whose positions ascend, and a filter with positions: the manual page of binlog-changes, "Options of json".
use Rattle.std.specs.Prelude.{ℕ, List, map, Option}
use Rattle.std.specs.List.Sorted.{IsStrictlyIncreasing}
use Rattle.feed_transactions.specs.Changes.{Committed}
use Rattle.feed_change_log.specs.declared.filter.Filter.{Filter}

-- each transaction ends at a greater position than the one before it, as in a log whose positions fit in 32 bits
abbrev pub HasAscendingPositions : List Committed → Type 0
HasAscendingPositions ts = IsStrictlyIncreasing (map (λ t. t.commit.log_pos) ts)

-- the filter that takes, of what another takes, the transactions that end after the first position, and at the second or before it
abbrev pub with_positions : Filter → Option ℕ → Option ℕ → Filter
with_positions f after up_to = record {
  databases = f.databases;
  tables = f.tables;
  table_patterns = f.table_patterns;
  excluded = f.excluded;
  excluded_patterns = f.excluded_patterns;
  after = after;
  up_to = up_to;
  from_time = f.from_time;
  to_time = f.to_time;
}
