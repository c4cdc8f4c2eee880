-- What `stats` has counted: the selected transactions of a log.
use Rattle.std.specs.Prelude.{◌≡◌, ◌++◌, ◌==◌, ◌&&◌, ℕ, Bool, List, length, map, not}
use Rattle.std.specs.List.{AllZip, filter}
use Rattle.changes_stats.specs.CountedTransactions.{AreTotals, Counted}
use Rattle.changes_stats.specs.RecordedCounts.{changes_counts, is_statement}
use Rattle.changes_stats.specs.RowSums.{capped, sum_of_counts}
use Rattle.changes_stats.specs.TableSums.{AreSummed}
use Rattle.changes_walks.specs.Selections.{Selected}
use Rattle.program_changes.specs.declared.stats.StatsSink.{StatsSink}

-- a transaction as it is counted: its log, the position after it, its time, its GTID, and the sums of those of its changes that are selected; where it begins isn't stated
pub record IsCounted (file : List ℕ) (s : Selected) (c : Counted) : Type 0 where
  pub file_is : c.file ≡ file
  pub position : c.end ≡ s.transaction.commit.log_pos
  pub time : c.seconds ≡ s.transaction.commit.timestamp
  pub gtid_is : c.gtid ≡ s.transaction.gtid
  pub all_rows : c.all ≡ sum_of_counts (map (λ t. t.counts) (changes_counts s.changes))
  pub by_table : AreSummed c.tables (changes_counts s.changes)
  pub statements_are : c.statements ≡ capped (length (filter (λ c. is_statement c.content) s.changes))

-- whether it has rows of a table, or statements
abbrev pub has_some : Counted → Bool
has_some c = not (length c.tables == 0 && c.statements == 0)

-- since the first state these transactions were counted, but for those that have nothing
pub record CountsAll (first s : StatsSink) (m : List Selected) : Type 0 where
  pub name : s.file.now ≡ first.file.now
  pub counted : List Counted
  pub are : AllZip (IsCounted first.file.now) m counted
  pub totals_are : (l : List Counted) → AreTotals first.totals.now l → AreTotals s.totals.now (l ++ filter has_some counted)
