-- What is counted of transactions.
use Rattle.std.specs.Prelude.{◌≡◌, ◌+◌, ◌-◌, ◌^◌, ◌%◌, ◌==◌, ◌&&◌, ℕ, Bool, List, [], ◌∷◌, length, map, Option, sum_by, if◌then◌else◌}
use Rattle.std.specs.List.{flat_map}
use Rattle.feed_checks.specs.Kinds.{Gtid}
use Rattle.feed_transactions.specs.KeptGtids.{kept_gtid}
use Rattle.changes_stats.specs.RowSums.{all_rows, capped, sum_of_counts}
use Rattle.changes_stats.specs.Courses.{IsCourse}
use Rattle.changes_stats.specs.Largest.{AreLargest, Large}
use Rattle.changes_stats.specs.TableNames.{names_text}
use Rattle.changes_stats.specs.TableSums.{AreTables, NamedCounts, tables_in}
use Rattle.changes_stats.specs.declared.counts.Counts.{Counts}
use Rattle.changes_stats.specs.declared.counts.RowCounts.{RowCounts}
use Rattle.changes_stats.specs.declared.recorder.StatsRecorder.{StatsRecorder}
use Rattle.changes_stats.specs.declared.totals.Totals.{Totals}

-- a transaction: its log, the position at which it begins and that after it, its time, its GTID, its rows by table and in all, and its statements
pub record Counted : Type 0 where
  pub file : List ℕ
  pub begin : ℕ
  pub end : ℕ
  pub seconds : ℕ
  pub gtid : Option Gtid
  pub tables : List NamedCounts
  pub all : RowCounts
  pub statements : ℕ

-- its bytes: positions have 32 bits
abbrev pub bytes_of : Counted → ℕ
bytes_of t = (t.end + (2 ^ 32 - t.begin)) % 2 ^ 32

-- that of a recorder
abbrev pub transaction_of : List ℕ → StatsRecorder → Counted
transaction_of file s = record {
  file = file;
  begin = s.begin;
  end = s.commit.log_pos;
  seconds = s.commit.timestamp;
  gtid = kept_gtid s.gtid;
  tables = tables_in s.tables;
  all = s.all;
  statements = s.statements;
}

-- whether it has neither rows of a table nor statements
abbrev pub has_nothing : StatsRecorder → Bool
has_nothing s = length s.tables.entries == 0 && s.statements == 0

-- that of a recorder, if it has some
abbrev pub counted : List ℕ → StatsRecorder → List Counted
counted file s = if has_nothing s then [] else transaction_of file s ∷ []

-- the counts of transactions: how many, and the sums of their statements, rows and bytes
abbrev pub counts_of : List Counted → Counts
counts_of l = record {
  transactions = capped (length l);
  statements = capped (sum_by (λ t. t.statements) l);
  rows = sum_of_counts (map (λ t. t.all) l);
  bytes = capped (sum_by bytes_of l);
}

-- one of the largest
abbrev pub large : Counted → Large
large t = record {
  rows = all_rows t.all;
  bytes = bytes_of t;
  file = t.file;
  begin = t.begin;
  end = t.end;
  seconds = t.seconds;
  gtid = t.gtid;
  tables = names_text (map (λ t. t.name) t.tables);
}

-- the counts, the tables, the largest transactions and the course of these
pub record AreTotals (s : Totals) (l : List Counted) : Type 0 where
  pub counts : s.counts ≡ counts_of l
  pub tables : AreTables s.tables (flat_map (λ t. t.tables) l)
  pub largest : AreLargest s.largest (map large l)
  pub course : IsCourse s.course (map (λ t. (t.seconds, all_rows t.all)) l)
