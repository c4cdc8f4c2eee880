-- The largest of transactions by their rows.
use Rattle.std.specs.Prelude.{◌≡◌, ◌+◌, ℕ, Bool, List, [], ◌∷◌, filter, fold, map, take, Option, nat_lt, if◌then◌else◌}
use Rattle.feed_checks.specs.Kinds.{Gtid}
use Rattle.feed_transactions.specs.KeptGtids.{kept_gtid}
use Rattle.changes_stats.specs.declared.largest.LargeTransaction.{LargeTransaction}
use Rattle.changes_stats.specs.declared.largest.LargestTransactions.{LargestTransactions}

-- a transaction: its rows and its bytes, its log, the position at which it begins and that after it, its time, its GTID, and the names of its tables
pub record Large : Type 0 where
  pub rows : ℕ
  pub bytes : ℕ
  pub file : List ℕ
  pub begin : ℕ
  pub end : ℕ
  pub seconds : ℕ
  pub gtid : Option Gtid
  pub tables : List ℕ

-- the same, as a `LargeTransaction` has it
abbrev pub large_of : LargeTransaction → Large
large_of t = record { rows = t.rows; bytes = t.bytes; file = t.file.items; begin = t.begin; end = t.end; seconds = t.seconds; gtid = kept_gtid t.gtid; tables = t.tables.items }

-- whether it has rows
abbrev pub has_rows : Large → Bool
has_rows t = nat_lt 0 t.rows

-- one more among others: before the first with fewer rows
abbrev pub placed : Large → List Large → List Large
placed t [] = t ∷ []
placed t (u ∷ l) = if nat_lt u.rows t.rows then t ∷ u ∷ l else u ∷ placed t l

-- all of them, those with the most rows first, and of those with as many the first first
unfoldable pub ranked : List Large → List Large
ranked l = fold (λ r t. placed t r) [] l

-- the first of these are kept
abbrev pub AreLargest : LargestTransactions → List Large → Type 0
AreLargest s l = map large_of s.list.items ≡ take s.count (ranked (filter has_rows l))

-- the index of the first with fewer rows
abbrev pub index_of : ℕ → List Large → ℕ
index_of rows [] = 0
index_of rows (u ∷ l) = if nat_lt u.rows rows then 0 else index_of rows l + 1
