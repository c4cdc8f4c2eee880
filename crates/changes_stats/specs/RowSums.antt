-- Sums of what transactions have: rows by their kind, statements, and bytes.
use Rattle.std.specs.Prelude.{◌+◌, ℕ, List, min, sum_by}
use Rattle.rows_event_body.specs.declared.rows_event_type.RowImages.{RowImages}
use Rattle.rows_event_body.specs.declared.rows_event_type.RowImages.TheVariants as images
use Rattle.changes_stats.specs.declared.counts.Counts.{Counts}
use Rattle.changes_stats.specs.declared.counts.RowCounts.{RowCounts}

-- a number, or the greatest of 64 bits
abbrev pub capped : ℕ → ℕ
capped n = min n 18446744073709551615

-- all rows, of each kind
abbrev pub all_rows : RowCounts → ℕ
all_rows c = capped (capped (c.inserted + c.deleted) + c.updated)

-- the rows of two, kind by kind, and the bytes of their events
abbrev pub plus : RowCounts → RowCounts → RowCounts
plus a b = record {
  inserted = capped (a.inserted + b.inserted);
  deleted = capped (a.deleted + b.deleted);
  updated = capped (a.updated + b.updated);
  bytes = capped (a.bytes + b.bytes);
}

-- the rows of all, kind by kind, and the bytes of their events
unfoldable pub sum_of_counts : List RowCounts → RowCounts
sum_of_counts l = record {
  inserted = capped (sum_by (λ c. c.inserted) l);
  deleted = capped (sum_by (λ c. c.deleted) l);
  updated = capped (sum_by (λ c. c.updated) l);
  bytes = capped (sum_by (λ c. c.bytes) l);
}

-- the rows of an event: images after the change alone are those of inserted rows, images before it those of deleted ones
abbrev pub of_event : RowImages → ℕ → ℕ → RowCounts
of_event images.After rows bytes = record { inserted = rows; deleted = 0; updated = 0; bytes = bytes }
of_event images.Before rows bytes = record { inserted = 0; deleted = rows; updated = 0; bytes = bytes }
of_event _ rows bytes = record { inserted = 0; deleted = 0; updated = rows; bytes = bytes }

-- the counts with one more transaction
abbrev pub with_transaction : Counts → RowCounts → ℕ → ℕ → Counts
with_transaction c rows statements bytes = record {
  transactions = capped (c.transactions + 1);
  statements = capped (c.statements + statements);
  rows = plus c.rows rows;
  bytes = capped (c.bytes + bytes);
}
