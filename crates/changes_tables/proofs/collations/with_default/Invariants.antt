use Rattle.std.proofs.Common.{◌≡◌, ◌<◌, ℕ, length, slice_index}
use Rattle.std.specs.Prelude.{unwrap_or}
use Rattle.rows_table_map.specs.MetadataViews.{default_charset_view, non_default_left}
use Rattle.changes_tables.specs.UsedMetadata.{readable, last_some}
use Rattle.changes_tables.specs.ColumnParts.{own_collation, collation_or_default}
use Rattle.changes_tables.proofs.collations.with_default.Given as goal

abbrev pub invariant-loop-other : goal.invariant-loop-other
invariant-loop-other l = record {
  all : length l.found.items ≡ l.count;
  each : (j : ℕ) → j < l.count → unwrap_or (last_some (own_collation j) (readable (non_default_left l.other-iterator))) (slice_index l.found.items j) ≡ collation_or_default (default_charset_view l.fn.charsets) j;
}
