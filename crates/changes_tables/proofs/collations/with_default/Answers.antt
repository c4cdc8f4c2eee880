use Rattle.std.proofs.Common.{List, ℕ, slice_index, sym, ap, ◌∙◌}
use Rattle.std.specs.Prelude.{unwrap_or}
use Rattle.std.proofs.lemmas.List.FromFn.{fill_by_all}
use Rattle.rows_errors.specs.Readings.{Reading}
use Rattle.rows_table_map.specs.MetadataViews.{default_charset_view}
use Rattle.changes_tables.specs.UsedMetadata.{readable, last_some}
use Rattle.changes_tables.specs.ColumnParts.{own_collation, collation_or_default}
use Rattle.changes_tables.proofs.collations.with_default.Goals as goal

pub returns : goal.returns
returns c =
    let found = c.loop-other.found.items in
    fill_by_all (collation_or_default (default_charset_view c.args.charsets)) found c.args.count 0 c.loop-other.invariant.all
    (λ k h. ap (λ (r : List (Reading (ℕ × ℕ))). unwrap_or (last_some (own_collation k) (readable r)) (slice_index found k)) (sym c.in-None.ensures.steps.0) ∙ c.loop-other.invariant.each k h)
